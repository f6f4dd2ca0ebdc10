-- What three miners are started with: their files begin with one prefix.
use Rattle.std.specs.Prelude.{ℕ, List, [], ◌∷◌, ◌++◌, codes}
use Rattle.std.specs.Fmt.{decimal}
use Rattle.proto_core.specs.declared.party.Number.{Number}
use Rattle.proto_core.specs.Parties.{number_text}

-- a miner's file: its kind and the miner's number stand after the prefix
abbrev pub path_of : (prefix kind : List ℕ) → Number → List ℕ
path_of prefix kind i = prefix ++ (kind ++ number_text i)

-- where a miner writes its text
abbrev pub out_path : (prefix : List ℕ) → Number → List ℕ
out_path prefix i = path_of prefix (codes ".o") i

-- the words of a miner's command, with its budget always
abbrev pub miner_words : (prefix : List ℕ) → (port budget : ℕ) → Number → List (List ℕ)
miner_words prefix port budget i =
    codes "miner"
    ∷ (prefix ++ codes ".code")
    ∷ codes "--me"
    ∷ number_text i
    ∷ codes "--share"
    ∷ path_of prefix (codes ".") i
    ∷ codes "--tape"
    ∷ path_of prefix (codes ".t") i
    ∷ codes "--port"
    ∷ decimal port
    ∷ codes "--out"
    ∷ out_path prefix i
    ∷ codes "--budget"
    ∷ decimal budget
    ∷ []
