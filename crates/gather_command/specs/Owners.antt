-- Owners of inputs who deal apart, and the one dealing that a miner gathers.
use Rattle.std.specs.Prelude.{ℕ, ◌≤◌, ◌+◌, List, [], ◌∷◌, ◌++◌, length, take, drop, map, All}
use Rattle.std.specs.List.{flat_map}
use Rattle.proto_core.specs.declared.party.Number.{Number}
use Rattle.value_file.specs.declared.inputs.Entry.{Entry}
use Rattle.input_share.specs.Dealing.{dealt, need_of}
use Rattle.input_share.specs.ShareFile.{MinerFile}

-- its inputs, and the words of its own dealer's tape
pub record Owner : Type 0 where
  pub inputs : List Entry
  pub words : List ℕ

-- it has words enough for its inputs
abbrev pub CanDeal : Owner → Type 0
CanDeal owner = need_of owner.inputs ≤ length owner.words

-- the lengths of the miners' tapes, which all owners know
pub record Lengths : Type 0 where
  pub one : ℕ
  pub two : ℕ
  pub three : ℕ

-- the lengths of four tapes, the dealer's first
abbrev pub lens_of : (dealer : ℕ) → Lengths → List ℕ
lens_of dealer miners = dealer ∷ miners.one ∷ miners.two ∷ miners.three ∷ []

-- what an owner deals to a miner
abbrev pub dealt_by : Number → Lengths → Owner → MinerFile
dealt_by miner miners owner = dealt miner owner.inputs owner.words (lens_of (length owner.words) miners)

-- all inputs, end to end
abbrev pub all_inputs : List Owner → List Entry
all_inputs owners = flat_map (λ owner. owner.inputs) owners

-- the words that the owners use, end to end
abbrev pub words_used : List Owner → List ℕ
words_used owners = flat_map (λ owner. take (need_of owner.inputs) owner.words) owners

-- the words that they leave
abbrev pub words_left : List Owner → List ℕ
words_left owners = flat_map (λ owner. drop (need_of owner.inputs) owner.words) owners

-- the tape of one dealer that deals all inputs as the owners do: the words that they use, and then those that they leave
abbrev pub one_tape : List Owner → List ℕ
one_tape owners = words_used owners ++ words_left owners

-- what that dealer deals to a miner
abbrev pub dealt_by_one : Number → Lengths → List Owner → MinerFile
dealt_by_one miner miners owners = dealt miner (all_inputs owners) (one_tape owners) (lens_of (length (one_tape owners)) miners)

-- what all owners deal to a miner
abbrev pub dealt_by_all : Number → Lengths → List Owner → List MinerFile
dealt_by_all miner miners owners = map (dealt_by miner miners) owners
