-- The words that the client's view is made of: where a value is handed over, the new shares of miners 1 and 2 in the place of their words.
use Rattle.std.specs.Prelude.{ℕ, List}
use Rattle.proto_core.specs.Ring.{Ring}
use Rattle.proto_core.specs.declared.party.Number.{Number}
use Rattle.proto_core.specs.declared.party.Number.TheVariants.{One, Two, Three}
use Rattle.proto_core.specs.Lists.{at, each}
use Rattle.proto_core.specs.Protocol.{Joint, Protocol}
use Rattle.proto_core.specs.Resharing.{reshared_of}

-- s - u + a_p: the word that made the new share s of a share u, beside the previous miner's word a_p
unfoldable pub unshared : Ring → ℕ → (u share other : List ℕ) → List ℕ
unshared r n u share other = each n (λ k. r.add (r.sub (at share k) (at u k)) (at other k))

-- a_1 becomes u_1 + a_1 - a_3, and a_2 becomes u_2 + a_2 - a_1
abbrev pub client_row : Ring → ℕ → Joint → Number → List ℕ
client_row r n j One = reshared_of r n j One
client_row r n j Two = reshared_of r n j Two
client_row r n j Three = j.words Three

-- the way back: first a_1, and by it a_2
abbrev pub client_back : Ring → ℕ → Joint → Number → List ℕ
client_back r n j One = unshared r n (j.u One) (j.words One) (j.words Three)
client_back r n j Two = unshared r n (j.u Two) (j.words Two) (unshared r n (j.u One) (j.words One) (j.words Three))
client_back r n j Three = j.words Three

-- ---- ROWS IN THE PLACE OF A PROTOCOL'S OWN

-- a row and its way back, of n elements: whoever it is that looks
pub record Rows : Type 0 where
  pub there : ℕ → Joint → Number → List ℕ
  pub back : ℕ → Joint → Number → List ℕ

abbrev pub rowed : Rows → Protocol → Protocol
rowed rows p = record p { tape = λ n i j. rows.there n j; back = λ n i j. rows.back n j }

-- the client looks at what is handed over alone: there it has these rows, and all other words stay
abbrev pub handing : Ring → Rows
handing r = record { there = client_row r; back = client_back r }

abbrev pub leaving : Rows
leaving = record { there = λ n j. j.words; back = λ n j. j.words }
