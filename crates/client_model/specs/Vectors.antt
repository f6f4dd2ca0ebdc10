-- A worked run: 6 times 7 is handed over, with words that are 0 but for one of miner 1's.
use Rattle.std.specs.Prelude.{◌≡◌, ℕ, List, [], ◌∷◌, refl}
use Rattle.proto_core.specs.declared.party.Number.{Number}
use Rattle.proto_core.specs.declared.party.Number.TheVariants.{One, Two, Three}
use Rattle.proto_core.specs.Lists.{each, part}
use Rattle.proto_core.specs.Resharing.{reshared, sum_of_three}
use Rattle.shared_gates.specs.Products.{cross}
use Rattle.gates.specs.declared.ring_kind.RingKind.TheVariants.{Arithmetic}
use Rattle.gates.specs.declared.gate.Gate.{Gate}
use Rattle.gates.specs.declared.gate.Gate.TheVariants.{Input, Mul, Result}
use Rattle.gates.specs.Clear.{Values}
use Rattle.handed_shares.specs.Handed.{all_of}
use Rattle.client_model.specs.ClientRows.{unshared}
use Rattle.client_model.specs.ClientMaps.{to_client, from_client}
use Rattle.client_model.specs.Given.{Given, made_from}
use Rattle.client_model.specs.Laws.{given}

program : List Gate
program = Input 0 ∷ Input 1 ∷ Mul 0 1 ∷ Result Arithmetic 2 ∷ []

-- dealt with zeros, the third miner has both
dealt : Number → Values
dealt One = (0 ∷ []) ∷ (0 ∷ []) ∷ []
dealt Two = (0 ∷ []) ∷ (0 ∷ []) ∷ []
dealt Three = (6 ∷ []) ∷ (7 ∷ []) ∷ []

-- miner 1's fourth word is 5
tapes : Number → List ℕ
tapes One = 0 ∷ 0 ∷ 0 ∷ 5 ∷ []
tapes Two = 0 ∷ 0 ∷ 0 ∷ 0 ∷ []
tapes Three = 0 ∷ 0 ∷ 0 ∷ 0 ∷ []

shares : List Given
shares = record { first = 5 ∷ []; second = 18446744073709551611 ∷ []; third = 42 ∷ [] } ∷ []

handed_over : given all_of dealt (1 ∷ 1 ∷ []) program tapes ≡ shares
unfolding program dealt tapes shares reshared each part cross sum_of_three
handed_over = refl

first_mapped : to_client all_of dealt (1 ∷ 1 ∷ []) program tapes One ≡ 0 ∷ 0 ∷ 0 ∷ 5 ∷ []
unfolding program dealt tapes reshared each part cross sum_of_three
first_mapped = refl

second_mapped : to_client all_of dealt (1 ∷ 1 ∷ []) program tapes Two ≡ 0 ∷ 0 ∷ 0 ∷ 18446744073709551611 ∷ []
unfolding program dealt tapes reshared each part cross sum_of_three
second_mapped = refl

second_back : from_client all_of dealt (1 ∷ 1 ∷ []) program (to_client all_of dealt (1 ∷ 1 ∷ []) program tapes) Two ≡ 0 ∷ 0 ∷ 0 ∷ 0 ∷ []
unfolding program dealt tapes reshared unshared each part cross sum_of_three
second_back = refl

-- of the published word and the mapped tapes; a word after it is left
made : made_from all_of 0 (1 ∷ 1 ∷ []) [] program ((42 ∷ []) ∷ (9 ∷ []) ∷ []) (to_client all_of dealt (1 ∷ 1 ∷ []) program tapes) ≡ shares
unfolding program dealt tapes shares reshared each part cross sum_of_three
made = refl

-- told nothing it makes nothing
told_nothing : made_from all_of 0 (1 ∷ 1 ∷ []) [] program [] tapes ≡ []
unfolding program tapes
told_nothing = refl
