-- Two worked runs: the first keeps 6 times 7, which nobody learns; the second opens it times 5.
use Rattle.std.specs.Prelude.{◌≡◌, [], ◌∷◌, refl}
use Rattle.proto_core.specs.declared.party.Number.{Number}
use Rattle.proto_core.specs.declared.party.Number.TheVariants.{One, Two, Three}
use Rattle.proto_core.specs.Lists.{each, part}
use Rattle.proto_core.specs.Resharing.{reshared, sum_of_three}
use Rattle.protocol_model.specs.Runs.{Tapes}
use Rattle.shared_gates.specs.Products.{cross}
use Rattle.gates.specs.declared.ring_kind.RingKind.TheVariants.{Arithmetic}
use Rattle.gates.specs.declared.gate.Gate.TheVariants.{Input, Mul, Open, Result}
use Rattle.gates.specs.Clear.{Values}
use Rattle.handed_shares.specs.Handed.{all_of}
use Rattle.runs_in_sequence.specs.Sequences.{Leg, no_values, kept_then, opened_all}

-- dealt with zeros, the third miner has all
numbers : Number → Values
numbers One = (0 ∷ []) ∷ (0 ∷ []) ∷ []
numbers Two = (0 ∷ []) ∷ (0 ∷ []) ∷ []
numbers Three = (6 ∷ []) ∷ (7 ∷ []) ∷ []

factor : Number → Values
factor One = (0 ∷ []) ∷ []
factor Two = (0 ∷ []) ∷ []
factor Three = (5 ∷ []) ∷ []

product : Leg
product =
    record { gates = Input 0 ∷ Input 1 ∷ Mul 0 1 ∷ Result Arithmetic 2 ∷ []; takes = []; fresh = numbers; sizes = 1 ∷ 1 ∷ []; keeps = all_of }

-- it takes the first of what was kept
opening : Leg
opening =
    record { gates = Input 0 ∷ Input 1 ∷ Mul 0 1 ∷ Open Arithmetic 2 ∷ []; takes = 0 ∷ []; fresh = factor; sizes = 1 ∷ 1 ∷ []; keeps = all_of }

-- three words for the product, and one for what is handed over, or opened
tapes : Tapes
tapes One = 0 ∷ 0 ∷ 0 ∷ 8 ∷ []
tapes Two = 0 ∷ 0 ∷ 0 ∷ 0 ∷ []
tapes Three = 0 ∷ 0 ∷ 0 ∷ 0 ∷ []

-- tapes of its own for the second
others : Tapes
others One = 0 ∷ 0 ∷ 0 ∷ 3 ∷ []
others Two = 0 ∷ 0 ∷ 0 ∷ 4 ∷ []
others Three = 0 ∷ 0 ∷ 0 ∷ 0 ∷ []

first_keeps : kept_then product no_values tapes One ≡ (8 ∷ []) ∷ []
unfolding product numbers tapes reshared each part cross sum_of_three
first_keeps = refl

third_keeps : kept_then product no_values tapes Three ≡ (42 ∷ []) ∷ []
unfolding product numbers tapes reshared each part cross sum_of_three
third_keeps = refl

opened : opened_all no_values (product ∷ opening ∷ []) (tapes ∷ others ∷ []) ≡ [] ∷ (210 ∷ []) ∷ []
unfolding product opening numbers factor tapes others reshared each part cross sum_of_three
opened = refl
