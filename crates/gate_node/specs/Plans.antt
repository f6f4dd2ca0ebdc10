-- Plans: gates after which the values of some numbers alone are wanted.
use Rattle.std.specs.Prelude.{ℕ, ◌+◌, Bool, false, not, ◌&&◌, ◌||◌, nat_le, List, [], ◌∷◌, length, set}
use Rattle.std.specs.Ordering.{nat_cmp}
use Rattle.std.specs.BTreeSet.{BTreeSet, contains}
use Rattle.proto_core.specs.declared.party.Number.{Number}
use Rattle.proto_core.specs.Strand.{Strand, then_do}
use Rattle.gates.specs.declared.gate.Gate.{Gate}
use Rattle.gates.specs.Clear.{Values}
use Rattle.gates.specs.Held.{kept_only}
use Rattle.gates.specs.Taken.{operands, is_among, first_size}
use Rattle.gate_node.specs.declared.wanted.Wanted.{Wanted}
use Rattle.gate_node.specs.declared.wanted.Wanted.TheVariants as wanted
use Rattle.gate_node.specs.OwnGates.{GatesEnd, Whole, Stuck, then_gates}

-- ---- what is wanted

-- an end with the values of these numbers alone
abbrev pub with_these : BTreeSet ℕ → GatesEnd → GatesEnd
with_these numbers (Whole values tape) = Whole (kept_only numbers values) tape
with_these numbers Stuck = Stuck

-- where this is left of the gates, all that is left: after a plan the values that are wanted, and then the later gates
abbrev pub then_wanted : Number → (dealt : Values) → Wanted → Strand GatesEnd → Strand GatesEnd
then_wanted i dealt wanted.All left = left
then_wanted i dealt (wanted.These numbers later) left = then_do left (λ h. then_gates i dealt later.items (with_these numbers h))

-- how much comes after the gates: the end of a plan, and the later gates
abbrev pub later_count : Wanted → ℕ
later_count wanted.All = 0
later_count (wanted.These numbers later) = length later.items + 1

-- whether a value of this number is not wanted
abbrev pub is_unwanted : ℕ → Wanted → Bool
is_unwanted k wanted.All = false
is_unwanted k (wanted.These numbers later) = not (contains nat_cmp numbers k)

-- ---- what gates take

-- whether one of these gates takes the value of a number
abbrev pub any_takes : ℕ → List Gate → Bool
any_takes k [] = false
any_takes k (gate ∷ gates) = is_among k (operands gate) || any_takes k gates

-- the numbers of the values that the last of these gates takes
abbrev pub last_operands : List Gate → List ℕ
last_operands [] = []
last_operands (gate ∷ []) = operands gate
last_operands (gate ∷ next ∷ gates) = last_operands (next ∷ gates)

-- there are many gates, and the first takes a large value
abbrev pub is_large_plan : Values → List Gate → Bool
is_large_plan values [] = false
is_large_plan values (gate ∷ gates) = nat_le 8 (length (gate ∷ gates)) && nat_le 256 (first_size values (operands gate))

-- ---- what is let go before a plan's end

-- only values of many words are
abbrev pub is_large : List ℕ → Bool
is_large words = nat_le 256 (length words)

-- values of which those of these numbers are let go
abbrev pub without : List ℕ → Values → Values
without [] values = values
without (k ∷ ks) values = without ks (set values k [])
