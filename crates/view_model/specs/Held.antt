-- Of which values the miners are dealt shares, and in which ring.
use Rattle.std.specs.Prelude.{List, [], ◌∷◌}
use Rattle.gates.specs.Clear.{Values}
use Rattle.gates.specs.declared.ring_kind.RingKind.{RingKind}
use Rattle.gates.specs.declared.ring_kind.RingKind.TheVariants.{Arithmetic, Boolean}
use Rattle.shared_gates.specs.Shares.{Kind, Shared}
use Rattle.value_file.specs.declared.value.DataType.{DataType}
use Rattle.value_file.specs.declared.value.DataType.TheVariants.{Uint64, Int64, Bool}
use Rattle.value_file.specs.declared.value.Domain.{Domain}
use Rattle.value_file.specs.declared.value.Domain.TheVariants as domain
use Rattle.value_file.specs.declared.value.Value.{Value}
use Rattle.value_file.specs.declared.inputs.Entry.{Entry}
use Rattle.value_file.specs.Values.{type_of}
use Rattle.input_share.specs.Values.{shared_words}

abbrev pub ring_kind : DataType → RingKind
ring_kind Uint64 = Arithmetic
ring_kind Int64 = Arithmetic
ring_kind Bool = Boolean

abbrev pub kind_then : Domain → Value → List Kind → List Kind
kind_then domain.Public value more = more
kind_then domain.Private value more = Shared (ring_kind (type_of value)) ∷ more

-- in which ring each private input is shared
abbrev pub private_kinds : List Entry → List Kind
private_kinds [] = []
private_kinds (entry ∷ entries) = kind_then entry.domain entry.value (private_kinds entries)

abbrev pub value_then : Domain → Value → Values → Values
value_then domain.Public value more = more
value_then domain.Private value more = shared_words value ∷ more

-- the words in which each private input is shared
abbrev pub private_values : List Entry → Values
private_values [] = []
private_values (entry ∷ entries) = value_then entry.domain entry.value (private_values entries)
