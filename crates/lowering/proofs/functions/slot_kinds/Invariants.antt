use Rattle.std.proofs.Common.{◌≡◌, take}
use Rattle.std.specs.Prelude.{map}
use Rattle.code_model.specs.Kinds.{slot_kind}
use Rattle.lowering.proofs.functions.slot_kinds.Given as goal

abbrev pub invariant-loop-slot : goal.invariant-loop-slot
invariant-loop-slot l = l.kinds.items ≡ map (slot_kind l.binding) (take l.slot-index l.slots)
