use Rattle.std.proofs.Common.{◌-◌, length}
use Rattle.protocol_model.specs.Network.{Counts}
use Rattle.counted_net.specs.Cursors.{InPlace, IsBehind}
use Rattle.counted_net.proofs.cursor.Cursor.go_on.Given as goal

abbrev pub invariant-loop-self : goal.invariant-loop-self
invariant-loop-self l =
    record { placed : InPlace l.script l.self; keeps : (got : Counts) → IsBehind l.script got l.fn.self → IsBehind l.script got l.self }

abbrev pub decreases-loop-self : goal.decreases-loop-self
decreases-loop-self l = length l.script - l.self.place
