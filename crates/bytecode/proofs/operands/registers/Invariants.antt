use Rattle.std.proofs.Common.{◌≡◌, ◌-◌, map}
use Rattle.bytecode.specs.Decoded.{repeated, short_layout}
use Rattle.bytecode.specs.Layouts.{read}
use Rattle.bytecode.proofs.Reading.{after}
use Rattle.bytecode.proofs.operands.registers.Given as goal

abbrev pub invariant-loop-place : goal.invariant-loop-place
invariant-loop-place l =
    read (repeated short_layout l.fn.count) l.initial.reader
    ≡ after (map (λ r. r.0) l.registers.items) (read (repeated short_layout (l.fn.count - l.place)) l.reader)
