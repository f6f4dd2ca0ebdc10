use Rattle.std.proofs.Common.{◌≡◌, ◌-◌, map}
use Rattle.bytecode.specs.Decoded.{body_layout}
use Rattle.bytecode.specs.InMemory.{raw_instruction}
use Rattle.bytecode.specs.Layouts.{read}
use Rattle.bytecode.specs.Versions.{counting}
use Rattle.bytecode.proofs.Reading.{after}
use Rattle.bytecode.proofs.operands.body.Given as goal

abbrev pub invariant-loop-place : goal.invariant-loop-place
invariant-loop-place l =
    read (body_layout (counting l.fn.version l.parameters) l.fn.count) l.initial.reader
    ≡ after (map raw_instruction l.instructions.items) (read (body_layout (counting l.fn.version l.parameters) (l.fn.count - l.place)) l.reader)
