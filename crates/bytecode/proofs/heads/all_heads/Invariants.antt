use Rattle.std.proofs.Common.{◌≡◌, ◌-◌, map}
use Rattle.bytecode.specs.Decoded.{heads_layout}
use Rattle.bytecode.specs.InMemory.{raw_head}
use Rattle.bytecode.specs.Layouts.{read}
use Rattle.bytecode.proofs.Reading.{after}
use Rattle.bytecode.proofs.heads.all_heads.Given as goal

abbrev pub invariant-loop-place : goal.invariant-loop-place
invariant-loop-place l =
    read (heads_layout l.fn.version l.fn.count) l.initial.reader ≡ after (map raw_head l.found.items) (read (heads_layout l.fn.version (l.fn.count - l.place)) l.reader)
