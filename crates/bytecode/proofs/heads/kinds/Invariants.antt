use Rattle.std.proofs.Common.{◌≡◌, ◌-◌, length}
use Rattle.bytecode.specs.Decoded.{repeated, kind_layout}
use Rattle.bytecode.specs.Layouts.{read}
use Rattle.bytecode.proofs.Reading.{after}
use Rattle.bytecode.proofs.heads.kinds.Given as goal

abbrev pub invariant-loop-place : goal.invariant-loop-place
invariant-loop-place l =
    (read (repeated (kind_layout l.fn.version) l.fn.count) l.initial.reader ≡ after l.found.items (read (repeated (kind_layout l.fn.version) (l.fn.count - l.place)) l.reader)) ×
    (length l.found.items ≡ l.place)
