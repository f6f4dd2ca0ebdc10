use Rattle.std.proofs.Common.{◌≡◌, ◌-◌, [], map, reverse}
use Rattle.bytecode.specs.Decoded.{names_layout}
use Rattle.bytecode.specs.Layouts.{read}
use Rattle.bytecode.proofs.Reading.{after}
use Rattle.bytecode.proofs.names.all_names.Given as goal

abbrev pub invariant-loop-place : goal.invariant-loop-place
invariant-loop-place l =
    read (names_layout [] l.fn.count) l.initial.reader ≡
    after l.found.items (read (names_layout (reverse (map (λ n. n.now) l.earlier.keys)) (l.fn.count - l.place)) l.reader)
