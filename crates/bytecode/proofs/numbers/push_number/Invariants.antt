use Rattle.std.proofs.Common.{◌≡◌, ◌++◌, ◌-◌}
use Rattle.bytecode.specs.Written.{little}
use Rattle.bytecode.proofs.numbers.push_number.Given as goal

abbrev pub invariant-loop-place : goal.invariant-loop-place
invariant-loop-place l =
    l.text.items ++ little (l.place-end - l.place) l.left ≡ l.initial.text.items ++ little l.fn.number.0 l.fn.number.1
