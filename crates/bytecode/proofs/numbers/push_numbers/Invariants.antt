use Rattle.std.proofs.Common.{◌≡◌, ◌++◌, take}
use Rattle.bytecode.specs.Written.{bytes_of}
use Rattle.bytecode.specs.inner.Numbers.{numbers_in}
use Rattle.bytecode.proofs.numbers.push_numbers.Given as goal

abbrev pub invariant-loop-number : goal.invariant-loop-number
invariant-loop-number l = l.text.items ≡ l.initial.text.items ++ bytes_of (numbers_in (take l.number-index l.numbers))
