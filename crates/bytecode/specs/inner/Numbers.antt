-- Cited by private functions alone: no contract of another crate rests on it.
-- The numbers that code in memory writes, as those of the definitions.
use Rattle.std.specs.Prelude.{List, map}
use Rattle.bytecode.specs.declared.numbers.Number as declared
use Rattle.bytecode.specs.Written.{Number, sized}

abbrev pub number_in : declared.Number → Number
number_in n = sized n.0 n.1

abbrev pub numbers_in : List declared.Number → List Number
numbers_in = map number_in
