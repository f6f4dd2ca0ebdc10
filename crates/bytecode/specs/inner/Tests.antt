-- Cited by private functions alone: no contract of another crate rests on it.
-- What a number that is read has to be.
use Rattle.std.specs.Prelude.{ℕ, Bool}
use Rattle.bytecode.specs.declared.test.Test.{Test}
use Rattle.bytecode.specs.declared.test.Test.TheVariants as tests
use Rattle.bytecode.specs.Kinds.{is_kind, is_return}
use Rattle.bytecode.specs.Layouts.{is_name_length}
use Rattle.bytecode.specs.Versions.{is_tag}
use Rattle.bytecode.specs.Decoded.{any, is_operator, is_truth, is_some_count}

abbrev pub passes : Test → ℕ → Bool
passes tests.Any = any
passes (tests.Tag version) = is_tag version
passes tests.Operator = is_operator
passes tests.Truth = is_truth
passes (tests.Kind version) = is_kind version
passes (tests.Return version) = is_return version
passes tests.Count = is_some_count
passes tests.NameLength = is_name_length
