-- What is known of verified code, in words that name no order: each function's head and each instruction is as it has to be.
use Rattle.std.specs.Prelude.{◌≡◌, ℕ, ◌<◌, Bool, ◌&&◌, IsTrue, length, Some, slice_get}
use Rattle.bytecode.specs.Raw.{Raw, RawFunction, RawCode}
use Rattle.verified_code.specs.Fitting.{Here, names_there, operands_fit, target_fits, goes_on}
use Rattle.verified_code.specs.Verified.{head_fits, here}

abbrev pub passes : Here → Raw → Bool
passes h i = names_there h i && operands_fit h i && target_fits h i && goes_on h i

pub record IsSoundFunction (code : RawCode) (number : ℕ) (f : RawFunction) : Type 0 where
  pub head : IsTrue (head_fits number f)
  pub some_instruction : 0 < length f.body
  pub instructions : (k : ℕ) (i : Raw) → slice_get f.body k ≡ Some i → IsTrue (passes (here code f k) i)

pub record IsSound (code : RawCode) : Type 0 where
  pub some_function : 0 < length code.functions
  pub functions : (n : ℕ) (f : RawFunction) → slice_get code.functions n ≡ Some f → IsSoundFunction code n f
