-- Bodies of functions, as they are made.
use Rattle.std.specs.Prelude.{ℕ, List, [], ◌∷◌, ◌++◌, map, slice_set}
use Rattle.verified_code.specs.Steps.{Step}

-- a step, or a jump whose place isn't known yet: where a break or a continue of the loop around it leads
pub data BodyPiece : Type 0 where
  whole : Step → BodyPiece
  break_jump : BodyPiece
  continue_jump : BodyPiece

-- the pieces so far
pub record Built : Type 0 where
  pub pieces : List BodyPiece

-- one more step
abbrev pub with_step : Built → Step → Built
with_step b i = record { pieces = b.pieces ++ whole i ∷ [] }

-- a step in the place of another piece
abbrev pub with_step_at : Built → ℕ → Step → Built
with_step_at b place i = record { pieces = slice_set b.pieces place (whole i) }

-- more steps
abbrev pub with_steps : Built → List Step → Built
with_steps b is = record { pieces = b.pieces ++ map whole is }
