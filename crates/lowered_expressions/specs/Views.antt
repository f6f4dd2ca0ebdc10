-- What the types of this crate stand for.
use Rattle.std.specs.Prelude.{map}
use Rattle.reached_instances.specs.Domains.{Setting}
use Rattle.reached_instances.specs.Views.{setting}
use Rattle.verified_code.specs.Steps as S
use Rattle.code_model.specs.Expressions.{Numbers}
use Rattle.code_model.specs.Programs.{numbers_in}
use Rattle.lowered_expressions.specs.declared.step.Step as declared
use Rattle.lowered_expressions.specs.declared.step.Step.TheVariants as steps
use Rattle.lowered_expressions.specs.declared.step.BodyPiece as pieces
use Rattle.lowered_expressions.specs.declared.step.BodyPiece.TheVariants as kept
use Rattle.lowered_expressions.specs.declared.body.Body as bodies
use Rattle.lowered_expressions.specs.declared.around.Around as arounds
use Rattle.lowered_expressions.specs.Built.{BodyPiece, whole, break_jump, continue_jump, Built}

abbrev pub step_seen : declared.Step → S.Step
step_seen (steps.Literal d e n) = S.Literal d e n
step_seen (steps.Move d r) = S.Move d r
step_seen (steps.Store d r) = S.Store d r
step_seen (steps.Binary line o ds d a b) = S.Binary line o ds d a b
step_seen (steps.Not d r) = S.Not d r
step_seen (steps.Cast c d r) = S.Cast c d r
step_seen (steps.Classify d r) = S.Classify d r
step_seen (steps.Fill line d n x) = S.Fill line d n x
step_seen (steps.At line d a i) = S.At line d a i
step_seen (steps.Put line a i x) = S.Put line a i x
step_seen (steps.Size d r) = S.Size d r
step_seen (steps.Cat line d a b) = S.Cat line d a b
step_seen (steps.Sum d r) = S.Sum d r
step_seen (steps.Bits line d r) = S.Bits line d r
step_seen (steps.Lookup line d a i) = S.Lookup line d a i
step_seen (steps.Declassify d r) = S.Declassify d r
step_seen (steps.Argument line kind text d) = S.Argument line kind text.now d
step_seen (steps.Publish text r) = S.Publish text.now r
step_seen (steps.Assert line r) = S.Assert line r
step_seen (steps.Branch r value target) = S.Branch r value target
step_seen (steps.Jump target) = S.Jump target
step_seen (steps.Call line f d arguments) = S.Call line f d arguments.items
step_seen (steps.Return r) = S.Return r
step_seen steps.ReturnNone = S.ReturnNone

abbrev pub piece_seen : pieces.BodyPiece → BodyPiece
piece_seen (kept.Whole i) = whole (step_seen i)
piece_seen kept.Break = break_jump
piece_seen kept.Continue = continue_jump

abbrev pub built : bodies.Body → Built
built b = record { pieces = map piece_seen b.pieces.items }

abbrev pub here_of : arounds.Around → Setting
here_of a = setting a.here

-- the numbers of the instances in their list
abbrev pub numbers_of : arounds.Around → Numbers
numbers_of a = numbers_in a.instances.now
