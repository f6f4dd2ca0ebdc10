-- Steps in memory, as those of the definitions, and the step that stands at a place.
use Rattle.std.specs.Prelude.{ℕ, List, [], map, Option, Some, None, option_map, slice_get}
use Rattle.bytecode.specs.declared.instruction.Register.{Register}
use Rattle.bytecode.specs.Raw.{RawCode}
use Rattle.verified_code.specs.declared.step.Step as declared
use Rattle.verified_code.specs.declared.step.Step.TheVariants as steps
use Rattle.verified_code.specs.Steps as S
use Rattle.verified_code.specs.Settled.{settled}

abbrev pub place_of : Option Register → Option ℕ
place_of = option_map (λ r. r.0)

abbrev pub step_in : declared.Step → S.Step
step_in (steps.Literal d e x) = S.Literal d.0 e x
step_in (steps.Move d r) = S.Move d.0 r.0
step_in (steps.Store d r) = S.Store d.0 r.0
step_in (steps.Binary line o ds d a b) = S.Binary line o ds d.0 a.0 b.0
step_in (steps.Not d r) = S.Not d.0 r.0
step_in (steps.Cast c d r) = S.Cast c d.0 r.0
step_in (steps.Classify d r) = S.Classify d.0 r.0
step_in (steps.Fill line d n x) = S.Fill line d.0 n.0 x.0
step_in (steps.At line d a i) = S.At line d.0 a.0 i.0
step_in (steps.Put line a i x) = S.Put line a.0 i.0 x.0
step_in (steps.Size d r) = S.Size d.0 r.0
step_in (steps.Cat line d a b) = S.Cat line d.0 a.0 b.0
step_in (steps.Sum d r) = S.Sum d.0 r.0
step_in (steps.Bits line d r) = S.Bits line d.0 r.0
step_in (steps.Lookup line d a i) = S.Lookup line d.0 a.0 i.0
step_in (steps.Declassify d r) = S.Declassify d.0 r.0
step_in (steps.Argument line kind text d) = S.Argument line kind text.now d.0
step_in (steps.Publish text r) = S.Publish text.now r.0
step_in (steps.Assert line r) = S.Assert line r.0
step_in (steps.Branch r value target) = S.Branch r.0 value target.0
step_in (steps.Jump target) = S.Jump target.0
step_in (steps.Call line f d arguments) = S.Call line f.0 (place_of d) (map (λ r. r.0) arguments.now)
step_in (steps.Return r) = S.Return r.0
step_in steps.ReturnNone = S.ReturnNone

abbrev pub steps_of : Option S.Function → List S.Step
steps_of None = []
steps_of (Some f) = f.steps

-- the step of a function's place, if it is there
abbrev pub step_at : RawCode → (function place : ℕ) → Option S.Step
step_at code function place = slice_get (steps_of (slice_get (settled code) function)) place
