-- What a step is told of the words that the gates have opened.
use Rattle.std.proofs.Common.{◌≡◌, ◌<◌, ℕ, List, [], ◌∷◌, Option, Some, Ok, Err, length, refl, sym, ◌∙◌, ap, arith}
use Rattle.std.specs.Prelude.{Result, IfOk}
use Rattle.std.specs.declared.alloc.AllocError.{AllocError}
use Rattle.bytecode.specs.Raw.{RawCode}
use Rattle.program_trees.specs.declared.expression.DataType.{DataType}
use Rattle.language_model.specs.Effects.{World}
use Rattle.verified_code.specs.Steps.{Function, Step, Declassify}
use Rattle.code_machine.specs.Machine.{Machine}
use Rattle.code_machine.specs.declared.machine.Machine as running
use Rattle.value_steps.specs.declared.stage.Stage as reached
use Rattle.miner_core.specs.declared.outcome.Turned.{Turned}
use Rattle.own_code.specs.Places.{Place, step_told, next_step, answers_told, elements_opened}
use Rattle.miner_core.specs.TurnViews.{step_answered, elements_if_opened, answers_of, went_to}

pub none_opened : (e : DataType) (n : ℕ) (told : List ℕ) → length told ≡ 0 → elements_if_opened e n told ≡ []
none_opened e n [] h = refl
none_opened e n (x ∷ xs) h = absurd (omega (arith, h))

pub some_opened : (e : DataType) (n : ℕ) (told : List ℕ) → 0 < length told → elements_if_opened e n told ≡ elements_opened e n told
some_opened e n [] h = absurd (omega (arith, h))
some_opened e n (x ∷ xs) h = refl

-- a step is told what the code says
told_of : (step : Option Step) (m : Machine) (told : List ℕ) → answers_of step m told ≡ answers_told told step m
told_of (Some (Declassify d r)) m [] = refl
told_of (Some (Declassify d r)) m (x ∷ xs) = refl
told_of step m [] = refl
told_of step m (x ∷ xs) = refl

pub told_if_ok :
    (w : World) (c : List Function) (p : Place) (told answers : List ℕ) (code : RawCode) (m : running.Machine) (s : reached.Stage)
    (r : Result Turned AllocError) → answers ≡ answers_of (next_step p.machine) p.machine told
    → IfOk r (λ t. step_answered w c p answers ≡ went_to code t m s) → IfOk r (λ t. step_told w c p told ≡ went_to code t m s)
told_if_ok w c p told answers code m s (Ok t) e h =
    ap (step_answered w c p) (sym (e ∙ told_of (next_step p.machine) p.machine told)) ∙ h
told_if_ok w c p told answers code m s (Err x) e h = tt
