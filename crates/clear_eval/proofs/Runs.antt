-- Runs of one effect after another.
use Rattle.std.proofs.Common.{◌≡◌, Result, Ok, Err, refl, sym, ap, ◌∙◌, subst}
use Rattle.std.specs.Result.{IsErrAnd}
use Rattle.language_model.specs.Effects.{Stage, Run, Effect, carry}
use Rattle.value_steps.specs.declared.halt.Halt.{Halt}
use Rattle.value_steps.specs.declared.halt.Halt.TheVariants as halt
use Rattle.value_steps.specs.Steps.{Does}

pub carry-carry : {A B C : Type 0} (r : Run A) (f : A → Effect B) (g : B → Effect C) → carry (carry r f) g ≡ carry r (λ a s. carry (f a s) g)
carry-carry (Ok x) f g = refl
carry-carry (Err e) f g = refl

err_run : {X A Y B : Type 0} (first : X → A) (seen : Y → B) (c : Effect B) (s : Stage) (m : Effect A) (t t' : Stage) (k : A → Effect B) (h : Halt)
    → c s ≡ carry (m t) k → Does first m t (Err h) t' → Does seen c s (Err h) t'
err_run first seen c s m t t' k halt.Memory e d = tt
err_run first seen c s m t t' k (halt.Ended x) e d = e ∙ ap (λ z. carry z k) d
err_run first seen c s m t t' k halt.Short e d = e ∙ ap (λ z. carry z k) d

-- what comes next stopped the run, and the stop was handed on
pub stop_run : {X A Y B : Type 0} (first : X → A) (seen : Y → B) (c : Effect B) (s : Stage) (m : Effect A) (t t' : Stage) (k : A → Effect B)
    (h : Halt) (r : Result Y Halt)
    → c s ≡ carry (m t) k → Does first m t (Err h) t' → IsErrAnd r (λ e. e ≡ h) → Does seen c s r t'
stop_run first seen c s m t t' k h (Ok y) e d i = absurd i
stop_run first seen c s m t t' k h (Err g) e d i = subst (λ z. Does seen c s (Err z) t') (sym i) (err_run first seen c s m t t' k h e d)

-- a call did what comes next, and another the rest
pub go_run : {X A Y B : Type 0} (first : X → A) (seen : Y → B) (c : Effect B) (s : Stage) (m : Effect A) (t t1 t2 : Stage) (k : A → Effect B) (x : X)
    (r : Result Y Halt)
    → c s ≡ carry (m t) k → m t ≡ Ok (first x, t1) → Does seen (k (first x)) t1 r t2 → Does seen c s r t2
go_run first seen c s m t t1 t2 k x (Ok y) e h d = e ∙ ap (λ z. carry z k) h ∙ d
go_run first seen c s m t t1 t2 k x (Err halt.Memory) e h d = tt
go_run first seen c s m t t1 t2 k x (Err (halt.Ended n)) e h d = e ∙ ap (λ z. carry z k) h ∙ d
go_run first seen c s m t t1 t2 k x (Err halt.Short) e h d = e ∙ ap (λ z. carry z k) h ∙ d

-- what is left of a run after its first parts, and a call that did it
pub rest_run : {Y B : Type 0} (seen : Y → B) (c : Effect B) (s : Stage) (m : Effect B) (t t' : Stage) (r : Result Y Halt)
    → c s ≡ m t → Does seen m t r t' → Does seen c s r t'
rest_run seen c s m t t' (Ok y) e d = e ∙ d
rest_run seen c s m t t' (Err halt.Memory) e d = tt
rest_run seen c s m t t' (Err (halt.Ended n)) e d = e ∙ d
rest_run seen c s m t t' (Err halt.Short) e d = e ∙ d
