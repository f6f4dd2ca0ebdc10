-- What the parts of a step did, put together.
use Rattle.std.proofs.Common.{◌≡◌, ℕ, List, Result, Ok, Err, refl, sym, ap, ◌∙◌, subst}
use Rattle.std.specs.Prelude.{map, nat_lt, sum}
use Rattle.std.specs.Result.{IsErrAnd}
use Rattle.sc_text.specs.declared.end.TrapKind.TheVariants as trap
use Rattle.language_model.specs.Effects.{Stage, Run, Effect, ◌>>=◌, carry, charge, done, test}
use Rattle.language_model.specs.Values.{Value}
use Rattle.language_model.specs.Evaluation.{array_elements}
use Rattle.named_values.specs.Machine.{Machine, limit}
use Rattle.value_steps.specs.declared.halt.Halt.{Halt}
use Rattle.value_steps.specs.declared.halt.Halt.TheVariants as halt
use Rattle.value_steps.specs.Steps.{Does}
use Rattle.code_machine.specs.Parts.{call_charged}

pub carry-carry : {A B C : Type 0} (r : Run A) (f : A → Effect B) (g : B → Effect C) → carry (carry r f) g ≡ carry r (λ a s. carry (f a s) g)
carry-carry (Ok x) f g = refl
carry-carry (Err e) f g = refl

-- a call, in its parts
pub call-run : (depth line : ℕ) (xs : List Value) (to : Machine) (s : Stage)
    → carry (charge 1 s) (λ u. test (nat_lt depth limit) trap.Depth line >>= λ u. charge (sum (map array_elements xs)) >>= λ u. done to)
    ≡ carry (call_charged depth line xs s) (λ u. done to)
call-run depth line xs to s = at (charge 1 s)
  where
    at : (r : Run (Unit {0})) → carry r (λ u. test (nat_lt depth limit) trap.Depth line >>= λ u. charge (sum (map array_elements xs)) >>= λ u. done to)
        ≡ carry (carry r (λ u. test (nat_lt depth limit) trap.Depth line >>= λ u. charge (sum (map array_elements xs)))) (λ u. done to)
    at (Ok x) = sym (carry-carry (test (nat_lt depth limit) trap.Depth line x.1) (λ u. charge (sum (map array_elements xs))) (λ u. done to))
    at (Err e) = refl

-- what comes first stopped the run, and the stop was handed on
pub stop-run : {X A Y B : Type 0} (first : X → A) (seen : Y → B) (c : Effect B) (s : Stage) (m : Effect A) (t t' : Stage) (k : A → Effect B)
    (h : Halt) (r : Result Y Halt)
    → c s ≡ carry (m t) k → Does first m t (Err h) t' → IsErrAnd r (λ e. e ≡ h) → Does seen c s r t'
stop-run first seen c s m t t' k h (Ok y) e d i = absurd i
stop-run first seen c s m t t' k h (Err g) e d i = subst (λ z. Does seen c s (Err z) t') (sym i) (at h d)
  where
    at : (h : Halt) → Does first m t (Err h) t' → Does seen c s (Err h) t'
    at halt.Memory d = tt
    at (halt.Ended x) d = e ∙ ap (λ z. carry z k) d
    at halt.Short d = e ∙ ap (λ z. carry z k) d
