-- A relation between two runs that passes on from step to step holds of loops of the same number of turns.
use Rattle.std.proofs.Common.{ℕ, zero, suc, Bool, true, false}
use Rattle.sc_text.specs.declared.end.Ending.{Ending}
use Rattle.sc_text.specs.declared.end.Ending.TheVariants.{Budget}
use Rattle.language_model.specs.Effects.{Effect, ◌>>=◌, done, end, charge}
use Rattle.language_model.specs.Values.{Value, is_true}
use Rattle.language_model.specs.Operations.{tested}
use Rattle.language_model.specs.Evaluation.{Frame, either, Flow, goes, returns, stops, skips, turned, turns, repeats}

-- what loops are built of
pub record IsFlow (P : (A : Type 0) → Effect A → Effect A → Type 0) : Type 1 where
  pub bind : {A B : Type 0} {m m' : Effect A} {f f' : A → Effect B} → P _ m m' → ((a : A) → P _ (f a) (f' a)) → P _ (m >>= f) (m' >>= f')
  pub on_done : {A : Type 0} (a : A) → P _ (done a) (done a)
  pub on_end : {A : Type 0} (e : Ending) → P _ (end {A = A} e) (end {A = A} e)
  pub on_charge : (n : ℕ) → P _ (charge n) (charge n)

module _ (P : (A : Type 0) → Effect A → Effect A → Type 0) (flow : IsFlow P) where
  tested_flows : (v : Value) → P _ (tested v) (tested v)
  tested_flows v = flow.bind (flow.on_charge 1) (λ _. flow.on_done (is_true v))

  either_flows : {A : Type 0} (b : Bool) {m m' n n' : Effect A} → P _ m m' → P _ n n' → P _ (either b m n) (either b m' n')
  either_flows true h k = h
  either_flows false h k = k

  turned_flows : (g : Flow) (f f' : Frame → Effect Flow) → ((fr : Frame) → P _ (f fr) (f' fr)) → P _ (turned g f) (turned g f')
  turned_flows (goes fr) f f' h = h fr
  turned_flows (skips fr) f f' h = h fr
  turned_flows (stops fr) f f' h = flow.on_done (goes fr)
  turned_flows (returns v) f f' h = flow.on_done (returns v)

  pub turns_flow : (n : ℕ) {condition condition' : Frame → Effect Value} {step step' body body' : Frame → Effect Flow}
      → ((fr : Frame) → P _ (condition fr) (condition' fr)) → ((fr : Frame) → P _ (step fr) (step' fr)) → ((fr : Frame) → P _ (body fr) (body' fr))
      → (fr : Frame) → P _ (turns n condition step body fr) (turns n condition' step' body' fr)
  unfolding turns
  turns_flow zero hc hs hb fr = flow.on_end Budget
  turns_flow (suc n) hc hs hb fr =
      flow.bind (hc fr) (λ v. flow.bind (tested_flows v) (λ t. either_flows t
      (flow.bind (hb fr) (λ g. turned_flows g _ _ (λ f. flow.bind (hs f) (λ h. turned_flows h _ _ (turns_flow n hc hs hb))))) (flow.on_done (goes fr))))

  pub repeats_flow : (n : ℕ) {condition condition' : Frame → Effect Value} {body body' : Frame → Effect Flow}
      → ((fr : Frame) → P _ (condition fr) (condition' fr)) → ((fr : Frame) → P _ (body fr) (body' fr)) → (fr : Frame)
      → P _ (repeats n condition body fr) (repeats n condition' body' fr)
  unfolding repeats
  repeats_flow zero hc hb fr = flow.on_end Budget
  repeats_flow (suc n) hc hb fr =
      flow.bind (hb fr) (λ g. turned_flows g _ _
      (λ f. flow.bind (hc f) (λ v. flow.bind (tested_flows v) (λ t. either_flows t (repeats_flow n hc hb f) (flow.on_done (goes f))))))
