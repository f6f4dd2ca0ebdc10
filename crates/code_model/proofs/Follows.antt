-- A machine that follows an effect: it comes to the same stage, or ends as the effect does.
use Rattle.std.proofs.Common.{◌≡◌, ℕ, suc, ◌≤◌, List, Some, Ok, Err, refl, ap, ◌∙◌, arith}
use Rattle.std.specs.Prelude.{slice_get}
use Rattle.blind_evaluation.specs.Effects.{World, Stage, Run, Effect, ◌>>=◌, carry, done}
use Rattle.verified_code.specs.Steps.{Step, Function}
use Rattle.code_model.specs.Machine.{Machine, step, further, exec}
use Rattle.code_model.proofs.Gives.{GivesAt, Gives}

module _ (w : World) (p : List Function) where
  -- whatever comes after, a run from the one place is one from the other
  pub record Comes (m : Machine) (s : Stage) (m' : Machine) (s' : Stage) : Type 0 where
    pub by : (k : ℕ) → (j : ℕ) × (exec w p j m s ≡ exec w p k m' s')

  abbrev pub Follows : {A : Type 0} → Machine → Stage → Run A → (A → Machine → Type 0) → Type 0
  Follows m s (Ok x) Post = (m' : Machine) × (x.1.left ≤ s.left) × Comes m s m' x.1 × Post x.0 m'
  Follows m s (Err x) Post = (j : ℕ) × (exec w p j m s ≡ Some x)

  -- the machine follows the effect, and after it this holds of the value and of the machine
  pub record Runs {A : Type 0} (m : Machine) (c : Effect A) (Post : A → Machine → Type 0) : Type 0 where
    pub from : (s : Stage) → Follows m s (c s) Post

  pub comes_none : (m : Machine) (s : Stage) → Comes m s m s
  comes_none m s = record { by = λ k. (k, refl) }

  pub extend : {B : Type 0} (m : Machine) (s : Stage) (m' : Machine) (s' : Stage) (r : Run B) (Q : B → Machine → Type 0) → s'.left ≤ s.left → Comes m s m' s'
      → Follows m' s' r Q → Follows m s r Q
  extend m s m' s' (Ok x) Q l c h = (h.0, omega (arith, l, h.1), record { by = λ k. let b = h.2.by k in let a = c.by b.0 in (a.0, a.1 ∙ b.1) }, h.3)
  extend m s m' s' (Err x) Q l c h = let a = c.by h.0 in (a.0, a.1 ∙ h.1)

  pub follow : {A B : Type 0} (m : Machine) (s : Stage) (r : Run A) (f : A → Effect B) (P : A → Machine → Type 0) (Q : B → Machine → Type 0) → Follows m s r
      P → ((a : A) (m' : Machine) (s' : Stage) → s'.left ≤ s.left → r ≡ Ok (a, s') → P a m' → Follows m' s' (f a s') Q) → Follows m s (carry r f) Q
  follow m s (Ok x) f P Q h k = extend m s h.0 x.1 (f x.0 x.1) Q h.1 h.2 (k x.0 h.0 x.1 h.1 refl h.3)
  follow m s (Err x) f P Q h k = h

  pub one : (k : ℕ) (m : Machine) (s : Stage) → exec w p (suc k) m s ≡ further (step w p (slice_get m.steps m.pc) m s) (exec w p k)
  unfolding exec
  one k m s = refl

module _ {w : World} {p : List Function} where
  pub runs_bind : {A B : Type 0} {m : Machine} {c : Effect A} {f : A → Effect B} {P : A → Machine → Type 0} {Q : B → Machine → Type 0} → Runs w p m c P
      → ((a : A) (m' : Machine) → P a m' → Runs w p m' (f a) Q) → Runs w p m (c >>= f) Q
  runs_bind {m = m} {c = c} {f = f} {P = P} {Q = Q} h k = record { from = λ s. follow w p m s (c s) f P Q (h.from s) (λ a m' s' l e q. (k a m' q).from s') }

  pub runs_done : {A : Type 0} {m : Machine} {a : A} {P : A → Machine → Type 0} → P a m → Runs w p m (done a) P
  runs_done {m = m} h = record { from = λ s. (m, omega arith, comes_none w p m s, h) }

  -- silent steps may come after
  pub runs_more : {A : Type 0} {m : Machine} {c : Effect A} {P Q : A → Machine → Type 0} → Runs w p m c P
      → ((a : A) (m' : Machine) → P a m' → Runs w p m' (done a) Q) → Runs w p m c Q
  runs_more {A = A} {m = m} {c = c} {P = P} {Q = Q} h k = record { from = λ s. go s (c s) (h.from s) }
    where
      go : (s : Stage) (r : Run A) → Follows w p m s r P → Follows w p m s r Q
      go s (Ok x) h = extend w p m s h.0 x.1 (Ok x) Q h.1 h.2 ((k x.0 h.0 h.3).from x.1)
      go s (Err x) h = h

  pub moves : {A : Type 0} (m : Machine) (c : Effect A) (to : A → Machine) (R : A → Type 0) (P : A → Machine → Type 0)
      → ((s : Stage) → step w p (slice_get m.steps m.pc) m s ≡ carry (c s) (λ a. done (to a))) → Gives c R → ((a : A) → R a → P a (to a)) → Runs w p m c P
  moves {A = A} m c to R P st gives k = record { from = λ s. go s (c s) refl (gives.from s) }
    where
      go : (s : Stage) (r : Run A) → c s ≡ r → GivesAt s r R → Follows w p m s r P
      go s (Ok x) e h = (
        to x.0,
        h.0,
        record {
          by = λ j. (
            suc j,
            one w p j m s ∙ ap (λ z. further z (exec w p j))
                (st s ∙ ap (λ z. carry z (λ a. done (to a))) e),
          );
        },
        k x.0 h.1,
      )
      go s (Err x) e h = (1, one w p 0 m s ∙ ap (λ z. further z (exec w p 0)) (st s ∙ ap (λ z. carry z (λ a. done (to a))) e))

  -- one step, whose effect is this one
  pub instruct : {A : Type 0} (m : Machine) (i : Step) (c : Effect A) (to : A → Machine) (R : A → Type 0) (P : A → Machine → Type 0) → slice_get m.steps m.pc
      ≡ Some i → ((s : Stage) → step w p (Some i) m s ≡ carry (c s) (λ a. done (to a))) → Gives c R → ((a : A) → R a → P a (to a)) → Runs w p m c P
  instruct m i c to R P h st gives k = moves m c to R P (λ s. ap (λ o. step w p o m s) h ∙ st s) gives k

  -- a step that leaves the stage as it is, before an effect
  pub runs_first : {A : Type 0} {c : Effect A} {P : A → Machine → Type 0} (m m' : Machine) → ((s : Stage) → step w p (slice_get m.steps m.pc) m s ≡ Ok
      (m', s)) → Runs w p m' c P → Runs w p m c P
  runs_first {c = c} {P = P} m m' st h = record {
    from = λ s. extend w p m s m' s (c s) P (omega arith)
        (record { by = λ j. (suc j, one w p j m s ∙ ap (λ z. further z (exec w p j)) (st s)) }) (h.from s);
  }

  pub silent : {A : Type 0} (m m' : Machine) (a : A) (P : A → Machine → Type 0) → ((s : Stage) → step w p (slice_get m.steps m.pc) m s ≡ Ok (m', s)) → P a m'
      → Runs w p m (done a) P
  silent m m' a P st h = runs_first m m' st (runs_done h)
