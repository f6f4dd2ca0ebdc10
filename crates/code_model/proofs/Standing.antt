-- Where the code of a statement leads: after itself, to where breaks or continues lead, or to a step that returns.
use Rattle.std.proofs.Common.{◌≡◌, ◌≢◌, ℕ, ◌+◌, ◌<◌, ◌≤◌, List, [], ◌∷◌, ◌++◌, length, Some, Bool, refl, sym, ap, ◌∙◌, subst, arith}
use Rattle.std.proofs.Common.{length-append}
use Rattle.std.specs.Prelude.{slice_get}
use Rattle.program_trees.specs.TypedTree.{TypedTree}
use Rattle.reached_instances.specs.Domains.{Setting}
use Rattle.blind_evaluation.specs.Effects.{World, Stage, Effect, ◌>>=◌, carry, done}
use Rattle.blind_evaluation.specs.Values.{Value}
use Rattle.blind_evaluation.specs.Operations.{wanted}
use Rattle.blind_evaluation.specs.Evaluation.{Frame, put, Calls, StatementContext, gives_private, slot_is_private, value, Flow, goes, returns, stops}
use Rattle.blind_evaluation.specs.Evaluation.{skips, then_do}
use Rattle.verified_code.specs.Steps.{Step, Jump, Function}
use Rattle.code_model.specs.Machine.{Caller, Machine, at, next, step, resume, limit}
use Rattle.code_model.specs.Expressions.{Numbers, classifying, picked, lacks, stands_at, expression_code}
use Rattle.code_model.specs.Statements.{shape_number, first_free}
use Rattle.code_model.specs.Fit.{MayStand}
use Rattle.code_model.proofs.Places.{HasAt, has_front, has_back, put_other, put_agrees, put_all, stands}
use Rattle.code_model.proofs.Gives.{Gives, Any, IsSecret}
use Rattle.code_model.proofs.Follows.{Runs, runs_bind, runs_done, runs_more, instruct, silent}
use Rattle.code_model.proofs.Near.{Near, Holds, holds_kept, Ready, near_wanting, wanting_runs}
use Rattle.code_model.proofs.Operands.{Evaluates}

-- a value is stored in a slot
pub holds_put : {here : Setting} {fr registers : Frame} (k : ℕ) (v : Value) → k < length here.slots → IsSecret (slot_is_private here k) v → Holds here fr
    registers → Holds here (put k v fr) (put k v registers)
holds_put {here = here} {fr = fr} {registers = registers} k v l q h = record {
  agree = λ i j. put_agrees k i v v registers fr refl (h.agree i j);
  fits = put_all (λ i z. IsSecret (slot_is_private here i) z) k v fr q h.fits;
  defaults = λ s z. put_other k (length here.slots + shape_number s) v registers (omega (arith, l)) ∙ h.defaults s z;
}

module _ (w : World) (p : List Function) (number : Numbers) (calls : Calls) (d : ℕ) (place : StatementContext) (code : List Step) (stack : List Caller)
    (room : length stack + d ≡ limit) where
  abbrev pub base : ℕ
  base = first_free place.here.slots

  abbrev pub Stands : ℕ → Frame → Machine → Type 0
  Stands to fr m = (m.steps ≡ code) × (m.pc ≡ to) × (m.stack ≡ stack) × Holds place.here fr m.registers

  -- the machine stands at a step that returns this
  abbrev pub Returning : Value → Machine → Type 0
  Returning v m = (m.stack ≡ stack) × ((s : Stage) → step w p (slice_get m.steps m.pc) m s ≡ resume m.stack v s) × IsSecret place.secret_result v

  -- x and y: where a break and a continue lead
  abbrev pub Went : (x y to : ℕ) → Flow → Machine → Type 0
  Went x y to (goes fr) m = Stands to fr m
  Went x y to (returns v) m = Returning v m
  Went x y to (stops fr) m = Stands x fr m
  Went x y to (skips fr) m = Stands y fr m

  pub went_at : {c : Effect Flow} {m : Machine} (x y to to' : ℕ) → to ≡ to' → Runs w p m c (Went x y to) → Runs w p m c (Went x y to')
  went_at {c = c} {m = m} x y to to' e h = subst (λ z. Runs w p m c (Went x y z)) e h

  pub then_runs : (x y to to' : ℕ) (g : Flow) (m : Machine) (f : Frame → Effect Flow) → Went x y to g m → ((fr : Frame) → Stands to fr m → Runs w p m (f fr)
      (Went x y to')) → Runs w p m (then_do g f) (Went x y to')
  then_runs x y to to' (goes fr) m f h k = k fr h
  then_runs x y to to' (returns v) m f h k = runs_done h
  then_runs x y to to' (stops fr) m f h k = runs_done h
  then_runs x y to to' (skips fr) m f h k = runs_done h

  -- the next step, where the machine stands
  pub next_step : {to : ℕ} {fr : Frame} {i : Step} {m : Machine} → Stands to fr m → slice_get code to ≡ Some i → slice_get m.steps m.pc ≡ Some i
  next_step {m = m} h e = ap (λ z. slice_get z m.pc) h.0 ∙ ap (λ z. slice_get code z) h.1 ∙ e

  pub jump_runs : (x y to to' : ℕ) (c : Effect Flow) (m : Machine) → slice_get code to ≡ Some (Jump to') → Runs w p m c (Went x y to) → Runs w p m c
      (Went x y to')
  jump_runs x y to to' c m jump h = runs_more h go
    where
      go : (g : Flow) (m' : Machine) → Went x y to g m' → Runs w p m' (done g) (Went x y to')
      go (returns v) m' k = runs_done k
      go (stops fr) m' k = runs_done k
      go (skips fr) m' k = runs_done k
      go (goes fr) m' k = silent m' (at to' m') (goes fr) (Went x y to') (λ s. ap (λ o. step w p o m' s) (next_step k jump)) (k.0, refl, k.2, k.3)

  -- ---- EXPRESSIONS

  pub standing_on : {t to to' : ℕ} {fr : Frame} {m m1 : Machine} → base ≤ t → Stands to fr m → Near t m m1 → m1.pc ≡ to' → Stands to' fr m1
  standing_on {t = t} l h n e = (n.steps ∙ h.0, e, n.stack ∙ h.2, holds_kept t l h.3 n.kept)

  pub ready_standing : {fr : Frame} {m : Machine} (t pc : ℕ) (is : List Step) → base ≤ t → HasAt code pc is → Stands pc fr m → Ready d place.here fr t pc is m
  ready_standing t pc is l has h = record {
    place = h.1;
    has = subst (λ z. HasAt z pc is) (sym h.0) has;
    holds = h.3;
    room = ap (λ z. length z + d) h.2
        ∙ room;
    free = l;
  }

  pub record Evaluated (to : ℕ) (fr : Frame) (t : ℕ) (secret : Bool) (v : Value) (m : Machine) : Type 0 where
    pub standing : Stands to fr m
    pub value' : m.registers t ≡ v
    pub private : IsSecret secret v

  abbrev pub here_code : (t pc : ℕ) → TypedTree → List Step
  here_code = expression_code number place.here

  abbrev pub Expressed : TypedTree → Type 0
  Expressed = Evaluates w p number calls d place.here

  pub evaluates : (e : TypedTree) (t pc : ℕ) (fr : Frame) (m : Machine) → Expressed e → base ≤ t → HasAt code pc (here_code t pc e) → Stands pc fr m → Runs w
      p m (value w calls place.here e fr) (Evaluated (pc + length (here_code t pc e)) fr (stands_at place.here e t) (gives_private place.here e))
  evaluates e t pc fr m ev le has h =
      runs_more (ev t pc fr m (ready_standing t pc (here_code t pc e) le has h))
      (λ v m1 h1. runs_done (record { standing = standing_on le h h1.near h1.pc; value' = h1.held; private = h1.private }))

  -- ---- THE LAST STEP

  -- a statement of an expression and one step, which keeps the registers
  pub ends_with : (x y t pc : ℕ) (e : TypedTree) (i : ℕ → Step) (fr : Frame) (m : Machine) (c : Value → Effect (Unit {0})) →
      Expressed e → base ≤ t → HasAt code
      pc (here_code t pc e ++ i (stands_at place.here e t) ∷ []) → Stands pc fr m
      → ((r : ℕ) (v : Value) (m1 : Machine) (s : Stage) → m1.registers r ≡ v → step w p (Some (i r)) m1 s ≡ carry (c v s) (λ u. done (at (m1.pc + 1) m1)))
      → ((v : Value) → Gives (c v) (Any {A = Unit {0}}))
      → Runs w p m (value w calls place.here e fr >>= λ v. c v >>= λ u. done (goes fr)) (Went x y (pc + length
      (here_code t pc e ++ i (stands_at place.here e t) ∷ [])))
  ends_with x y t pc e i fr m c ev le has h st gives =
      let ce = here_code t pc e in
      let r = stands_at place.here e t in
      let last = i r ∷ [] in
      runs_bind (evaluates e t pc fr m ev le (has_front code pc ce last has) h) (λ v m1 h1.
      let to : m1.pc + 1 ≡ pc + length (ce ++ last) = omega (arith, h1.standing.1, length-append ce last) in
      runs_bind (instruct m1 (i r) (c v) (λ u. at (m1.pc + 1) m1) (Any {A = Unit {0}}) (λ u m'. Stands (pc + length (ce ++ last)) fr m')
      (next_step h1.standing (has_back code pc ce last has).0) (λ s. st r v m1 s h1.value') (gives v)
      (λ u q. (h1.standing.0, to, h1.standing.2, h1.standing.3)))
      (λ u m2 h2. runs_done h2))

  -- a value that is wanted as a private one, or as it is
  pub record Given (to : ℕ) (fr : Frame) (r : ℕ) (secret : Bool) (t : ℕ) (m : Machine) (v : Value) (m' : Machine) : Type 0 where
    pub standing : Stands to fr m'
    pub value' : m'.registers r ≡ v
    pub private : IsSecret secret v
    pub kept : (i : ℕ) → i ≢ t → m'.registers i ≡ m.registers i

  pub wants : (n g : Bool) (c u to : ℕ) (x : Value) (fr : Frame) (m : Machine) (is : List Step) → base ≤ c → HasAt code to
      (classifying (lacks n g) c u ++ is) → Stands to fr m → m.registers u ≡ x → IsSecret g x → MayStand g n
      → Runs w p m (wanted n x) (Given (to + length (classifying (lacks n g) c u)) fr (picked (lacks n g) c u) n c m)
  wants n g c u to x fr m is le has h e q may =
      let cl = classifying (lacks n g) c u in
      let here : HasAt m.steps m.pc cl = stands code m.steps to m.pc cl h.0 h.1 (has_front code to cl is has) in
      runs_more (wanting_runs n g c u x m q may e here)
      (λ v m1 h1. runs_done (record {
        standing = standing_on le h (near_wanting c (omega arith) h1) (h1.pc ∙ ap (λ z. z + length cl) h.1);
        value' = h1.here;
        private = h1.private;
        kept = h1.kept;
      }))

  -- a step that stores in a slot
  pub sets : {A : Type 0} (x y k to : ℕ) (i : Step) (c : Effect A) (given : A → Value) (fr : Frame) (m : Machine) → k < length place.here.slots → slice_get
      code to ≡ Some i → Stands to fr m
      → ((s : Stage) → step w p (Some i) m s ≡ carry (c s) (λ a. done (next k (given a) m))) → Gives c (λ a. IsSecret (slot_is_private place.here k) (given a))
      → Runs w p m (c >>= λ a. done (goes (put k (given a) fr))) (Went x y (to + 1))
  sets x y k to i c given fr m l e h st gives =
      runs_bind (instruct m i c (λ a. next k (given a) m) (λ a. IsSecret (slot_is_private place.here k) (given a))
      (λ a m'. Stands (to + 1) (put k (given a) fr) m') (next_step h e) st gives
      (λ a q. (h.0, ap (λ z. z + 1) h.1, h.2, holds_put k (given a) l q h.3)))
      (λ a m1 h1. runs_done h1)
