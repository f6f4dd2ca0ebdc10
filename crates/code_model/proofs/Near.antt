-- What a piece of code leaves as it was, and what is ready for the next piece.
use Rattle.std.proofs.Common.{◌≡◌, ◌≢◌, ℕ, ◌+◌, ◌<◌, ◌≤◌, List, [], ◌∷◌, ◌++◌, length, Some, Bool, true, false, ◌||◌, refl, sym, ap, ◌∙◌}
use Rattle.std.proofs.Common.{subst, arith}
use Rattle.std.specs.Prelude.{slice_get}
use Rattle.program_trees.specs.declared.kinds.Shape.{Shape}
use Rattle.program_trees.specs.declared.kinds.Slot.{Slot}
use Rattle.program_trees.specs.declared.expression.DataType.TheVariants.{Uint64, Int64}
use Rattle.program_trees.specs.declared.expression.DataType.TheVariants as datatype
use Rattle.reached_instances.specs.Domains.{Setting}
use Rattle.blind_evaluation.specs.Effects.{World, carry, done}
use Rattle.blind_evaluation.specs.Values.{Value, is_secret, never_stored}
use Rattle.blind_evaluation.specs.Operations.{classified, wanted, tested}
use Rattle.blind_evaluation.specs.Evaluation.{Frame, slot_is_private, either}
use Rattle.bytecode.specs.declared.kind.Kind.{Kind}
use Rattle.verified_code.specs.Steps.{Step, Classify, Branch, Function}
use Rattle.code_model.specs.Machine.{Machine, at, next, limit, same_truth}
use Rattle.code_model.specs.Kinds.{kind_number, in_row}
use Rattle.code_model.specs.Expressions.{classifying, picked, lacks}
use Rattle.code_model.specs.Statements.{shape_number, first_free}
use Rattle.code_model.specs.Fit.{MayStand}
use Rattle.code_model.proofs.Places.{HasAt, has_front, has_back, put_same, put_other}
use Rattle.code_model.proofs.Gives.{Any, IsSecret, class_gives, tested_gives, wanted_less}
use Rattle.code_model.proofs.Follows.{Runs, runs_done, instruct}

-- ---- WHAT STAYS

-- the machine keeps its code, its callers and the registers below t
pub record Near (t : ℕ) (m m' : Machine) : Type 0 where
  pub steps : m'.steps ≡ m.steps
  pub stack : m'.stack ≡ m.stack
  pub kept : (i : ℕ) → i < t → m'.registers i ≡ m.registers i

pub near_on : {t u : ℕ} {m m1 m2 : Machine} → t ≤ u → Near t m m1 → Near u m1 m2 → Near t m m2
near_on l a b = record { steps = b.steps ∙ a.steps; stack = b.stack ∙ a.stack; kept = λ i h. b.kept i (omega arith) ∙ a.kept i h }

pub near_less : {u : ℕ} {m m1 : Machine} (t : ℕ) → t ≤ u → Near u m m1 → Near t m m1
near_less t l a = record { steps = a.steps; stack = a.stack; kept = λ i h. a.kept i (omega arith) }

pub near_set : (t u : ℕ) (v : Value) (m : Machine) → t ≤ u → Near t m (next u v m)
near_set t u v m l = record { steps = refl; stack = refl; kept = λ i h. put_other u i v m.registers (omega arith) }

-- a value stands in register d, and the machine is at a place
pub record Landed (t d to : ℕ) (m : Machine) (secret : Bool) (v : Value) (m' : Machine) : Type 0 where
  pub near : Near t m m'
  pub pc : m'.pc ≡ to
  pub here : m'.registers d ≡ v
  pub private : IsSecret secret v

-- a value stands in register r: one of the first row of an expression, which begins at t, or that of a slot
pub record Read (here : Setting) (r t to : ℕ) (m : Machine) (secret : Bool) (v : Value) (m' : Machine) : Type 0 where
  pub near : Near t m m'
  pub pc : m'.pc ≡ to
  pub held : m'.registers r ≡ v
  pub private : IsSecret secret v
  pub low : r < t + 12
  pub apart : (i : ℕ) → first_free here.slots ≤ i → i < t → r ≢ i

pub kind_few : (k : Kind) → kind_number k < 12
kind_few k = go k.secret k.element k.array
  where
    go : (s : Bool) (e : _) (a : Bool) → kind_number (record { secret = s; element = e; array = a }) < 12
    go true Uint64 true = omega arith
    go true Uint64 false = omega arith
    go true Int64 true = omega arith
    go true Int64 false = omega arith
    go true datatype.Bool true = omega arith
    go true datatype.Bool false = omega arith
    go false Uint64 true = omega arith
    go false Uint64 false = omega arith
    go false Int64 true = omega arith
    go false Int64 false = omega arith
    go false datatype.Bool true = omega arith
    go false datatype.Bool false = omega arith

-- a register of a row stands in that row
pub row_from : (t : ℕ) (k : Kind) → t ≤ in_row t k
row_from t k = omega arith

pub row_below : (t : ℕ) (k : Kind) → in_row t k < t + 12
row_below t k = let few = kind_few k in omega (arith, few)

pub read_own : {here : Setting} {t to : ℕ} {m m' : Machine} {secret : Bool} {v : Value} (k : Kind) → Landed t (in_row t k) to m secret v m'
    → Read here (in_row t k) t to m secret v m'
read_own {t = t} k h = record {
  near = h.near;
  pc = h.pc;
  held = h.here;
  private = h.private;
  low = row_below t k;
  apart = λ i l j e. let from = row_from t k in omega (arith, from, j, e);
}

-- ---- WHAT THE REGISTERS HOLD

-- the slots are the frame's, each as private as it is declared; and the defaults are there
pub record Holds (here : Setting) (fr registers : Frame) : Type 0 where
  pub agree : (i : ℕ) → i < length here.slots → registers i ≡ fr i
  pub fits : (k : ℕ) → IsSecret (slot_is_private here k) (fr k)
  pub defaults : (s : Shape) → 0 < length here.slots → registers (length here.slots + shape_number s) ≡ never_stored false s

pub below_free : (ss : List Slot) (s : Shape) → 0 < length ss → length ss + shape_number s < first_free ss
below_free [] s h = absurd (omega arith)
below_free (x ∷ ss) s h = let l : shape_number s < 6 = small s in omega (arith, l)
  where
    small : (s : Shape) → shape_number s < 6
    small s = go s.element s.array
      where
        go : (e : _) (a : Bool) → shape_number (record { element = e; array = a }) < 6
        go Uint64 true = omega arith
        go Uint64 false = omega arith
        go Int64 true = omega arith
        go Int64 false = omega arith
        go datatype.Bool true = omega arith
        go datatype.Bool false = omega arith

pub holds_kept : {here : Setting} {fr registers registers' : Frame} (t : ℕ) → first_free here.slots ≤ t → Holds here fr registers
    → ((i : ℕ) → i < t → registers' i ≡ registers i) → Holds here fr registers'
holds_kept {here = here} t l h k = record {
  agree = λ i j. k i (omega arith) ∙ h.agree i j;
  fits = h.fits;
  defaults = λ s z. let b = below_free here.slots s z in k (length here.slots + shape_number s) (omega (arith, b)) ∙ h.defaults s z;
}

-- these steps come next, with room for d more calls in one another; the registers from t on are free
pub record Ready (d : ℕ) (here : Setting) (fr : Frame) (t pc : ℕ) (is : List Step) (m : Machine) : Type 0 where
  pub place : m.pc ≡ pc
  pub has : HasAt m.steps pc is
  pub holds : Holds here fr m.registers
  pub room : length m.stack + d ≡ limit
  pub free : first_free here.slots ≤ t

pub ready_front : {d : ℕ} {here : Setting} {fr : Frame} {t pc : ℕ} {m : Machine} (u : ℕ) (a b : List Step) → t ≤ u → Ready d here fr t pc (a ++ b) m → Ready
    d here fr u pc a m
ready_front {pc = pc} {m = m} u a b l r = record {
  place = r.place;
  has = has_front m.steps pc a b r.has;
  holds = r.holds;
  room = r.room;
  free = omega
      (arith, r.free);
}

-- after the first of them
pub ready_back : {d : ℕ} {here : Setting} {fr : Frame} {t pc : ℕ} {m m1 : Machine} (u v : ℕ) (a b : List Step) → t ≤ u → t ≤ v → Ready d here fr t pc
    (a ++ b) m → Near v m m1 → m1.pc ≡ pc + length a → Ready d here fr u (pc + length a) b m1
ready_back {d = d} {pc = pc} {m = m} {m1 = m1} u v a b l k r n e = record {
  place = e;
  has = subst (λ z. HasAt z (pc + length a) b) (sym n.steps) (has_back m.steps pc a b r.has);
  holds = holds_kept v (omega (arith, r.free)) r.holds n.kept;
  room = ap (λ z. length z + d) n.stack ∙ r.room;
  free = omega (arith, r.free);
}

-- elsewhere in the same code
pub ready_at : {d : ℕ} {here : Setting} {fr : Frame} {t pc : ℕ} {is : List Step} {m m1 : Machine} (u pc' : ℕ) (is' : List Step) → t ≤ u → Ready d here fr t
    pc is m → Near t m m1 → m1.pc ≡ pc' → HasAt m.steps pc' is' → Ready d here fr u pc' is' m1
ready_at {d = d} {t = t} u pc' is' l r n e h = record {
  place = e;
  has = subst (λ z. HasAt z pc' is') (sym n.steps) h;
  holds = holds_kept t r.free r.holds n.kept;
  room = ap (λ z. length z + d) n.stack ∙ r.room;
  free = omega (arith, r.free);
}

pub ready_step : {d : ℕ} {here : Setting} {fr : Frame} {t pc : ℕ} {i : Step} {is : List Step} {m : Machine} → Ready d here fr t pc (i ∷ is) m → slice_get
    m.steps m.pc ≡ Some i
ready_step {i = i} {m = m} r = ap (λ z. slice_get m.steps z) r.place ∙ r.has.0

-- ---- BRANCHES

pub record Branched (m : Machine) (to : ℕ) (m' : Machine) : Type 0 where
  pub steps : m'.steps ≡ m.steps
  pub stack : m'.stack ≡ m.stack
  pub pc : m'.pc ≡ to
  pub registers : (i : ℕ) → m'.registers i ≡ m.registers i

module _ {w : World} {p : List Function} where
  pub branch_runs : (r : ℕ) (b : Bool) (target : ℕ) (v : Value) (m : Machine) → m.registers r ≡ v → slice_get m.steps m.pc ≡ Some (Branch r b target) → Runs
      w p m (tested v) (λ o m'. Branched m (either (same_truth o b) target (m.pc + 1)) m')
  branch_runs r b target v m e h =
      instruct m (Branch r b target) (tested v) (λ o. at (either (same_truth o b) target (m.pc + 1)) m) (Any {A = Bool}) _ h
      (λ s. ap (λ z. carry (tested z s) (λ o. done (at (either (same_truth o b) target (m.pc + 1)) m))) e) (tested_gives w v)
      (λ o q. record { steps = refl; stack = refl; pc = refl; registers = λ i. refl })

-- ---- CLASSIFICATION

pub record Wanting (b : Bool) (c r : ℕ) (m : Machine) (secret : Bool) (v : Value) (m' : Machine) : Type 0 where
  pub steps : m'.steps ≡ m.steps
  pub stack : m'.stack ≡ m.stack
  pub pc : m'.pc ≡ m.pc + length (classifying b c r)
  pub kept : (i : ℕ) → i ≢ c → m'.registers i ≡ m.registers i
  pub here : m'.registers (picked b c r) ≡ v
  pub private : IsSecret secret v

pub near_wanting : {b : Bool} {c r : ℕ} {m m' : Machine} {secret : Bool} {v : Value} (t : ℕ) → t ≤ c → Wanting b c r m secret v m' → Near t m m'
near_wanting t l h = record { steps = h.steps; stack = h.stack; kept = λ i k. h.kept i (omega arith) }

pub ready_classify : {d : ℕ} {here : Setting} {fr : Frame} {t pc : ℕ} {m : Machine} (b : Bool) (c r : ℕ) (is : List Step) → Ready d here fr t pc
    (classifying b c r ++ is) m → HasAt m.steps m.pc (classifying b c r)
ready_classify {pc = pc} {m = m} b c r is h = subst (λ z. HasAt m.steps z (classifying b c r)) (sym h.place) (has_front m.steps pc (classifying b c r) is h.has)

pub ready_wanting : {d : ℕ} {here : Setting} {fr : Frame} {t pc : ℕ} {m m' : Machine} {secret : Bool} {v : Value} (b : Bool) (c r : ℕ) (is : List Step) → t
    ≤ c → Ready d here fr t pc (classifying b c r ++ is) m → Wanting b c r m secret v m' → Ready d here fr t (pc + length (classifying b c r)) is m'
ready_wanting {t = t} b c r is l h k =
    ready_back t c (classifying b c r) is (omega arith) l h (near_wanting c (omega arith) k) (k.pc ∙ ap (λ z. z + length (classifying b c r)) h.place)

joined_want : (n g : Bool) → MayStand g n → (lacks n g || g) ≡ n
joined_want true true h = refl
joined_want true false h = refl
joined_want false false h = refl
joined_want false true h = sym (h refl)

module _ {w : World} {p : List Function} where
  pub classifying_runs : (b : Bool) (c r : ℕ) (x : Value) (m : Machine) → m.registers r ≡ x → HasAt m.steps m.pc (classifying b c r) → Runs w p m
      (wanted b x) (Wanting b c r m (b || is_secret x.secrecy))
  classifying_runs true c r x m e h =
      instruct m (Classify c r) (classified x) (λ v. next c v m) (IsSecret true) (Wanting true c r m true) h.0
      (λ s. ap (λ z. carry (classified z s) (λ v. done (next c v m))) e) (class_gives w x)
      (λ v q. record { steps = refl; stack = refl; pc = refl; kept = λ i n. put_other c i v m.registers n; here = put_same c v m.registers; private = q })
  classifying_runs false c r x m e h = runs_done (record { steps = refl; stack = refl; pc = omega arith; kept = λ i n. refl; here = e; private = refl })

  -- where private values are wanted, and nothing private stands where a public one is
  pub wanting_runs : (n g : Bool) (c r : ℕ) (x : Value) (m : Machine) → IsSecret g x → MayStand g n → m.registers r ≡ x → HasAt m.steps m.pc
      (classifying (lacks n g) c r) → Runs w p m (wanted n x) (Wanting (lacks n g) c r m n)
  wanting_runs n g c r x m q d e h =
      subst (λ z. Runs w p m z (Wanting (lacks n g) c r m n)) (sym (wanted_less n g x q))
      (subst (λ z. Runs w p m (wanted (lacks n g) x) (Wanting (lacks n g) c r m z)) (ap (λ z. lacks n g || z) q ∙ joined_want n g d)
      (classifying_runs (lacks n g) c r x m e h))
