-- Kinds that stand in the list of a function's kinds from a register on, and code all of whose steps are right.
use Rattle.std.proofs.Common.{◌≡◌, ℕ, zero, suc, ◌+◌, ◌*◌, ◌<◌, ◌≤◌, List, [], ◌∷◌, ◌++◌, length, Option, Some, Bool, true, false, refl, ap, ◌∙◌, subst}
use Rattle.std.proofs.Common.{arith}
use Rattle.std.proofs.Common.{sym, inl, inr}
use Rattle.std.specs.Prelude.{slice_get, max}
use Rattle.std.proofs.Math.Nat.{le-max_left, le-max_right}
use Rattle.std.proofs.lemmas.Option.{none-some, same_Some}
use Rattle.sc_text.specs.Lists.{Among}
use Rattle.program_trees.specs.declared.expression.DataType.{DataType}
use Rattle.program_trees.specs.declared.expression.DataType.TheVariants.{Uint64, Int64}
use Rattle.program_trees.specs.declared.expression.DataType.TheVariants as datatype
use Rattle.program_trees.specs.declared.kinds.Shape.{Shape}
use Rattle.language_model.specs.Evaluation.{either}
use Rattle.bytecode.specs.declared.kind.Kind.{Kind}
use Rattle.verified_code.specs.Steps.{Step, Function}
use Rattle.code_model.specs.Fit.{MayStand}
use Rattle.code_model.specs.Kinds.{kind_of, kind_number, shape_kinds, rows_kinds, in_row}
use Rattle.code_model.specs.Kinded.{HasKind}
use Rattle.code_model.specs.Expressions.{classifying, picked, lacks, next_row}
use Rattle.code_model.specs.Right.{IsRight}

pub clash : false ≡ true → ⊥
clash h = cc

pub front : {A : Type 0} (a b : List A) (k : ℕ) (x : A) → slice_get a k ≡ Some x → slice_get (a ++ b) k ≡ Some x
front [] b k x e = absurd (none-some _ e)
front (y ∷ a) b zero x e = e
front (y ∷ a) b (suc k) x e = front a b k x e

behind : {A : Type 0} (a b : List A) (k : ℕ) (x : A) → slice_get b k ≡ Some x → slice_get (a ++ b) (length a + k) ≡ Some x
behind [] b k x e = let n : 0 + k ≡ k = omega arith in ap (slice_get b) n ∙ e
behind (y ∷ a) b k x e =
    let n : length (y ∷ a) + k ≡ suc (length a + k) = omega arith in ap (slice_get (y ∷ (a ++ b))) n ∙ behind a b k x e

pub found_among : {A : Type 0} (xs : List A) (k : ℕ) (x : A) → slice_get xs k ≡ Some x → Among x xs
found_among [] k x e = absurd (none-some _ e)
found_among (y ∷ ys) zero x e = inl (sym (same_Some y x e))
found_among (y ∷ ys) (suc k) x e = inr (found_among ys k x e)

-- ---- KINDS

pub record Stands (ks : List Kind) (t : ℕ) (qs : List Kind) : Type 0 where
  pub at : (k : ℕ) (x : Kind) → slice_get qs k ≡ Some x → HasKind ks (t + k) x

module _ {ks : List Kind} where
  pub stands_first : {t : ℕ} {q : Kind} {qs : List Kind} → Stands ks t (q ∷ qs) → HasKind ks t q
  stands_first {t = t} {q = q} h = let n : t ≡ t + 0 = omega arith in ap (slice_get ks) n ∙ h.at 0 q refl

  pub stands_rest : {t : ℕ} {q : Kind} {qs : List Kind} (u : ℕ) → u ≡ t + 1 → Stands ks t (q ∷ qs) → Stands ks u qs
  stands_rest {t = t} u e h =
      record { at = λ k x there. let n : u + k ≡ t + suc k = omega (arith, e) in ap (slice_get ks) n ∙ h.at (suc k) x there }

  pub stands_left : {t : ℕ} (a b : List Kind) → Stands ks t (a ++ b) → Stands ks t a
  stands_left a b h = record { at = λ k x there. h.at k x (front a b k x there) }

  pub stands_right : {t : ℕ} {b : List Kind} (u : ℕ) (a : List Kind) → u ≡ t + length a → Stands ks t (a ++ b) → Stands ks u b
  stands_right {t = t} {b = b} u a e h = record {
    at = λ k x there.
        let n : u + k ≡ t + (length a + k) = omega (arith, e) in ap (slice_get ks) n ∙ h.at (length a + k) x (behind a b k x there);
  }

-- each kind has its place in a row
row_there : (s : Bool) (e : DataType) (a : Bool) (more : List Kind) → slice_get (shape_kinds false ++ (shape_kinds true ++ more))
    (kind_number (record { secret = s; element = e; array = a })) ≡ Some (record { secret = s; element = e; array = a })
row_there false Uint64 false more = refl
row_there false Uint64 true more = refl
row_there false Int64 false more = refl
row_there false Int64 true more = refl
row_there false datatype.Bool false more = refl
row_there false datatype.Bool true more = refl
row_there true Uint64 false more = refl
row_there true Uint64 true more = refl
row_there true Int64 false more = refl
row_there true Int64 true more = refl
row_there true datatype.Bool false more = refl
row_there true datatype.Bool true more = refl

-- so many rows of registers begin at t
pub record HasRows (ks : List Kind) (t n : ℕ) : Type 0 where
  pub at : (j : ℕ) (k : Kind) → j < n → HasKind ks (in_row (t + 12 * j) k) k

module _ {ks : List Kind} where
  pub row_first : {t n : ℕ} (k : Kind) → 0 < n → HasRows ks t n → HasKind ks (in_row t k) k
  row_first {t = t} k l h = let e : in_row t k ≡ in_row (t + 12 * 0) k = omega arith in ap (slice_get ks) e ∙ h.at 0 k l

  pub rows_less : {t n : ℕ} (m : ℕ) → m ≤ n → HasRows ks t n → HasRows ks t m
  rows_less m l h = record { at = λ j k b. h.at j k (omega (arith, l, b)) }

  pub rows_next : {t n : ℕ} (m : ℕ) → 1 + m ≤ n → HasRows ks t n → HasRows ks (next_row t) m
  rows_next {t = t} m l h = record {
    at = λ j k b.
        let e : in_row (next_row t + 12 * j) k ≡ in_row (t + 12 * (j + 1)) k = omega arith in ap (slice_get ks) e ∙ h.at (j + 1) k (omega (arith, l, b));
  }

  -- of one of two that begin at one place, and of one that begins a row later
  pub rows_left : {t : ℕ} (a b : ℕ) → HasRows ks t (max a b) → HasRows ks t a
  rows_left a b h = rows_less a (le-max_left a b) h

  pub rows_right : {t : ℕ} (a b : ℕ) → HasRows ks t (max a b) → HasRows ks t b
  rows_right a b h = rows_less b (le-max_right a b) h

  pub rows_second : {t : ℕ} (a b : ℕ) → HasRows ks t (max a (1 + b)) → HasRows ks (next_row t) b
  rows_second a b h = rows_next b (le-max_right a (1 + b)) h

  pub rows_stand : (t n : ℕ) → Stands ks t (rows_kinds n) → HasRows ks t n
  rows_stand t zero h = record { at = λ j k b. absurd (omega (arith, b)) }
  rows_stand t (suc n) h =
      let half : t + 6 ≡ t + length (shape_kinds false) = omega arith in
      let whole : next_row t ≡ t + 6 + length (shape_kinds true) = omega arith in
      record {
        at = go (rows_stand (next_row t) n (stands_right (next_row t) (shape_kinds true) whole (stands_right (t + 6) (shape_kinds false) half h)));
      }
    where
      go : HasRows ks (next_row t) n → (j : ℕ) (k : Kind) → j < suc n → HasKind ks (in_row (t + 12 * j) k) k
      go rest zero k b =
          let e : in_row (t + 12 * 0) k ≡ t + kind_number k = omega arith in
          ap (slice_get ks) e ∙ h.at (kind_number k) k (row_there k.secret k.element k.array (rows_kinds n))
      go rest (suc j) k b =
          let e : in_row (t + 12 * suc j) k ≡ in_row (next_row t + 12 * j) k = omega arith in
          ap (slice_get ks) e ∙ rest.at j k (omega (arith, b))

-- a whole list stands in itself
pub stands_itself : (ks : List Kind) → Stands ks 0 ks
stands_itself ks = record { at = λ k x there. let n : 0 + k ≡ k = omega arith in ap (slice_get ks) n ∙ there }

-- ---- STEPS

module _ (c : List Function) (ks : List Kind) (gives : Option Kind) (count : ℕ) where
  abbrev pub AllRight : List Step → Type 0
  AllRight [] = Unit {0}
  AllRight (i ∷ is) = IsRight c ks gives count i × AllRight is

  pub both_right : (a b : List Step) → AllRight a → AllRight b → AllRight (a ++ b)
  both_right [] b h k = k
  both_right (i ∷ a) b h k = (h.0, both_right a b h.1 k)

  pub either_right : (g : Bool) (a b : List Step) → (g ≡ true → AllRight a) → (g ≡ false → AllRight b) → AllRight (either g a b)
  either_right true a b h k = h refl
  either_right false a b h k = k refl

  pub right_at : (code : List Step) → AllRight code → (k : ℕ) (i : Step) → slice_get code k ≡ Some i → IsRight c ks gives count i
  right_at [] h k i e = absurd (none-some _ e)
  right_at (j ∷ code) h zero i e = subst (IsRight c ks gives count) (same_Some j i e) h.0
  right_at (j ∷ code) h (suc k) i e = right_at code h.1 k i e

  -- ---- CLASSIFICATION

  pub classifying_right : (l : Bool) (e : DataType) (a : Bool) (t r : ℕ) → (l ≡ true → HasKind ks r (record { secret = false; element = e; array = a }))
      → (l ≡ true → HasKind ks t (record { secret = true; element = e; array = a })) → AllRight (classifying l t r)
  classifying_right true e a t r h k = ((e, a, h refl, k refl), tt)
  classifying_right false e a t r h k = tt

  -- a value that is classified where it lacks that
  pub lacking_right : (w g : Bool) (s : Shape) (t r : ℕ) → HasKind ks r (kind_of g s) → HasKind ks t (kind_of true s) → AllRight (classifying (lacks w g) t r)
  lacking_right true true s t r h k = tt
  lacking_right true false s t r h k = ((s.element, s.array, h, k), tt)
  lacking_right false true s t r h k = tt
  lacking_right false false s t r h k = tt

  pub picked_kind : (w g : Bool) (s : Shape) (t r : ℕ) → MayStand g w → HasKind ks r (kind_of g s) → HasKind ks t (kind_of true s) → HasKind ks
      (picked (lacks w g) t r) (kind_of w s)
  picked_kind true true s t r m h k = h
  picked_kind true false s t r m h k = k
  picked_kind false true s t r m h k = absurd (clash (m refl))
  picked_kind false false s t r m h k = h
