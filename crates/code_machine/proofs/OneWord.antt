-- Values of one word.
use Rattle.std.proofs.Common.{◌≡◌, ℕ, ◌<◌, List, [], ◌∷◌, length, get_or, Bool, true, false, ◌&&◌, refl, sym, ◌∙◌, ap, subst, arith}
use Rattle.std.specs.Prelude.{not, set, nat_eq}
use Rattle.std.proofs.lemmas.Bool.{and_parts, eqb-true, false≢true}
use Rattle.program_trees.specs.declared.expression.DataType.{DataType}
use Rattle.program_trees.specs.declared.expression.DataType.TheVariants.{Uint64, Int64}
use Rattle.program_trees.specs.declared.expression.DataType.TheVariants as datatype
use Rattle.program_trees.specs.declared.kinds.Shape.{Shape}
use Rattle.program_trees.specs.Shapes.{shape_of}
use Rattle.language_model.specs.Evaluation.{same_shape, same_truth, same_type}
use Rattle.language_model.specs.Values.{Value, plain, is_secret, seen_of, size, visible_words}
use Rattle.value_steps.specs.declared.arrays.WrittenElement as wrote
use Rattle.value_steps.specs.declared.value.Secrecy as kept
use Rattle.value_steps.specs.declared.value.Secrecy.TheVariants as secrecy
use Rattle.value_steps.specs.declared.value.Value as held
use Rattle.value_steps.specs.Views.{secrecy_seen, value_seen, written}

type-is : (d e : DataType) → same_type d e ≡ true → d ≡ e
type-is Uint64 Uint64 t = refl
type-is Uint64 Int64 t = absurd (false≢true t)
type-is Uint64 datatype.Bool t = absurd (false≢true t)
type-is Int64 Uint64 t = absurd (false≢true t)
type-is Int64 Int64 t = refl
type-is Int64 datatype.Bool t = absurd (false≢true t)
type-is datatype.Bool Uint64 t = absurd (false≢true t)
type-is datatype.Bool Int64 t = absurd (false≢true t)
type-is datatype.Bool datatype.Bool t = refl

truth-is : (a b : Bool) → same_truth a b ≡ true → a ≡ b
truth-is true b t = sym t
truth-is false true t = absurd (false≢true t)
truth-is false false t = refl

shape-is : (s t : Shape) → same_shape s t ≡ true → s ≡ t
shape-is s t h =
    let p = and_parts (same_type s.element t.element) (same_truth s.array t.array) h in
    ap (λ e. shape_of e s.array) (type-is s.element t.element p.0) ∙ ap (shape_of t.element) (truth-is s.array t.array p.1)

set-one : (xs : List ℕ) (x : ℕ) → length xs ≡ 1 → set xs 0 x ≡ x ∷ []
set-one [] x e = absurd (omega (arith, e))
set-one (y ∷ []) x e = refl
set-one (y ∷ z ∷ xs) x e = absurd (omega (arith, e))

-- a public value of one word is the scalar of that word
scalar-of : (s : kept.Secrecy) (shape : Shape) (xs : List ℕ) → (not (is_secret (secrecy_seen s)) && nat_eq (length xs) 1) ≡ true
    → plain shape (get_or (seen_of (secrecy_seen s) xs) 0 0 ∷ []) ≡ record { secrecy = secrecy_seen s; shape = shape; words = xs }
scalar-of secrecy.Plain shape [] e = absurd (false≢true e)
scalar-of secrecy.Plain shape (x ∷ []) e = refl
scalar-of secrecy.Plain shape (x ∷ y ∷ xs) e = let many = eqb-true (length (x ∷ y ∷ xs)) 1 e in absurd (omega (arith, many))
scalar-of (secrecy.Private k) shape xs e = absurd (false≢true e)

pub scalar-is : (v : held.Value) → (not (is_secret (value_seen v).secrecy) && nat_eq (length v.words.items) 1) ≡ true
    → plain v.shape (get_or (visible_words (value_seen v)) 0 0 ∷ []) ≡ value_seen v
scalar-is v e = scalar-of v.secrecy v.shape v.words.items e

-- a word is written into a value of one word
module _ (v : held.Value) (k : Value) (shape : Shape) (is : value_seen v ≡ k)
    (one : (same_shape v.shape shape && nat_eq (length v.words.items) 1) ≡ true) where
  count : length v.words.items ≡ 1
  count = eqb-true (length v.words.items) 1 (and_parts (same_shape v.shape shape) (nat_eq (length v.words.items) 1) one).1

  -- it makes the value a public scalar
  pub written-scalar : (e : wrote.WrittenElement) → e.index ≡ 0 → e.secrecy ≡ secrecy.Plain → written k e ≡ plain shape (e.word ∷ [])
  written-scalar e first public =
      let s : v.shape ≡ shape = shape-is v.shape shape (and_parts (same_shape v.shape shape) (nat_eq (length v.words.items) 1) one).0 in
      ap (λ x. written x e) (sym is)
      ∙ ap (λ y. written (value_seen v) (record e { secrecy = y })) public
      ∙ ap (λ n. plain v.shape (set v.words.items n e.word)) first
      ∙ ap (λ z. plain z (set v.words.items 0 e.word)) s
      ∙ ap (plain shape) (set-one v.words.items e.word count)

  -- and is within it
  pub within-scalar : 0 < size k
  within-scalar = subst (λ x. 0 < size x) is (omega (arith, count))
