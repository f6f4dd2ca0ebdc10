-- The code of arguments, one more at a time.
use Rattle.std.proofs.Common.{◌≡◌, ℕ, Bool, zero, suc, ◌+◌, ◌*◌, ◌<◌, ◌≤◌, List, [], ◌∷◌, ◌++◌, length, refl, sym, ap, ◌∙◌, arith, append_assoc}
use Rattle.std.proofs.Common.{append-nil, length-append, drop, take, get_or}
use Rattle.std.specs.Prelude.{map}
use Rattle.std.proofs.lemmas.List.{length-map, length-take-le}
use Rattle.program_trees.specs.declared.kinds.Slot.{Slot}
use Rattle.program_trees.specs.declared.typed_expression.TypedExpression.{TypedExpression}
use Rattle.program_trees.specs.TypedTree.{TypedTree, typed_tree, typed_trees_of}
use Rattle.reached_instances.specs.declared.instance.BoundDomain.{BoundDomain}
use Rattle.reached_instances.specs.Domains.{Setting}
use Rattle.language_model.specs.Evaluation.{gives_private, next_is_private, behind_next}
use Rattle.verified_code.specs.Steps.{Step}
use Rattle.code_model.specs.Expressions.{Numbers, classifying, picked, lacks, classified_at, stands_at, next_row, expression_code, arguments_code}
use Rattle.code_model.specs.Expressions.{arguments_places}
use Rattle.code_model.proofs.Widths.{width, widths}

drop_next : (ss : List Slot) (k : ℕ) → drop (suc k) ss ≡ drop k (behind_next ss)
drop_next [] zero = refl
drop_next [] (suc k) = refl
drop_next (s ∷ ss) k = refl

module _ (number : Numbers) (here : Setting) where
  -- an argument's code in the row n and at p, wanted private or not
  abbrev pub argument_under : Bool → (n p : ℕ) → TypedTree → List Step
  argument_under wanted n p t =
      expression_code number here n p t ++ classifying (lacks wanted (gives_private here t)) (classified_at here t n) (stands_at here t n)

module _ (number : Numbers) (here : Setting) (b : List BoundDomain) where
  -- an argument's code in the row n and at p, where the slots are the parameters from its own on
  abbrev pub argument_code : List Slot → (n p : ℕ) → TypedTree → List Step
  argument_code s n p t =
      expression_code number here n p t
      ++ classifying (lacks (next_is_private b s) (gives_private here t)) (classified_at here t n) (stands_at here t n)

  abbrev pub argument_place : List Slot → (n : ℕ) → TypedTree → ℕ
  argument_place s n t = picked (lacks (next_is_private b s) (gives_private here t)) (classified_at here t n) (stands_at here t n)

  pub code_more : (ts : List TypedTree) (t : TypedTree) (ss : List Slot) (r pc : ℕ) (s : List Slot) (n p : ℕ) → drop (length ts) ss ≡ s
      → r + 12 * length ts ≡ n → pc + length (arguments_code number here b ss r pc (typed_trees_of ts)) ≡ p
      → arguments_code number here b ss r pc (typed_trees_of (ts ++ t ∷ []))
      ≡ arguments_code number here b ss r pc (typed_trees_of ts) ++ argument_code s n p t
  code_more [] t ss r pc s n p si ni pi =
      let e : r ≡ n = omega (arith, ni) in
      let f : pc ≡ p = omega (arith, pi) in
      ap (λ (z : List Step). expression_code number here r pc t ++ z)
      (append-nil (classifying (lacks (next_is_private b ss) (gives_private here t)) (classified_at here t r) (stands_at here t r)))
      ∙ ap (λ (z : List Slot). argument_code z r pc t) si
      ∙ ap (λ (z : ℕ). argument_code s z pc t) e
      ∙ ap (λ (z : ℕ). argument_code s n z t) f
  code_more (e ∷ ts) t ss r pc s n p si ni pi =
      let ce = expression_code number here r pc e in
      let cl = classifying (lacks (next_is_private b ss) (gives_private here e)) (classified_at here e r) (stands_at here e r) in
      let r2 = next_row r in
      let p2 = pc + length ce + length cl in
      let rest = arguments_code number here b (behind_next ss) r2 p2 (typed_trees_of ts) in
      let last = argument_code s n p t in
      let si2 : drop (length ts) (behind_next ss) ≡ s = sym (drop_next ss (length ts)) ∙ si in
      let ni2 : r2 + 12 * length ts ≡ n = omega (arith, ni) in
      let pi2 : p2 + length rest ≡ p = omega (arith, pi, length-append ce (cl ++ rest), length-append cl rest) in
      ap (λ (z : List Step). ce ++ (cl ++ z)) (code_more ts t (behind_next ss) r2 p2 s n p si2 ni2 pi2)
      ∙ ap (λ (z : List Step). ce ++ z) (sym (append_assoc cl rest last))
      ∙ sym (append_assoc ce (cl ++ rest) last)

  pub places_more : (ts : List TypedTree) (t : TypedTree) (ss : List Slot) (r : ℕ) (s : List Slot) (n : ℕ) → drop (length ts) ss ≡ s
      → r + 12 * length ts ≡ n
      → arguments_places number here b ss r (typed_trees_of (ts ++ t ∷ []))
      ≡ arguments_places number here b ss r (typed_trees_of ts) ++ argument_place s n t ∷ []
  places_more [] t ss r s n si ni =
      let e : r ≡ n = omega (arith, ni) in
      ap (λ (z : List Slot). argument_place z r t ∷ []) si ∙ ap (λ (z : ℕ). argument_place s z t ∷ []) e
  places_more (e ∷ ts) t ss r s n si ni =
      let r2 = next_row r in
      let si2 : drop (length ts) (behind_next ss) ≡ s = sym (drop_next ss (length ts)) ∙ si in
      let ni2 : r2 + 12 * length ts ≡ n = omega (arith, ni) in
      ap (λ (z : List ℕ). argument_place ss r e ∷ z) (places_more ts t (behind_next ss) r2 s n si2 ni2)

-- an argument is narrower than all of them
pub widths_item : (es : List TypedExpression) (i : ℕ) (d : TypedExpression) → i < length es
    → width (typed_tree (get_or es i d)) + 1 ≤ widths (typed_trees_of (map typed_tree es))
widths_item [] i d l = absurd (omega (arith, l))
widths_item (e ∷ es) zero d l = omega arith
widths_item (e ∷ es) (suc i) d l =
    let within : i < length es = omega (arith, l) in
    let rest = widths_item es i d within in
    omega (arith, rest)

pub length_taken : (es : List TypedExpression) (i : ℕ) → i < length es → length (map typed_tree (take i es)) ≡ i
length_taken es i l = length-map (take i es) typed_tree ∙ length-take-le i es (omega (arith, l))
