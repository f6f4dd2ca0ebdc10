-- Where the notes of expressions are among those of a node.
use Rattle.std.proofs.Common.{◌≡◌, ℕ, suc, ◌+◌, ◌<◌, List, [], ◌∷◌, ◌++◌, length, get_or, drop, refl, sym, ap, ◌∙◌, append_assoc, append-nil, add-one}
use Rattle.std.proofs.Common.{drop-cons}
use Rattle.std.specs.Prelude.{map, slice_set}
use Rattle.std.proofs.lemmas.List.{take_at, drop_at, set_at}
use Rattle.program_trees.specs.declared.typed_expression.TypedExpression.{TypedExpression}
use Rattle.program_trees.specs.TypedTree.{TypedTree, also, typed_tree, typed_trees_of}
use Rattle.reached_instances.specs.declared.instance.BoundDomain.{BoundDomain}
use Rattle.reached_instances.specs.Domains.{Setting, domain, domains}
use Rattle.lowered_expressions.specs.declared.notes.Note.{Note}
use Rattle.lowered_expressions.specs.inner.Notes.{notes_of, operands_notes, arguments_notes, first_part, behind_part, behind_first, noted_domains}

-- ---- AS THEY ARE MADE

-- a note is set in front of those of its operands, once these are there
pub note_set : (old behind all : List Note) (x n : Note) (place : ℕ) → all ≡ (old ++ x ∷ []) ++ behind → place ≡ length old
    → slice_set all place n ≡ old ++ n ∷ behind
note_set old behind all x n place e at =
    ap (λ (z : List Note). slice_set z place n) (e ∙ append_assoc old (x ∷ []) behind) ∙ set_at old x behind n place (sym at)

module _ (here : Setting) where
  pub arguments_notes_more : (ts : List TypedTree) (t : TypedTree)
      → arguments_notes here (typed_trees_of (ts ++ t ∷ [])) ≡ arguments_notes here (typed_trees_of ts) ++ notes_of here t
  arguments_notes_more [] t = append-nil (notes_of here t)
  arguments_notes_more (e ∷ ts) t =
      ap (λ (z : List Note). notes_of here e ++ z) (arguments_notes_more ts t)
      ∙ sym (append_assoc (notes_of here e) (arguments_notes here (typed_trees_of ts)) (notes_of here t))

  -- ---- AS THEY ARE READ

  pub first_is : (e : TypedTree) (l : List Note) → first_part (notes_of here e ++ l) ≡ notes_of here e
  first_is e l = take_at (notes_of here e) l (suc (length (operands_notes here e))) refl

  pub behind_is : (e : TypedTree) (l : List Note) → behind_part (notes_of here e ++ l) ≡ l
  behind_is e l = drop_at (notes_of here e) l (suc (length (operands_notes here e))) refl

  -- of two operands after their node
  pub left_found : (n : Note) (a b : TypedTree) (ns bs ls : List Note) → ns ≡ n ∷ (notes_of here a ++ notes_of here b) → bs ≡ behind_first ns
      → ls ≡ first_part bs → ls ≡ notes_of here a
  left_found n a b ns bs ls p q r = r ∙ ap first_part (q ∙ ap behind_first p) ∙ first_is a (notes_of here b)

  pub right_found : (n : Note) (a b : TypedTree) (ns bs rs : List Note) → ns ≡ n ∷ (notes_of here a ++ notes_of here b) → bs ≡ behind_first ns
      → rs ≡ behind_part bs → rs ≡ notes_of here b
  right_found n a b ns bs rs p q r = r ∙ ap behind_part (q ∙ ap behind_first p) ∙ behind_is a (notes_of here b)

  pub domains_noted : (ts : List TypedTree) → noted_domains (length ts) (arguments_notes here (typed_trees_of ts)) ≡ domains here (typed_trees_of ts)
  domains_noted [] = refl
  domains_noted (t ∷ ts) =
      ap (λ (z : List BoundDomain). domain here t ∷ z)
      (ap (noted_domains (length ts)) (behind_is t (arguments_notes here (typed_trees_of ts))) ∙ domains_noted ts)

-- the arguments from the next one on
pub rest_of : (xs : List TypedExpression) (i : ℕ) (x : TypedExpression) → i < length xs → x ≡ get_or xs i x
    → typed_trees_of (map typed_tree (drop i xs)) ≡ also (typed_tree x) (typed_trees_of (map typed_tree (drop (i + 1) xs)))
rest_of xs i x within is =
    let there : drop i xs ≡ x ∷ drop (i + 1) xs =
    drop-cons xs i x within ∙ ap (λ (y : TypedExpression). y ∷ drop (suc i) xs) (sym is) ∙ ap (λ k. x ∷ drop k xs) (sym (add-one i)) in
    ap (λ z. typed_trees_of (map typed_tree z)) there
