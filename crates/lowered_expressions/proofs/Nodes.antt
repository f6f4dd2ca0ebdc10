-- The code of nodes with two operands.
use Rattle.std.proofs.Common.{◌≡◌, ℕ, ◌+◌, Bool, false, List, [], ◌∷◌, ◌++◌, length, ap, ap₂, ◌∙◌, arith, append_assoc, length-append}
use Rattle.program_trees.specs.declared.operators.BinaryOperator.TheVariants as binary
use Rattle.program_trees.specs.declared.operators.Operands.TheVariants.{Scalars}
use Rattle.program_trees.specs.declared.operators.Connective.{Connective}
use Rattle.program_trees.specs.TypedTree.{TypedTree, cat_node, cut_node}
use Rattle.reached_instances.specs.Domains.{Setting}
use Rattle.language_model.specs.Evaluation.{gives_private, connective, either}
use Rattle.verified_code.specs.Steps.{Step, At, Cat, Lookup}
use Rattle.code_model.specs.Kinds.{truth_kind, in_row}
use Rattle.code_model.specs.Expressions.{Numbers, classifying, picked, lacks, own_at, classified_at, stands_at, next_row, element_code, cat_code, lookup_code}
use Rattle.code_model.specs.Expressions.{binary_code, cut_code, expression_code}
use Rattle.lowered_expressions.specs.Built.{Built, with_step, with_steps}
use Rattle.lowered_expressions.specs.Parts.{lookup_end}
use Rattle.lowered_expressions.proofs.Building.{two_parts, stepped}

pub element_made : (b f g h : Built) (ca cb : (pc : ℕ) → List Step) (line to from at d v u : ℕ)
    → f ≡ with_steps b (ca (length b.pieces)) → g ≡ with_steps f (cb (length f.pieces))
    → h ≡ with_step g (At line to from at) → to ≡ d → from ≡ v → at ≡ u
    → h ≡ with_steps b (element_code d v u (length b.pieces) line (ca (length b.pieces)) cb)
element_made b f g h ca cb line to from at d v u first second last to_is from_is at_is =
    let rest = λ (p : ℕ). cb p ++ At line d v u ∷ [] in
    let same : h ≡ with_step g (At line d v u) =
    last ∙ ap (λ (x : ℕ). with_step g (At line x from at)) to_is ∙ ap₂ (λ (x y : ℕ). with_step g (At line d x y)) from_is at_is in
    two_parts b f h (ca (length b.pieces)) rest first (stepped f g h (cb (length f.pieces)) (At line d v u ∷ []) second same)

pub lookup_made : (b f g h : Built) (ca cb : (pc : ℕ) → List Step) (line to : ℕ) (l1 : Bool) (m1 v1 : ℕ) (r1 : Bool) (n1 u1 d : ℕ) (l : Bool) (m v : ℕ)
    (r : Bool) (n u : ℕ) → f ≡ with_steps b (ca (length b.pieces)) → g ≡ with_steps f (cb (length f.pieces))
    → h ≡ with_steps g (lookup_end line to l1 m1 v1 r1 n1 u1) → to ≡ d → l1 ≡ l → m1 ≡ m → v1 ≡ v → r1 ≡ r → n1 ≡ n → u1 ≡ u
    → h ≡ with_steps b (lookup_code d m n v u (length b.pieces) line l r (ca (length b.pieces)) cb)
lookup_made b f g h ca cb line to l1 m1 v1 r1 n1 u1 d l m v r n u first second last to_is l_is m_is v_is r_is n_is u_is =
    let end = lookup_end line d l m v r n u in
    let same : h ≡ with_steps g end =
    last ∙ ap₂ (λ (x : ℕ) (y : Bool). with_steps g (lookup_end line x y m1 v1 r1 n1 u1)) to_is l_is
    ∙ ap₂ (λ (x y : ℕ). with_steps g (lookup_end line d l x y r1 n1 u1)) m_is v_is
    ∙ ap₂ (λ (x : Bool) (y : ℕ). with_steps g (lookup_end line d l m v x y u1)) r_is n_is
    ∙ ap (λ (x : ℕ). with_steps g (lookup_end line d l m v r n x)) u_is in
    two_parts b f h (ca (length b.pieces)) (λ (p : ℕ). cb p ++ end) first (stepped f g h (cb (length f.pieces)) end second same)

cat_same : (a l c m : List Step) (e : Step) → (a ++ l) ++ ((c ++ m) ++ e ∷ []) ≡ a ++ (l ++ (c ++ (m ++ e ∷ [])))
cat_same a l c m e = simp append_assoc

pub cat_made : (b f g h : Built) (ca cb : (pc : ℕ) → List Step) (l r : Bool) (line to left right d m n v u : ℕ)
    → f ≡ with_steps b (ca (length b.pieces) ++ classifying l m v)
    → g ≡ with_steps f (cb (length f.pieces) ++ classifying r n u)
    → h ≡ with_step g (Cat line to left right) → to ≡ d → left ≡ picked l m v → right ≡ picked r n u
    → h ≡ with_steps b (cat_code d m n v u (length b.pieces) line l r (ca (length b.pieces)) cb)
cat_made b f g h ca cb l r line to left right d m n v u first second last to_is left_is right_is =
    let c1 = ca (length b.pieces) in
    let cl = classifying l m v in
    let cr = classifying r n u in
    let step = Cat line d (picked l m v) (picked r n u) in
    let rest = λ (p : ℕ). (cb p ++ cr) ++ step ∷ [] in
    let same : h ≡ with_step g step =
    last ∙ ap (λ (x : ℕ). with_step g (Cat line x left right)) to_is ∙ ap₂ (λ (x y : ℕ). with_step g (Cat line d x y)) left_is right_is in
    let place : length b.pieces + length (c1 ++ cl) ≡ length b.pieces + length c1 + length cl = omega (arith, length-append c1 cl) in
    two_parts b f h (c1 ++ cl) rest first (stepped f g h (cb (length f.pieces) ++ cr) (step ∷ []) second same)
    ∙ ap (λ (x : ℕ). with_steps b ((c1 ++ cl) ++ ((cb x ++ cr) ++ step ∷ []))) place
    ∙ ap (with_steps b) (cat_same c1 cl (cb (length b.pieces + length c1 + length cl)) cr step)

module _ (number : Numbers) (here : Setting) where
  -- the code of an array and another after it, where their values are wanted private or not
  abbrev pub cat_of : (line : ℕ) → (x y : TypedTree) → (t pc : ℕ) → (wanted : Bool) → List Step
  cat_of line x y t pc g =
      cat_code (own_at here (cat_node line x y) t) (classified_at here x t) (classified_at here y (next_row t)) (stands_at here x t)
      (stands_at here y (next_row t)) pc line (lacks g (gives_private here x)) (lacks g (gives_private here y))
      (expression_code number here t pc x) (λ p. expression_code number here (next_row t) p y)

  -- the code of a connective, where its left operand is private or not
  abbrev pub cut_of : Connective → (x y : TypedTree) → (t pc : ℕ) → (private : Bool) → List Step
  cut_of c x y t pc g =
      let d = own_at here (cut_node c x y) t in
      let u = next_row t in
      let cx = expression_code number here t pc x in
      let gy = gives_private here y in
      either g
      (binary_code d (classified_at here x t) (classified_at here y u) (stands_at here x t) (stands_at here y u) pc 0 (binary.Bools (connective c)) Scalars
      (gives_private here x) gy cx (λ p. expression_code number here u p y))
      (cut_code d (in_row t (truth_kind false)) (stands_at here x t) (stands_at here y u) pc c gy cx (λ p. expression_code number here u p y))
