-- A function has at most twice as many registers as its tree has nodes, and one more.
use Rattle.std.proofs.Common.{◌≡◌, ℕ, ◌+◌, ◌≤◌, List, [], ◌∷◌, length, map, Option, Some, None, Bool, true, false, cond, refl, ap, subst}
use Rattle.std.proofs.Common.{arith}
use Rattle.std.specs.Prelude.{nat_eq}
use Rattle.program_trees.specs.Tree.{Tree, Trees, number, truth, variable, call, index, parentheses, negation, cast, binary, declassify, argument, publish}
use Rattle.program_trees.specs.Tree as Tree'
use Rattle.domain_types.specs.BuiltIn.{BuiltIn}
use Rattle.domain_types.specs.BuiltIn.TheVariants.{Size, Cat, Sum, BitExtract, Lookup}
use Rattle.domain_types.specs.Declarations.{Declared, Callee, built_in, defined, callee}
use Rattle.program_trees.specs.declared.operators.BinaryOperator.{BinaryOperator}
use Rattle.program_trees.specs.declared.operators.Connective.{Connective}
use Rattle.program_trees.specs.TypedTree.{TypedTree, call_node, typed_trees_of}
use Rattle.program_trees.specs.Operators.{operator_on, operands_of, may_cut_short}
use Rattle.name_resolution.specs.Scopes.{Scope, variable_named}
use Rattle.name_resolution.specs.Sizes.{nodes, nodes_all}
use Rattle.name_resolution.specs.Values.{TypedValue, TypedCall, of_both, variable_value, element_value, negated, cast_value, declassified_value, operation_node}
use Rattle.name_resolution.specs.Values.{operation_made, operation, gives_value, with_shape, value_given, shape_returned, tree_of_value, built_in_value, called}
use Rattle.name_resolution.specs.Values.{and_more, value, values}
use Rattle.name_resolution.proofs.SoundValues.{mapped, both_there, then_there, some_is}
use Rattle.code_model.proofs.Widths.{width, widths}

-- arguments have a register more each
abbrev pub all_widths : List TypedValue → ℕ
all_widths [] = 0
all_widths (v ∷ vs) = 1 + width v.tree + all_widths vs

same_widths : (vs : List TypedValue) → widths (typed_trees_of (map tree_of_value vs)) ≡ all_widths vs
same_widths [] = refl
same_widths (v ∷ vs) = ap (λ n. 1 + width v.tree + n) (same_widths vs)

abbrev IsNarrow : ℕ → TypedTree → Type 0
IsNarrow n t = width t ≤ n

built_in_width : (line : ℕ) (b : BuiltIn) (vs : List TypedValue) (v : TypedValue) → built_in_value line b vs ≡ Some v → width v.tree ≤ 1 + all_widths vs
built_in_width line Size [] v e = cc
built_in_width line Size (a ∷ []) v e = subst (λ (z : TypedValue). width z.tree ≤ 1 + (1 + width a.tree + 0)) (some_is _ v e) (omega arith)
built_in_width line Size (a ∷ b ∷ vs) v e = cc
built_in_width line Cat [] v e = cc
built_in_width line Cat (a ∷ []) v e = cc
built_in_width line Cat (a ∷ b ∷ []) v e =
    subst (λ (z : TypedValue). width z.tree ≤ 1 + (1 + width a.tree + (1 + width b.tree + 0))) (some_is _ v e) (omega arith)
built_in_width line Cat (a ∷ b ∷ c ∷ vs) v e = cc
built_in_width line Sum [] v e = cc
built_in_width line Sum (a ∷ []) v e = subst (λ (z : TypedValue). width z.tree ≤ 1 + (1 + width a.tree + 0)) (some_is _ v e) (omega arith)
built_in_width line Sum (a ∷ b ∷ vs) v e = cc
built_in_width line BitExtract [] v e = cc
built_in_width line BitExtract (a ∷ []) v e = subst (λ (z : TypedValue). width z.tree ≤ 1 + (1 + width a.tree + 0)) (some_is _ v e) (omega arith)
built_in_width line BitExtract (a ∷ b ∷ vs) v e = cc
built_in_width line Lookup [] v e = cc
built_in_width line Lookup (a ∷ []) v e = cc
built_in_width line Lookup (a ∷ i ∷ []) v e =
    subst (λ (z : TypedValue). width z.tree ≤ 1 + (1 + width a.tree + (1 + width i.tree + 0))) (some_is _ v e) (omega arith)
built_in_width line Lookup (a ∷ i ∷ c ∷ vs) v e = cc

pub called_width : (line : ℕ) (k : Callee) (vs : List TypedValue) (c : TypedCall) → called line k vs ≡ Some c → width c.tree ≤ 1 + all_widths vs
called_width line (built_in b) vs c e =
    let m = mapped gives_value (built_in_value line b vs) c e in
    subst (λ (z : TypedCall). width z.tree ≤ 1 + all_widths vs) m.is (built_in_width line b vs m.part m.there)
called_width line (defined k f) vs c e = go (nat_eq (length f.parameters) (length vs)) e
  where
    made : TypedCall
    made = record { tree = call_node line k (typed_trees_of (map tree_of_value vs)); gives = shape_returned f.returned }

    fine : 1 + widths (typed_trees_of (map tree_of_value vs)) ≤ 1 + all_widths vs
    fine = let n = same_widths vs in omega (arith, n)

    go : (b : Bool) → cond b (Some made) None ≡ Some c → width c.tree ≤ 1 + all_widths vs
    go false g = cc
    go true g = subst (λ (z : TypedCall). width z.tree ≤ 1 + all_widths vs) (some_is made c g) fine

operation_width : (line : ℕ) (op : BinaryOperator) (a b : TypedValue) (c : Option Connective) → width (operation_node line op a b c)
    ≡ 3 + width a.tree + width b.tree
operation_width line op a b None = refl
operation_width line op a b (Some c) = refl

-- one register less than twice its nodes
abbrev pub Narrow : ℕ → TypedValue → Type 0
Narrow n v = width v.tree + 1 ≤ n + n

mutual
  pub value_width : (d : Declared) (s : Scope) (e : Tree) (v : TypedValue) → value d s e ≡ Some v → Narrow (nodes e) v
  value_width d s (number p w) v h = subst (Narrow 1) (some_is _ v h) (omega arith)
  value_width d s (truth p w) v h = subst (Narrow 1) (some_is _ v h) (omega arith)
  value_width d s (variable p x) v h = let m = mapped variable_value (variable_named s x) v h in subst (Narrow 1) m.is (omega arith)
  value_width d s (call p x es) v h =
      let t = then_there value_given (of_both (called p.line) (callee d x) (values d s es)) v h in
      let m = both_there (called p.line) (callee d x) (values d s es) t.part t.there in
      let g = mapped (with_shape t.part.tree) t.part.gives v t.is in
      let one = called_width p.line m.left m.right t.part m.is in
      let all = values_width d s es m.right m.right_there in
      let fine : width t.part.tree + 1 ≤ 1 + nodes_all es + (1 + nodes_all es) = omega (arith, one, all) in
      subst (λ (z : TypedValue). width z.tree + 1 ≤ 1 + nodes_all es + (1 + nodes_all es)) g.is fine
  value_width d s (index p a i) v h =
      let m = both_there (element_value p.line) (value d s a) (value d s i) v h in
      let one = value_width d s a m.left m.left_there in
      let two = value_width d s i m.right m.right_there in
      let fine : 1 + width m.left.tree + width m.right.tree + 1 ≤ 1 + (nodes a + nodes i) + (1 + (nodes a + nodes i)) = omega (arith, one, two) in
      subst (Narrow (1 + (nodes a + nodes i))) (some_is _ v m.is) fine
  value_width d s (parentheses p e) v h = let one = value_width d s e v h in omega (arith, one)
  value_width d s (negation p e) v h =
      let m = mapped negated (value d s e) v h in
      let one = value_width d s e m.part m.there in
      let fine : 1 + width m.part.tree + 1 ≤ 1 + nodes e + (1 + nodes e) = omega (arith, one) in
      subst (Narrow (1 + nodes e)) m.is fine
  value_width d s (cast p t e) v h =
      let m = mapped (cast_value t) (value d s e) v h in
      let one = value_width d s e m.part m.there in
      let fine : 1 + width m.part.tree + 1 ≤ 1 + nodes e + (1 + nodes e) = omega (arith, one) in
      subst (Narrow (1 + nodes e)) m.is fine
  value_width d s (binary p op a c) v h =
      let m = both_there (operation p.line op) (value d s a) (value d s c) v h in
      let o = mapped (operation_made p.line op m.left m.right) (operator_on op m.left.shape.element m.right.shape.element) v m.is in
      let x = may_cut_short op (operands_of m.left.shape.array m.right.shape.array) in
      let one = value_width d s a m.left m.left_there in
      let two = value_width d s c m.right m.right_there in
      let wide = operation_width p.line o.part m.left m.right x in
      let fine : width (operation_node p.line o.part m.left m.right x) + 1 ≤ 1 + (nodes a + nodes c) + (1 + (nodes a + nodes c))
      = omega (arith, wide, one, two) in
      subst (Narrow (1 + (nodes a + nodes c))) o.is fine
  value_width d s (declassify p e) v h =
      let m = mapped declassified_value (value d s e) v h in
      let one = value_width d s e m.part m.there in
      let fine : 1 + width m.part.tree + 1 ≤ 1 + nodes e + (1 + nodes e) = omega (arith, one) in
      subst (Narrow (1 + nodes e)) m.is fine
  value_width d s (argument p x) v h = cc
  value_width d s (publish p x e) v h = cc

  pub values_width : (d : Declared) (s : Scope) (es : Trees) (vs : List TypedValue) → values d s es ≡ Some vs → all_widths vs ≤ nodes_all es + nodes_all es
  values_width d s Tree'.none vs h = subst (λ z. all_widths z ≤ 0) (some_is [] vs h) (omega arith)
  values_width d s (Tree'.also e es) vs h =
      let m = both_there and_more (value d s e) (values d s es) vs h in
      let one = value_width d s e m.left m.left_there in
      let all = values_width d s es m.right m.right_there in
      let fine : 1 + width m.left.tree + all_widths m.right ≤ nodes e + nodes_all es + (nodes e + nodes_all es) = omega (arith, one, all) in
      subst (λ z. all_widths z ≤ nodes e + nodes_all es + (nodes e + nodes_all es)) (some_is _ vs m.is) fine
