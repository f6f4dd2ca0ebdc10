-- A function's registers hang on its largest statement.
use Rattle.std.proofs.Common.{◌≡◌, ℕ, zero, suc, ◌+◌, ◌<◌, ◌≤◌, List, [], ◌∷◌, length, map, Option, Some, None, refl, sym, ap, ◌∙◌, subst, arith}
use Rattle.std.specs.Prelude.{slice_get, max}
use Rattle.std.proofs.Math.Nat.{le-max_left, le-max_right}
use Rattle.std.proofs.lemmas.Option.{none-some, same_Some}
use Rattle.program_trees.specs.TypedTree.{TypedTree, TypedTrees, word_node, truth_node, zero_node, slot_node, call_node, size_node, cat_node, sum_node, bits_node}
use Rattle.program_trees.specs.TypedTree.{lookup_node, element_node, not_node, cast_node, binary_node, cut_node, declassify_node}
use Rattle.program_trees.specs.TypedTree as Tree'
use Rattle.program_trees.specs.TypedStatements.{TypedStatementTree, TypedStatementTrees, empty_statement, block_statement, if_statement, loop_statement, do_statement}
use Rattle.program_trees.specs.TypedStatements.{break_statement, continue_statement, return_statement, assert_statement, store_statement, default_statement}
use Rattle.program_trees.specs.TypedStatements.{fill_statement, input_statement, element_statement, publish_statement, evaluate_statement}
use Rattle.program_trees.specs.TypedStatements as Statements'
use Rattle.program_trees.specs.TypedPrograms.{TypedFunctionTree, TypedProgramTree}
use Rattle.reached_instances.specs.Instances.{Instance}
use Rattle.bytecode.specs.Raw.{RawFunction}
use Rattle.code_model.specs.Kinds.{depth, depths}
use Rattle.code_model.specs.Statements.{statement_depth, statements_depth}
use Rattle.code_model.specs.Programs.{numbers_in, code_of_found, instance_code, code_of}
use Rattle.code_model.proofs.Widths.{max-least}
use Rattle.lowered_code.specs.Instructions.{raw_function, names_of}
use Rattle.lowered_code.proofs.RegistersOfPrograms.{own_registers}
use Rattle.written_code.specs.Narrow.{nodes, nodes_of_all, most_nodes, most_nodes_of_all, narrow, HasNarrowFunctions}

-- ---- DEPTHS

max-grows : (a b m n : ℕ) → a ≤ m → b ≤ n → max a b ≤ max m n
max-grows a b m n h k =
    let l = le-max_left m n in
    let r = le-max_right m n in
    max-least a b (max m n) (omega (arith, h, l)) (omega (arith, k, r))

some_node : (e : TypedTree) → 0 < nodes e
some_node (word_node n) = omega arith
some_node (truth_node b) = omega arith
some_node zero_node = omega arith
some_node (slot_node k) = omega arith
some_node (call_node line k es) = omega arith
some_node (size_node e) = omega arith
some_node (cat_node line a b) = omega arith
some_node (sum_node e) = omega arith
some_node (bits_node line e) = omega arith
some_node (lookup_node line a i) = omega arith
some_node (element_node line a i) = omega arith
some_node (not_node e) = omega arith
some_node (cast_node c e) = omega arith
some_node (binary_node line op ds a b) = omega arith
some_node (cut_node c a b) = omega arith
some_node (declassify_node e) = omega arith

-- two expressions, of which the second one begins a row later
pair_deep : (a b : TypedTree) → depth a ≤ nodes a → depth b ≤ nodes b → max (depth a) (1 + depth b) ≤ 1 + nodes a + nodes b
pair_deep a b h k = max-least (depth a) (1 + depth b) (1 + nodes a + nodes b) (omega (arith, h)) (omega (arith, k))

mutual
  expression_deep : (e : TypedTree) → depth e ≤ nodes e
  expression_deep (word_node n) = omega arith
  expression_deep (truth_node b) = omega arith
  expression_deep zero_node = omega arith
  expression_deep (slot_node k) = omega arith
  expression_deep (call_node line k es) =
      let l = arguments_deep es in
      max-least (depths es) 1 (1 + nodes_of_all es) (omega (arith, l)) (omega arith)
  expression_deep (size_node e) = let l = expression_deep e in omega (arith, l)
  expression_deep (cat_node line a b) = pair_deep a b (expression_deep a) (expression_deep b)
  expression_deep (sum_node e) = let l = expression_deep e in omega (arith, l)
  expression_deep (bits_node line e) = let l = expression_deep e in omega (arith, l)
  expression_deep (lookup_node line a i) = pair_deep a i (expression_deep a) (expression_deep i)
  expression_deep (element_node line a i) = pair_deep a i (expression_deep a) (expression_deep i)
  expression_deep (not_node e) = let l = expression_deep e in omega (arith, l)
  expression_deep (cast_node c e) = let l = expression_deep e in omega (arith, l)
  expression_deep (binary_node line op ds a b) = pair_deep a b (expression_deep a) (expression_deep b)
  expression_deep (cut_node c a b) = pair_deep a b (expression_deep a) (expression_deep b)
  expression_deep (declassify_node e) = let l = expression_deep e in omega (arith, l)

  arguments_deep : (es : TypedTrees) → depths es ≤ nodes_of_all es
  arguments_deep Tree'.none = omega arith
  arguments_deep (Tree'.also e es) =
      let l = expression_deep e in
      let some = some_node e in
      let m = arguments_deep es in
      max-least (depth e) (1 + depths es) (nodes e + nodes_of_all es) (omega (arith, l)) (omega (arith, m, some))

mutual
  statement_deep : (c : TypedStatementTree) → statement_depth c ≤ most_nodes c
  statement_deep empty_statement = omega arith
  statement_deep (block_statement cs) = statements_deep cs
  statement_deep (if_statement e a b) =
      max-grows (depth e) (max (statement_depth a) (statement_depth b)) (nodes e) (max (most_nodes a) (most_nodes b)) (expression_deep e)
      (max-grows (statement_depth a) (statement_depth b) (most_nodes a) (most_nodes b) (statement_deep a) (statement_deep b))
  statement_deep (loop_statement e step body) =
      max-grows (depth e) (max (statement_depth step) (statement_depth body)) (nodes e) (max (most_nodes step) (most_nodes body)) (expression_deep e)
      (max-grows (statement_depth step) (statement_depth body) (most_nodes step) (most_nodes body) (statement_deep step) (statement_deep body))
  statement_deep (do_statement body e) =
      max-grows (depth e) (statement_depth body) (nodes e) (most_nodes body) (expression_deep e) (statement_deep body)
  statement_deep break_statement = omega arith
  statement_deep continue_statement = omega arith
  statement_deep (return_statement None) = omega arith
  statement_deep (return_statement (Some e)) = expression_deep e
  statement_deep (assert_statement line e) = expression_deep e
  statement_deep (store_statement k e) = let l = expression_deep e in omega (arith, l)
  statement_deep (default_statement k) = omega arith
  statement_deep (fill_statement line k n e) = pair_deep n e (expression_deep n) (expression_deep e)
  statement_deep (input_statement line k text) = omega arith
  statement_deep (element_statement line k i e) = pair_deep i e (expression_deep i) (expression_deep e)
  statement_deep (publish_statement text e) = expression_deep e
  statement_deep (evaluate_statement e) = expression_deep e

  statements_deep : (cs : TypedStatementTrees) → statements_depth cs ≤ most_nodes_of_all cs
  statements_deep Statements'.none = omega arith
  statements_deep (Statements'.also c cs) =
      max-grows (statement_depth c) (statements_depth cs) (most_nodes c) (most_nodes_of_all cs) (statement_deep c) (statements_deep cs)

-- ---- FUNCTIONS

module _ (p : TypedProgramTree) (is : List Instance) where
  abbrev names : List (List ℕ)
  names = names_of (code_of p is)

  abbrev made : Instance → RawFunction
  made i = raw_function names (instance_code p.functions (numbers_in is) i)

  found_narrow : (i : Instance) (f : TypedFunctionTree) (o : Option TypedFunctionTree) → slice_get p.functions i.function ≡ o → o ≡ Some f
      → length (raw_function names (code_of_found (numbers_in is) p.functions i.binding o)).registers ≤ narrow f
  found_narrow i f None e g = absurd (none-some _ g)
  found_narrow i f (Some h) e g =
      let same : h ≡ f = same_Some h f g in
      let own = own_registers (numbers_in is) p.functions h i.binding in
      let deep = statements_deep h.body in
      let least = le-max_left 1 (most_nodes_of_all h.body) in
      let most = le-max_right 1 (most_nodes_of_all h.body) in
      let fine : length (raw_function names (code_of_found (numbers_in is) p.functions i.binding (Some h))).registers ≤ narrow h
      = omega (arith, own, deep, least, most) in
      subst (λ (z : TypedFunctionTree). length (raw_function names (code_of_found (numbers_in is) p.functions i.binding (Some h))).registers ≤ narrow z) same
      fine

  at_place : (js : List Instance) (g : ℕ) (i : Instance) (h : RawFunction) → slice_get js g ≡ Some i
      → slice_get (map (raw_function names) (map (instance_code p.functions (numbers_in is)) js)) g ≡ Some h → made i ≡ h
  at_place [] g i h e there = absurd (none-some _ e)
  at_place (j ∷ js) zero i h e there = ap made (sym (same_Some j i e)) ∙ same_Some (made j) h there
  at_place (j ∷ js) (suc g) i h e there = at_place js g i h e there

  pub narrow_functions : HasNarrowFunctions p is
  narrow_functions g i f h e there found =
      subst (λ (z : RawFunction). length z.registers ≤ narrow f) (at_place is g i h e found)
      (found_narrow i f (slice_get p.functions i.function) refl there)
