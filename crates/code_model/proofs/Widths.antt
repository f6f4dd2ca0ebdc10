-- A measure of expressions and statements that their nodes bound, and that bounds the rows of their code: with the rows of one statement added to
-- those of another, where the code has the most of them.
use Rattle.std.proofs.Common.{◌≡◌, ℕ, zero, suc, ◌+◌, ◌-◌, ◌*◌, ◌<◌, ◌≤◌, List, [], ◌∷◌, ◌++◌, length, Some, None, Bool, true, false, refl, sym, ap, ◌∙◌, arith}
use Rattle.std.specs.Prelude.{max, nat_le}
use Rattle.std.proofs.lemmas.Bool.{leb-true, leb-false}
use Rattle.std.proofs.Math.Nat.{max-eq_left, max-eq_right, le-max_left, le-max_right, zero-max}
use Rattle.program_trees.specs.TypedTree.{TypedTree, TypedTrees, word_node, truth_node, zero_node, slot_node, call_node, size_node, cat_node, sum_node, bits_node, lookup_node, element_node}
use Rattle.program_trees.specs.TypedTree.{not_node, cast_node, binary_node, cut_node, declassify_node, typed_trees_of}
use Rattle.program_trees.specs.TypedTree as Tree'
use Rattle.program_trees.specs.TypedStatements.{TypedStatementTree, TypedStatementTrees, empty_statement, block_statement, if_statement, loop_statement, do_statement}
use Rattle.program_trees.specs.TypedStatements.{break_statement, continue_statement, return_statement, assert_statement, store_statement, default_statement}
use Rattle.program_trees.specs.TypedStatements.{fill_statement, input_statement, element_statement, publish_statement, evaluate_statement}
use Rattle.program_trees.specs.TypedStatements as Statements'
use Rattle.code_model.specs.Kinds.{depth, depths, rows_kinds}
use Rattle.code_model.specs.Statements.{statement_depth, statements_depth}

abbrev mutual
  pub width : TypedTree → ℕ
  width (word_node n) = 1
  width (truth_node b) = 1
  width zero_node = 1
  width (slot_node k) = 1
  width (call_node line k es) = 1 + widths es
  width (size_node e) = 1 + width e
  width (cat_node line a b) = 3 + width a + width b
  width (sum_node e) = 1 + width e
  width (bits_node line e) = 1 + width e
  width (lookup_node line a i) = 3 + width a + width i
  width (element_node line a i) = 1 + width a + width i
  width (not_node e) = 1 + width e
  width (cast_node c e) = 1 + width e
  width (binary_node line op ds a b) = 3 + width a + width b
  width (cut_node c a b) = 3 + width a + width b
  width (declassify_node e) = 1 + width e

  pub widths : TypedTrees → ℕ
  widths Tree'.none = 0
  widths (Tree'.also e es) = 1 + width e + widths es

abbrev mutual
  pub statement_width : TypedStatementTree → ℕ
  statement_width empty_statement = 0
  statement_width (block_statement cs) = statements_width cs
  statement_width (if_statement e a b) = width e + statement_width a + statement_width b
  statement_width (loop_statement e step body) = statement_width body + statement_width step + width e
  statement_width (do_statement body e) = statement_width body + width e
  statement_width break_statement = 0
  statement_width continue_statement = 0
  statement_width (return_statement None) = 0
  statement_width (return_statement (Some e)) = 1 + width e
  statement_width (assert_statement line e) = width e
  statement_width (store_statement k e) = 1 + width e
  statement_width (default_statement k) = 1
  statement_width (fill_statement line k n e) = 1 + width n + width e
  statement_width (input_statement line k text) = 1
  statement_width (element_statement line k i e) = 1 + width i + width e
  statement_width (publish_statement text e) = width e
  statement_width (evaluate_statement e) = width e

  pub statements_width : TypedStatementTrees → ℕ
  statements_width Statements'.none = 0
  statements_width (Statements'.also c cs) = statement_width c + statements_width cs

-- ---- THE GREATER OF TWO

pub max-least : (a b n : ℕ) → a ≤ n → b ≤ n → max a b ≤ n
max-least a b n h k = go (nat_le a b) refl
  where
    go : (c : Bool) → nat_le a b ≡ c → max a b ≤ n
    go true e = let same = max-eq_right (leb-true a b e) in omega (arith, same, k)
    go false e =
        let over = leb-false a b e in
        let same = max-eq_left (let l : b ≤ a = omega (arith, over) in l) in
        omega (arith, same, h)

-- an argument more
max-more : (a b c : ℕ) → max a (1 + max b c) ≡ max (max a (1 + b)) (1 + c)
max-more a b c =
    let whole = max (max a (1 + b)) (1 + c) in
    let l1 = le-max_left (max a (1 + b)) (1 + c) in
    let l2 = le-max_left a (1 + b) in
    let l3 = le-max_right a (1 + b) in
    let l4 = le-max_right (max a (1 + b)) (1 + c) in
    let r1 = le-max_left a (1 + max b c) in
    let r2 = le-max_right a (1 + max b c) in
    let r3 = le-max_left b c in
    let r4 = le-max_right b c in
    let both = max-least b c (whole - 1) (omega (arith, l1, l3)) (omega (arith, l4)) in
    let up = max-least a (1 + max b c) whole (omega (arith, l1, l2)) (omega (arith, both, l4)) in
    let left = max-least a (1 + b) (max a (1 + max b c)) r1 (omega (arith, r2, r3)) in
    let down = max-least (max a (1 + b)) (1 + c) (max a (1 + max b c)) left (omega (arith, r2, r4)) in
    omega (arith, up, down)

-- ---- DEPTHS

pub depth_some : (e : TypedTree) → 0 < depth e
depth_some (word_node n) = omega arith
depth_some (truth_node b) = omega arith
depth_some zero_node = omega arith
depth_some (slot_node k) = omega arith
depth_some (call_node line k es) = let l = le-max_right (depths es) 1 in omega (arith, l)
depth_some (size_node e) = depth_some e
depth_some (cat_node line a b) = let l = le-max_right (depth a) (1 + depth b) in omega (arith, l)
depth_some (sum_node e) = depth_some e
depth_some (bits_node line e) = depth_some e
depth_some (lookup_node line a i) = let l = le-max_right (depth a) (1 + depth i) in omega (arith, l)
depth_some (element_node line a i) = let l = le-max_right (depth a) (1 + depth i) in omega (arith, l)
depth_some (not_node e) = depth_some e
depth_some (cast_node c e) = depth_some e
depth_some (binary_node line op ds a b) = let l = le-max_right (depth a) (1 + depth b) in omega (arith, l)
depth_some (cut_node c a b) = let l = le-max_right (depth a) (1 + depth b) in omega (arith, l)
depth_some (declassify_node e) = depth_some e

pub depths_more : (ts : List TypedTree) (t : TypedTree) → depths (typed_trees_of (ts ++ t ∷ []))
    ≡ max (depths (typed_trees_of ts)) (length ts + depth t)
depths_more [] t =
    let some = depth_some t in
    let one : max (depth t) 1 ≡ depth t = max-eq_left (let l : 1 ≤ depth t = omega (arith, some) in l) in
    let nothing : 0 + depth t ≡ depth t = omega arith in
    one ∙ sym (zero-max (0 + depth t) ∙ nothing)
depths_more (e ∷ ts) t =
    let count : 1 + (length ts + depth t) ≡ length (e ∷ ts) + depth t = omega arith in
    ap (λ n. max (depth e) (1 + n)) (depths_more ts t) ∙ max-more (depth e) (depths (typed_trees_of ts)) (length ts + depth t)
    ∙ ap (max (max (depth e) (1 + depths (typed_trees_of ts)))) count

pub width_some : (e : TypedTree) → 0 < width e
width_some (word_node n) = omega arith
width_some (truth_node b) = omega arith
width_some zero_node = omega arith
width_some (slot_node k) = omega arith
width_some (call_node line k es) = omega arith
width_some (size_node e) = omega arith
width_some (cat_node line a b) = omega arith
width_some (sum_node e) = omega arith
width_some (bits_node line e) = omega arith
width_some (lookup_node line a i) = omega arith
width_some (element_node line a i) = omega arith
width_some (not_node e) = omega arith
width_some (cast_node c e) = omega arith
width_some (binary_node line op ds a b) = omega arith
width_some (cut_node c a b) = omega arith
width_some (declassify_node e) = omega arith

-- twice the greater of two
twice-least : (a b n : ℕ) → a + a ≤ n → b + b ≤ n → max a b + max a b ≤ n
twice-least a b n h k = go (nat_le a b) refl
  where
    go : (c : Bool) → nat_le a b ≡ c → max a b + max a b ≤ n
    go true e = let same = max-eq_right (leb-true a b e) in omega (arith, same, k)
    go false e =
        let over = leb-false a b e in
        let same = max-eq_left (let l : b ≤ a = omega (arith, over) in l) in
        omega (arith, same, h)

-- the row of one more operand
twice-behind : (a b m n w : ℕ) → 0 < m → a + a ≤ m + 1 → b + b ≤ n + 1 → m + n + 1 ≤ w → max a (1 + b) + max a (1 + b) ≤ w + 1
twice-behind a b m n w s h k l = twice-least a (1 + b) (w + 1) (omega (arith, h, l)) (omega (arith, s, k, l))

pair_deep : (a b : TypedTree) (w : ℕ) → width a + width b + 1 ≤ w → depth a + depth a ≤ width a + 1 → depth b + depth b ≤ width b + 1
    → max (depth a) (1 + depth b) + max (depth a) (1 + depth b) ≤ w + 1
pair_deep a b w h l m = twice-behind (depth a) (depth b) (width a) (width b) w (width_some a) l m h

-- rows of two registers would be as many registers as the measure says, but for one
mutual
  pub expression_deep : (e : TypedTree) → depth e + depth e ≤ width e + 1
  expression_deep (word_node n) = omega arith
  expression_deep (truth_node b) = omega arith
  expression_deep zero_node = omega arith
  expression_deep (slot_node k) = omega arith
  expression_deep (call_node line k es) =
      let l = arguments_deep es in
      twice-least (depths es) 1 (1 + widths es + 1) (omega (arith, l)) (omega arith)
  expression_deep (size_node e) = let l = expression_deep e in omega (arith, l)
  expression_deep (cat_node line a b) = pair_deep a b (3 + width a + width b) (omega arith) (expression_deep a) (expression_deep b)
  expression_deep (sum_node e) = let l = expression_deep e in omega (arith, l)
  expression_deep (bits_node line e) = let l = expression_deep e in omega (arith, l)
  expression_deep (lookup_node line a i) = pair_deep a i (3 + width a + width i) (omega arith) (expression_deep a) (expression_deep i)
  expression_deep (element_node line a i) = pair_deep a i (1 + width a + width i) (omega arith) (expression_deep a) (expression_deep i)
  expression_deep (not_node e) = let l = expression_deep e in omega (arith, l)
  expression_deep (cast_node c e) = let l = expression_deep e in omega (arith, l)
  expression_deep (binary_node line op ds a b) = pair_deep a b (3 + width a + width b) (omega arith) (expression_deep a) (expression_deep b)
  expression_deep (cut_node c a b) = pair_deep a b (3 + width a + width b) (omega arith) (expression_deep a) (expression_deep b)
  expression_deep (declassify_node e) = let l = expression_deep e in omega (arith, l)

  pub arguments_deep : (es : TypedTrees) → depths es + depths es ≤ widths es
  arguments_deep Tree'.none = omega arith
  arguments_deep (Tree'.also e es) =
      let s = width_some e in
      let l = expression_deep e in
      let m = arguments_deep es in
      twice-least (depth e) (1 + depths es) (1 + width e + widths es) (omega (arith, l)) (omega (arith, s, m))

-- of statements that are added to one another
twice-added : (a b m n : ℕ) → a + a ≤ m + 1 → b + b ≤ n + 1 → max a b + max a b ≤ m + n + 1
twice-added a b m n h k = twice-least a b (m + n + 1) (omega (arith, h)) (omega (arith, k))

mutual
  pub statement_deep : (c : TypedStatementTree) → statement_depth c + statement_depth c ≤ statement_width c + 1
  statement_deep empty_statement = omega arith
  statement_deep (block_statement cs) = statements_deep cs
  statement_deep (if_statement e a b) =
      let l = expression_deep e in
      let m = twice-added (statement_depth a) (statement_depth b) (statement_width a) (statement_width b) (statement_deep a) (statement_deep b) in
      twice-least (depth e) (max (statement_depth a) (statement_depth b)) (width e + statement_width a + statement_width b + 1) (omega (arith, l))
      (omega (arith, m))
  statement_deep (loop_statement e step body) =
      let l = expression_deep e in
      let m = twice-added (statement_depth step) (statement_depth body) (statement_width step) (statement_width body) (statement_deep step)
      (statement_deep body) in
      twice-least (depth e) (max (statement_depth step) (statement_depth body)) (statement_width body + statement_width step + width e + 1)
      (omega (arith, l)) (omega (arith, m))
  statement_deep (do_statement body e) =
      let l = expression_deep e in
      let m = statement_deep body in
      twice-least (depth e) (statement_depth body) (statement_width body + width e + 1) (omega (arith, l)) (omega (arith, m))
  statement_deep break_statement = omega arith
  statement_deep continue_statement = omega arith
  statement_deep (return_statement None) = omega arith
  statement_deep (return_statement (Some e)) = let l = expression_deep e in omega (arith, l)
  statement_deep (assert_statement line e) = expression_deep e
  statement_deep (store_statement k e) = let l = expression_deep e in omega (arith, l)
  statement_deep (default_statement k) = omega arith
  statement_deep (fill_statement line k n e) = pair_deep n e (1 + width n + width e) (omega arith) (expression_deep n) (expression_deep e)
  statement_deep (input_statement line k text) = omega arith
  statement_deep (element_statement line k i e) = pair_deep i e (1 + width i + width e) (omega arith) (expression_deep i) (expression_deep e)
  statement_deep (publish_statement text e) = expression_deep e
  statement_deep (evaluate_statement e) = expression_deep e

  pub statements_deep : (cs : TypedStatementTrees) → statements_depth cs + statements_depth cs ≤ statements_width cs + 1
  statements_deep Statements'.none = omega arith
  statements_deep (Statements'.also c cs) =
      twice-added (statement_depth c) (statements_depth cs) (statement_width c) (statements_width cs) (statement_deep c) (statements_deep cs)

-- ---- REGISTERS

pub rows_length : (n : ℕ) → length (rows_kinds n) ≡ 12 * n
rows_length zero = refl
rows_length (suc n) = let more = rows_length n in omega (arith, more)
