-- What is called is there, and each of its domain variables is bound.
use Rattle.std.proofs.Common.{◌≡◌, ℕ, zero, suc, ◌<◌, List, [], ◌∷◌, ◌++◌, length, ◌⊎◌, inl, inr, refl, sym, ◌∙◌, subst, Option, Some, None, arith}
use Rattle.std.proofs.Common.{length-append}
use Rattle.std.specs.Prelude.{All}
use Rattle.std.specs.List.{slice_get}
use Rattle.program_trees.specs.declared.kinds.Slot.{Slot}
use Rattle.program_trees.specs.TypedTree.{TypedTree, TypedTrees, word_node, truth_node, zero_node, slot_node, call_node, size_node, cat_node, sum_node, bits_node}
use Rattle.program_trees.specs.TypedTree.{lookup_node, element_node, not_node, cast_node, binary_node, cut_node, declassify_node}
use Rattle.program_trees.specs.TypedTree as Tree'
use Rattle.program_trees.specs.TypedStatements.{TypedStatementTree, TypedStatementTrees, empty_statement, block_statement, if_statement, loop_statement, do_statement}
use Rattle.program_trees.specs.TypedStatements.{break_statement, continue_statement, return_statement, assert_statement, store_statement, default_statement}
use Rattle.program_trees.specs.TypedStatements.{fill_statement, input_statement, element_statement, publish_statement, evaluate_statement}
use Rattle.program_trees.specs.TypedStatements as Statements'
use Rattle.program_trees.specs.TypedPrograms.{TypedFunctionTree, TypedProgramTree}
use Rattle.program_trees.specs.Lists.{Among}
use Rattle.program_trees.proofs.Lists.{among_parts}
use Rattle.reached_instances.specs.declared.instance.BoundDomain.{BoundDomain}
use Rattle.reached_instances.specs.Domains.{bound_to, bound_below, Setting, domains}
use Rattle.reached_instances.specs.Instances.{Instance}
use Rattle.reached_instances.specs.Calls.{called, calls, calls_of_all, optional_calls, typed_statement_calls, typed_statements_calls, function_calls}
use Rattle.reached_instances.specs.Reached.{IsReached, begins, follows, IsBound}

length-bound_below : (n : ℕ) (ss : List Slot) (ds : List BoundDomain) → length (bound_below n ss ds) ≡ n
length-bound_below zero ss ds = refl
length-bound_below (suc n) ss ds =
    let more = length-bound_below n ss ds in
    length-append (bound_below n ss ds) (bound_to n ss ds ∷ []) ∙ (omega arith)

-- each of these is bound
abbrev pub AreBoundIn : List TypedFunctionTree → List Instance → Type 0
AreBoundIn fs is = (i : Instance) → Among i is → IsBound (record { functions = fs }) i

none_bound : (fs : List TypedFunctionTree) → AreBoundIn fs []
none_bound fs i m = absurd m

both_bound : (fs : List TypedFunctionTree) (is js : List Instance) → AreBoundIn fs is → AreBoundIn fs js → AreBoundIn fs (is ++ js)
both_bound fs is js a b i m = go (among_parts i is js m)
  where
    go : Among i is ⊎ Among i js → IsBound (record { functions = fs }) i
    go (inl n) = a i n
    go (inr n) = b i n

called_bound : (fs : List TypedFunctionTree) (k : ℕ) (ds : List BoundDomain) → AreBoundIn fs (called k (slice_get fs k) ds)
called_bound fs k ds = go (slice_get fs k) refl
  where
    go : (o : Option TypedFunctionTree) → slice_get fs k ≡ o → AreBoundIn fs (called k o ds)
    go None e i m = absurd m
    go (Some f) e i (inl s) =
        subst (IsBound (record { functions = fs })) (sym s)
        (record { called = f; there = e; bound = length-bound_below f.variables f.slots ds })
    go (Some f) e i (inr m) = absurd m

mutual
  calls_bound : (w : Setting) (e : TypedTree) → AreBoundIn w.functions (calls w e)
  calls_bound w (word_node n) = none_bound w.functions
  calls_bound w (truth_node b) = none_bound w.functions
  calls_bound w zero_node = none_bound w.functions
  calls_bound w (slot_node k) = none_bound w.functions
  calls_bound w (call_node line k es) =
      both_bound w.functions (calls_of_all w es) (called k (slice_get w.functions k) (domains w es)) (all_calls_bound w es)
      (called_bound w.functions k (domains w es))
  calls_bound w (size_node e) = calls_bound w e
  calls_bound w (cat_node line a b) = both_bound w.functions (calls w a) (calls w b) (calls_bound w a) (calls_bound w b)
  calls_bound w (sum_node e) = calls_bound w e
  calls_bound w (bits_node line e) = calls_bound w e
  calls_bound w (lookup_node line a i) = both_bound w.functions (calls w a) (calls w i) (calls_bound w a) (calls_bound w i)
  calls_bound w (element_node line a i) = both_bound w.functions (calls w a) (calls w i) (calls_bound w a) (calls_bound w i)
  calls_bound w (not_node e) = calls_bound w e
  calls_bound w (cast_node c e) = calls_bound w e
  calls_bound w (binary_node line op ds a b) = both_bound w.functions (calls w a) (calls w b) (calls_bound w a) (calls_bound w b)
  calls_bound w (cut_node c a b) = both_bound w.functions (calls w a) (calls w b) (calls_bound w a) (calls_bound w b)
  calls_bound w (declassify_node e) = calls_bound w e

  all_calls_bound : (w : Setting) (es : TypedTrees) → AreBoundIn w.functions (calls_of_all w es)
  all_calls_bound w Tree'.none = none_bound w.functions
  all_calls_bound w (Tree'.also e es) = both_bound w.functions (calls w e) (calls_of_all w es) (calls_bound w e) (all_calls_bound w es)

optional_bound : (w : Setting) (e : Option TypedTree) → AreBoundIn w.functions (optional_calls w e)
optional_bound w None = none_bound w.functions
optional_bound w (Some e) = calls_bound w e

three_bound : (fs : List TypedFunctionTree) (is js ks : List Instance) → AreBoundIn fs is → AreBoundIn fs js → AreBoundIn fs ks
    → AreBoundIn fs (is ++ (js ++ ks))
three_bound fs is js ks a b c = both_bound fs is (js ++ ks) a (both_bound fs js ks b c)

mutual
  statement_bound : (w : Setting) (c : TypedStatementTree) → AreBoundIn w.functions (typed_statement_calls w c)
  statement_bound w empty_statement = none_bound w.functions
  statement_bound w (block_statement cs) = statements_bound w cs
  statement_bound w (if_statement e a b) =
      three_bound w.functions (calls w e) (typed_statement_calls w a) (typed_statement_calls w b) (calls_bound w e) (statement_bound w a) (statement_bound w b)
  statement_bound w (loop_statement e step body) =
      three_bound w.functions (typed_statement_calls w body) (typed_statement_calls w step) (calls w e) (statement_bound w body) (statement_bound w step)
      (calls_bound w e)
  statement_bound w (do_statement body e) = both_bound w.functions (typed_statement_calls w body) (calls w e) (statement_bound w body) (calls_bound w e)
  statement_bound w break_statement = none_bound w.functions
  statement_bound w continue_statement = none_bound w.functions
  statement_bound w (return_statement e) = optional_bound w e
  statement_bound w (assert_statement line e) = calls_bound w e
  statement_bound w (store_statement k e) = calls_bound w e
  statement_bound w (default_statement k) = none_bound w.functions
  statement_bound w (fill_statement line k n e) = both_bound w.functions (calls w n) (calls w e) (calls_bound w n) (calls_bound w e)
  statement_bound w (input_statement line k x) = none_bound w.functions
  statement_bound w (element_statement line k i e) = both_bound w.functions (calls w i) (calls w e) (calls_bound w i) (calls_bound w e)
  statement_bound w (publish_statement x e) = calls_bound w e
  statement_bound w (evaluate_statement e) = calls_bound w e

  statements_bound : (w : Setting) (cs : TypedStatementTrees) → AreBoundIn w.functions (typed_statements_calls w cs)
  statements_bound w Statements'.none = none_bound w.functions
  statements_bound w (Statements'.also c cs) =
      both_bound w.functions (typed_statement_calls w c) (typed_statements_calls w cs) (statement_bound w c) (statements_bound w cs)

function_bound : (fs : List TypedFunctionTree) (b : List BoundDomain) (o : Option TypedFunctionTree) → AreBoundIn fs (function_calls fs b o)
function_bound fs b None = none_bound fs
function_bound fs b (Some f) = statements_bound (record { functions = fs; slots = f.slots; binding = b }) f.body

pub reached_bound : (p : TypedProgramTree) (i : Instance) → IsReached p i → IsBound p i
reached_bound p i (begins j m) = called_bound p.functions 0 [] j m
reached_bound p i (follows j k r m) = function_bound p.functions j.binding (slice_get p.functions j.function) k m

pub all_bound : (p : TypedProgramTree) (is : List Instance) → ((i : Instance) → Among i is → IsBound p i) → All (IsBound p) is
all_bound p [] each k d l = absurd (omega arith)
all_bound p (i ∷ is) each zero d l = each i (inl refl)
all_bound p (i ∷ is) each (suc k) d l = let less : k < length is = omega arith in all_bound p is (λ j m. each j (inr m)) k d less
