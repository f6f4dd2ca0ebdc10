-- Cited by private functions alone: no contract of another crate rests on it.
-- How expressions and statements are evaluated in parts: first the expressions in them, and then a step on the values of these.
use Rattle.std.specs.Prelude.{◌≡◌, ℕ, ◌+◌, ◌≤◌, Bool, true, false, List, map, None, Some}
use Rattle.program_trees.specs.TypedTree.{TypedTree, word_node, truth_node, zero_node, slot_node, call_node, size_node, cat_node, sum_node, bits_node, lookup_node}
use Rattle.program_trees.specs.TypedTree.{element_node, not_node, cast_node, binary_node, cut_node, declassify_node, typed_tree, typed_trees_of}
use Rattle.program_trees.specs.TypedStatements.{TypedStatementTree, empty_statement, block_statement, if_statement, loop_statement, do_statement, break_statement}
use Rattle.program_trees.specs.TypedStatements.{continue_statement, return_statement, assert_statement, store_statement, default_statement, fill_statement}
use Rattle.program_trees.specs.TypedStatements.{input_statement, element_statement, publish_statement, typed_statement, typed_statements_of}
use Rattle.program_trees.specs.Sound.{IsSoundTree, IsSoundStatementTree}
use Rattle.reached_instances.specs.Domains.{Setting}
use Rattle.language_model.specs.Effects.{World, Stage, Effect, ◌>>=◌, carry, done}
use Rattle.language_model.specs.Values.{Value}
use Rattle.language_model.specs.Operations.{wanted, operation, negated, cast_to, size_told, summed, bits_extracted, lookup, element_of_array}
use Rattle.language_model.specs.Operations.{filled, published, asserted, declassified}
use Rattle.language_model.specs.Evaluation.{Frame, Calls, Flow, goes, returns, StatementContext, slot_is_private, put, value, execute, stored}
use Rattle.clear_eval.specs.declared.parts.Parts.{Parts}
use Rattle.clear_eval.specs.declared.parts.Parts.TheVariants as parts
use Rattle.clear_eval.specs.declared.parts.StatementParts.{StatementParts}
use Rattle.clear_eval.specs.declared.parts.StatementParts.TheVariants as within
use Rattle.clear_eval.specs.inner.Elements.{with_element_in}
use Rattle.clear_eval.specs.inner.Measures.{weight, statement_weight}

-- ---- EXPRESSIONS

-- an expression without others in it
abbrev pub is_leaf : TypedTree → Bool
is_leaf (word_node n) = true
is_leaf (truth_node b) = true
is_leaf zero_node = true
is_leaf (slot_node k) = true
is_leaf e = false

-- the step of an expression with one operand, on its value; no other is asked for one
abbrev pub step_on_one : World → TypedTree → Value → Effect Value
step_on_one w (size_node e) x = size_told x
step_on_one w (sum_node e) x = summed x
step_on_one w (bits_node line e) x = bits_extracted w line x
step_on_one w (not_node e) x = negated x
step_on_one w (cast_node c e) x = cast_to w c x
step_on_one w (declassify_node e) x = declassified w x
step_on_one w e x = done x

-- and of one with two operands
abbrev pub step_on_two : World → TypedTree → (x y : Value) → Effect Value
step_on_two w (lookup_node line a i) x y = lookup w line x y
step_on_two w (element_node line a i) x y = element_of_array line x y
step_on_two w (binary_node line op ds a b) x y = operation w line op ds x y
step_on_two w e x y = done x

pub record HasOne (e x : TypedTree) : Type 0 where
  pub evaluates : (w : World) (calls : Calls) (here : Setting) (fr : Frame) (s : Stage)
      → value w calls here e fr s ≡ carry (value w calls here x fr s) (step_on_one w e)
  pub lighter : weight x + 4 ≤ weight e
  pub sound : (n : ℕ) (ps : List ℕ) → IsSoundTree n ps e → IsSoundTree n ps x

pub record HasTwo (e x y : TypedTree) : Type 0 where
  pub evaluates : (w : World) (calls : Calls) (here : Setting) (fr : Frame) (s : Stage) →
      value w calls here e fr s ≡ carry (value w calls here x fr s) (λ a t. carry (value w calls here y fr t) (step_on_two w e a))
  pub lighter : weight x + weight y + 4 ≤ weight e
  pub sound : (n : ℕ) (ps : List ℕ) → IsSoundTree n ps e → IsSoundTree n ps x × IsSoundTree n ps y

abbrev pub HasParts : TypedTree → Parts → Type 0
HasParts e parts.Leaf = is_leaf e ≡ true
HasParts e (parts.One x) = HasOne e (typed_tree x.now)
HasParts e (parts.Two x y) = HasTwo e (typed_tree x.now) (typed_tree y.now)
HasParts e (parts.Joined j) = e ≡ cat_node j.line (typed_tree j.left.now) (typed_tree j.right.now)
HasParts e (parts.Call line k es) = e ≡ call_node line k (typed_trees_of (map typed_tree es.now.items))
HasParts e (parts.Connected c x y) = e ≡ cut_node c (typed_tree x.now) (typed_tree y.now)

-- ---- STATEMENTS

-- a statement without expressions and other statements in it
abbrev pub is_plain : TypedStatementTree → Bool
is_plain empty_statement = true
is_plain break_statement = true
is_plain continue_statement = true
is_plain (return_statement None) = true
is_plain (default_statement k) = true
is_plain (input_statement line k text) = true
is_plain c = false

-- the step of a statement with one expression, on its value
abbrev pub after_one : World → StatementContext → TypedStatementTree → Value → Frame → Effect Flow
after_one w at (return_statement (Some e)) x fr = do
  v ← wanted at.secret_result x
  done (returns v)
after_one w at (assert_statement line e) x fr = do
  _ ← asserted line x
  done (goes fr)
after_one w at (store_statement k e) x fr = stored at.here k x fr
after_one w at (publish_statement text e) x fr = do
  _ ← published w text x
  done (goes fr)
after_one w at c x fr = done (goes fr)

-- and of one with two
abbrev pub after_two : World → StatementContext → TypedStatementTree → (x y : Value) → Frame → Effect Flow
after_two w at (fill_statement line k n e) m x fr = do
  a ← wanted (slot_is_private at.here k) x
  v ← filled line m a
  done (goes (put k v fr))
after_two w at (element_statement line k i e) j x fr = do
  a ← wanted (slot_is_private at.here k) x
  with_element_in line k j a fr
after_two w at c x y fr = done (goes fr)

pub record HasOneWithin (c : TypedStatementTree) (x : TypedTree) : Type 0 where
  pub executes : (w : World) (calls : Calls) (at : StatementContext) (fr : Frame) (s : Stage)
      → execute w calls at c fr s ≡ carry (value w calls at.here x fr s) (λ a. after_one w at c a fr)
  pub lighter : weight x + 4 ≤ statement_weight c
  pub sound : (n : ℕ) (ps : List ℕ) → IsSoundStatementTree n ps c → IsSoundTree n ps x

pub record HasTwoWithin (c : TypedStatementTree) (x y : TypedTree) : Type 0 where
  pub executes : (w : World) (calls : Calls) (at : StatementContext) (fr : Frame) (s : Stage) →
      execute w calls at c fr s ≡ carry (value w calls at.here x fr s) (λ a t. carry (value w calls at.here y fr t) (λ b. after_two w at c a b fr))
  pub lighter : weight x + weight y + 4 ≤ statement_weight c
  pub sound : (n : ℕ) (ps : List ℕ) → IsSoundStatementTree n ps c → IsSoundTree n ps x × IsSoundTree n ps y

abbrev pub HasStatementParts : TypedStatementTree → StatementParts → Type 0
HasStatementParts c within.Plain = is_plain c ≡ true
HasStatementParts c (within.One x) = HasOneWithin c (typed_tree x.now)
HasStatementParts c (within.Two x y) = HasTwoWithin c (typed_tree x.now) (typed_tree y.now)
HasStatementParts c (within.Block cs) = c ≡ block_statement (typed_statements_of (map typed_statement cs.now.items))
HasStatementParts c (within.If x a b) = c ≡ if_statement (typed_tree x.now) (typed_statement a.now) (typed_statement b.now)
HasStatementParts c (within.Loop x step body) = c ≡ loop_statement (typed_tree x.now) (typed_statement step.now) (typed_statement body.now)
HasStatementParts c (within.DoWhile body x) = c ≡ do_statement (typed_statement body.now) (typed_tree x.now)
