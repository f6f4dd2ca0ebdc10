-- Evaluation: what a typed program does, expression by expression and statement by statement.
use Rattle.std.specs.Prelude.{ℕ, zero, suc, ◌+◌, Bool, true, false, not, ◌&&◌, nat_eq, if◌then◌else◌, List, [], ◌∷◌, length, drop, map, sum, Option, Some}
use Rattle.std.specs.Prelude.{None, bytes_eq}
use Rattle.std.specs.List.{slice_get}
use Rattle.sc_text.specs.declared.end.Ending.TheVariants as ending
use Rattle.sc_text.specs.declared.end.TrapKind.TheVariants as trap
use Rattle.program_trees.specs.declared.expression.DataType.{DataType}
use Rattle.program_trees.specs.declared.expression.DataType.TheVariants.{Uint64, Int64}
use Rattle.program_trees.specs.declared.expression.DataType.TheVariants as datatype
use Rattle.reached_instances.specs.Shape.{Shape}
use Rattle.reached_instances.specs.Slot.{Slot}
use Rattle.reached_instances.specs.BinaryOperator.TheVariants as binary
use Rattle.reached_instances.specs.Operands.TheVariants.{Scalars}
use Rattle.reached_instances.specs.Connective.{Connective}
use Rattle.reached_instances.specs.Connective.TheVariants.{AndAlso, OrElse}
use Rattle.reached_instances.specs.TypedTree.{TypedTree, TypedTrees, word_node, truth_node, zero_node, slot_node, call_node, size_node, cat_node, sum_node, bits_node, lookup_node}
use Rattle.reached_instances.specs.TypedTree.{element_node, not_node, cast_node, binary_node, cut_node, declassify_node}
use Rattle.reached_instances.specs.TypedTree as Tree'
use Rattle.reached_instances.specs.TypedStatements.{TypedStatementTree, TypedStatementTrees, empty_statement, block_statement, if_statement, loop_statement}
use Rattle.reached_instances.specs.TypedStatements.{do_statement}
use Rattle.reached_instances.specs.TypedStatements.{break_statement, continue_statement, return_statement, assert_statement, store_statement, default_statement}
use Rattle.reached_instances.specs.TypedStatements.{fill_statement, input_statement, element_statement, publish_statement, evaluate_statement}
use Rattle.reached_instances.specs.TypedStatements as Statements'
use Rattle.reached_instances.specs.TypedPrograms.{TypedFunctionTree}
use Rattle.reached_instances.specs.declared.instance.BoundDomain.{BoundDomain}
use Rattle.reached_instances.specs.Domains.{Setting, domain, domains, domain_under, given_domain, binding_of}
pub use Rattle.reached_instances.specs.Domains.{is_private, next_is_private, shape_at, slot_is_private, slot_shape}
use Rattle.plans.specs.Gate.TheVariants.{Input}
pub use Rattle.reached_instances.specs.Operators.{connective}
use Rattle.reached_instances.specs.Shapes.{shape_of}
use Rattle.language_model.specs.Effects.{World, GivenInput, Effect, ◌>>=◌, done, end, charge, test, gate}
use Rattle.language_model.specs.Values.{Value, plain, never_stored, size, default_words}
use Rattle.language_model.specs.Words.{truth_word}
use Rattle.language_model.specs.Operations.{charged, no_traps, made_private, wanted, declassified, operation, negated, cast_to, size_told, summed}
use Rattle.language_model.specs.Operations.{bits_extracted, lookup, concatenated, element_of_array, with_element, filled, published, tested, asserted}

-- the values in a function's slots
abbrev pub Frame : Type 0
Frame = ℕ → Value

abbrev pub put : ℕ → Value → Frame → Frame
put k v fr i = if nat_eq i k then v else fr i

-- a call, by its line, the number of the function, what its domain variables are bound to, and the arguments; a function that gives
-- nothing back gives a value that nobody reads
abbrev pub Calls : Type 0
Calls = (line function : ℕ) → List BoundDomain → List Value → Effect Value

abbrev pub nothing : Value
nothing = plain (shape_of Uint64 false) (0 ∷ [])

-- ---- WHO MAY SEE WHAT

-- whether an expression gives a private value
abbrev pub gives_private : Setting → TypedTree → Bool
gives_private here e = is_private (domain here e)

-- ---- INPUTS

abbrev pub same_type : DataType → DataType → Bool
same_type Uint64 Uint64 = true
same_type Int64 Int64 = true
same_type datatype.Bool datatype.Bool = true
same_type given declared = false

abbrev pub same_truth : Bool → Bool → Bool
same_truth true b = b
same_truth false b = not b

abbrev pub same_shape : Shape → Shape → Bool
same_shape s t = same_type s.element t.element && same_truth s.array t.array

-- whether an input is as it is declared
abbrev pub is_as_declared : (secret : Bool) → Shape → GivenInput → Bool
is_as_declared secret shape x = same_truth x.secret secret && same_shape x.shape shape

-- how many private inputs stand before the one after this
abbrev pub behind : GivenInput → ℕ → ℕ
behind x k = if x.secret then k + 1 else k

-- the input of a name, and how many private ones stand before it
abbrev pub input_from : ℕ → List ℕ → List GivenInput → Option (GivenInput × ℕ)
input_from k text [] = None
input_from k text (x ∷ xs) = if bytes_eq text x.text then Some (x, k) else input_from (behind x k) text xs

abbrev pub input_named : World → List ℕ → Option (GivenInput × ℕ)
input_named w text = input_from 0 text w.inputs

abbrev pub given_value : (secret : Bool) → GivenInput → ℕ → Effect Value
given_value false x k = done (plain x.shape x.words)
given_value true x k = gate (Input k) >>= made_private x.shape x.words

-- an input where one is wanted that is private or not, and has this shape
abbrev pub asked_for : (secret : Bool) → Shape → ℕ → Option (GivenInput × ℕ) → Effect Value
asked_for secret shape line None = do
  _ ← charge 1
  end (ending.Trap trap.Argument line)
asked_for secret shape line (Some x) = do
  _ ← charged (test (is_as_declared secret shape x.0) trap.Argument line) (length x.0.words)
  given_value secret x.0 x.1

-- ---- CALLS

abbrev pub slots_of : Option TypedFunctionTree → List Slot
slots_of None = []
slots_of (Some f) = f.slots

-- what the domain variables of a called function are bound to
abbrev pub bound_at : Option TypedFunctionTree → List BoundDomain → List BoundDomain
bound_at None ds = []
bound_at (Some f) ds = binding_of f ds

-- the parameters after the next one
abbrev pub behind_next : List Slot → List Slot
behind_next = drop 1

-- ---- EXPRESSIONS

abbrev pub either : {A : Type 0} → Bool → A → A → A
either true a b = a
either false a b = b

-- whether a left operand decides alone
abbrev pub decides : Connective → Bool → Bool
decides AndAlso t = not t
decides OrElse t = t

abbrev pub truth_value : Bool → Value
truth_value t = plain (shape_of datatype.Bool false) (truth_word t ∷ [])

-- the left operand is public: it is tested, and the right one evaluated only where it doesn't decide
abbrev pub cut_short : Connective → (secret : Bool) → Value → Effect Value → Effect Value
cut_short c secret x right = do
  t ← tested x
  either (decides c t) (wanted secret (truth_value t)) right

-- the left operand is private, and both are evaluated
abbrev pub not_cut_short : World → Connective → Value → Effect Value → Effect Value
not_cut_short w c x right = right >>= operation w 0 (binary.Bools (connective c)) Scalars x

unfoldable mutual
  pub value : World → Calls → Setting → TypedTree → Frame → Effect Value
  value w calls here (word_node n) fr = done (plain (shape_of Uint64 false) (n ∷ []))
  value w calls here (truth_node b) fr = done (truth_value b)
  value w calls here zero_node fr = done (plain (shape_of Int64 false) (0 ∷ []))
  value w calls here (slot_node k) fr = done (fr k)
  value w calls here (call_node line k es) fr = do
    xs ← arguments w calls here (bound_at (slice_get here.functions k) (domains here es)) (slots_of (slice_get here.functions k)) es fr
    calls line k (bound_at (slice_get here.functions k) (domains here es)) xs
  value w calls here (size_node e) fr = value w calls here e fr >>= size_told
  value w calls here (cat_node line a b) fr = do
    x ← value w calls here a fr
    u ← wanted (gives_private here (cat_node line a b)) x
    y ← value w calls here b fr
    v ← wanted (gives_private here (cat_node line a b)) y
    concatenated line u v
  value w calls here (sum_node e) fr = value w calls here e fr >>= summed
  value w calls here (bits_node line e) fr = value w calls here e fr >>= bits_extracted w line
  value w calls here (lookup_node line a i) fr = do
    x ← value w calls here a fr
    k ← value w calls here i fr
    lookup w line x k
  value w calls here (element_node line a i) fr = do
    x ← value w calls here a fr
    j ← value w calls here i fr
    element_of_array line x j
  value w calls here (not_node e) fr = value w calls here e fr >>= negated
  value w calls here (cast_node c e) fr = value w calls here e fr >>= cast_to w c
  value w calls here (binary_node line op ds a b) fr = do
    x ← value w calls here a fr
    y ← value w calls here b fr
    operation w line op ds x y
  value w calls here (cut_node c a b) fr = do
    x ← value w calls here a fr
    either (gives_private here a) (not_cut_short w c x (value w calls here b fr)) (cut_short c (gives_private here b) x (value w calls here b fr))
  value w calls here (declassify_node e) fr = value w calls here e fr >>= declassified w

  -- arguments, each classified right after its evaluation where its parameter is private
  pub arguments : World → Calls → Setting → List BoundDomain → List Slot → TypedTrees → Frame → Effect (List Value)
  arguments w calls here b ss Tree'.none fr = done []
  arguments w calls here b ss (Tree'.also e es) fr = do
    x ← value w calls here e fr
    a ← wanted (next_is_private b ss) x
    xs ← arguments w calls here b (behind_next ss) es fr
    done (a ∷ xs)

-- ---- STATEMENTS

-- where a function goes on: after the statement, back to its caller, after the loop, or with the loop's next turn
pub data Flow : Type 0 where
  goes stops skips : Frame → Flow
  returns : Value → Flow

abbrev pub then_do : Flow → (Frame → Effect Flow) → Effect Flow
then_do (goes fr) next = next fr
then_do flow next = done flow

-- after the body of a loop
abbrev pub turned : Flow → (Frame → Effect Flow) → Effect Flow
turned (goes fr) next = next fr
turned (skips fr) next = next fr
turned (stops fr) next = done (goes fr)
turned (returns v) next = done (returns v)

-- n bounds the turns: each one is charged, so that a run has fewer turns than budget
unfoldable pub turns : ℕ → (Frame → Effect Value) → (step body : Frame → Effect Flow) → Frame → Effect Flow
turns zero condition step body fr = end ending.Budget
turns (suc n) condition step body fr = do
  v ← condition fr
  t ← tested v
  either t (body fr >>= λ g. turned g (λ f. step f >>= λ h. turned h (turns n condition step body))) (done (goes fr))

-- the body comes before the condition
unfoldable pub repeats : ℕ → (Frame → Effect Value) → (body : Frame → Effect Flow) → Frame → Effect Flow
repeats zero condition body fr = end ending.Budget
repeats (suc n) condition body fr = do
  g ← body fr
  turned g (λ f. condition f >>= λ v. tested v >>= λ t. either t (repeats n condition body f) (done (goes f)))

-- where a statement stands: in a body of a function whose result is private or not
pub record StatementContext : Type 0 where
  pub here : Setting
  pub secret_result : Bool

-- a value is stored in a whole variable, classified before where this is private
abbrev pub stored : Setting → ℕ → Value → Frame → Effect Flow
stored here k x fr = do
  v ← wanted (slot_is_private here k) x
  _ ← charged no_traps (size v)
  done (goes (put k v fr))

unfoldable mutual
  pub execute : World → Calls → StatementContext → TypedStatementTree → Frame → Effect Flow
  execute w calls at empty_statement fr = done (goes fr)
  execute w calls at (block_statement cs) fr = execute_all w calls at cs fr
  execute w calls at (if_statement e a b) fr = do
    v ← value w calls at.here e fr
    t ← tested v
    either t (execute w calls at a fr) (execute w calls at b fr)
  execute w calls at (loop_statement e step body) fr =
      λ s. turns (s.left + 1) (value w calls at.here e) (execute w calls at step) (execute w calls at body) fr s
  execute w calls at (do_statement body e) fr =
      λ s. repeats (s.left + 1) (value w calls at.here e) (execute w calls at body) fr s
  execute w calls at break_statement fr = done (stops fr)
  execute w calls at continue_statement fr = done (skips fr)
  execute w calls at (return_statement None) fr = done (returns nothing)
  execute w calls at (return_statement (Some e)) fr = do
    x ← value w calls at.here e fr
    v ← wanted at.secret_result x
    done (returns v)
  execute w calls at (assert_statement line e) fr = do
    v ← value w calls at.here e fr
    _ ← asserted line v
    done (goes fr)
  execute w calls at (store_statement k e) fr = do
    x ← value w calls at.here e fr
    stored at.here k x fr
  execute w calls at (default_statement k) fr = stored at.here k (plain (slot_shape at.here k) (default_words (slot_shape at.here k).array)) fr
  execute w calls at (fill_statement line k n e) fr = do
    m ← value w calls at.here n fr
    x ← value w calls at.here e fr
    a ← wanted (slot_is_private at.here k) x
    v ← filled line m a
    done (goes (put k v fr))
  execute w calls at (input_statement line k text) fr = do
    x ← asked_for (slot_is_private at.here k) (slot_shape at.here k) line (input_named w text)
    stored at.here k x fr
  execute w calls at (element_statement line k i e) fr = do
    j ← value w calls at.here i fr
    x ← value w calls at.here e fr
    a ← wanted (slot_is_private at.here k) x
    v ← with_element line (fr k) j a
    done (goes (put k v fr))
  execute w calls at (publish_statement text e) fr = do
    v ← value w calls at.here e fr
    _ ← published w text v
    done (goes fr)
  execute w calls at (evaluate_statement e) fr = do
    _ ← value w calls at.here e fr
    done (goes fr)

  pub execute_all : World → Calls → StatementContext → TypedStatementTrees → Frame → Effect Flow
  execute_all w calls at Statements'.none fr = done (goes fr)
  execute_all w calls at (Statements'.also c cs) fr = do
    g ← execute w calls at c fr
    then_do g (execute_all w calls at cs)

-- ---- FUNCTIONS

-- a slot where a function begins: a parameter has its argument
abbrev pub begins : List BoundDomain → Option Slot → Value
begins b None = nothing
begins b (Some s) = never_stored (is_private (domain_under b s.domain)) s.shape

abbrev pub entered : List BoundDomain → List Slot → List Value → Frame
entered b ss [] k = begins b (slice_get ss k)
entered b ss (x ∷ xs) zero = x
entered b ss (x ∷ xs) (suc k) = entered b (behind_next ss) xs k

abbrev pub result_of : Flow → Value
result_of (returns v) = v
result_of _ = nothing

abbrev pub place_in : List TypedFunctionTree → TypedFunctionTree → List BoundDomain → StatementContext
place_in fs f b =
    record {
      here = record { functions = fs; slots = f.slots; binding = b };
      secret_result = is_private (given_domain b f.given);
    }

abbrev pub body_of : World → Calls → List TypedFunctionTree → Option TypedFunctionTree → List BoundDomain → List Value → Effect Value
body_of w calls fs None b xs = done nothing
body_of w calls fs (Some f) b xs = do
  g ← execute_all w calls (place_in fs f b) f.body (entered b f.slots xs)
  done (result_of g)

-- how many elements an array has, and none of a scalar
abbrev pub array_elements : Value → ℕ
array_elements v = either v.shape.array (size v) 0

-- calls may stand in one another this deep, `main` counted
abbrev pub deepest : ℕ
deepest = 64

-- a call with room for d more inside one another
unfoldable pub call_at : World → List TypedFunctionTree → ℕ → Calls
call_at w fs zero line k b xs = do
  _ ← charge 1
  end (ending.Trap trap.Depth line)
call_at w fs (suc d) line k b xs = do
  _ ← charge 1
  _ ← charge (sum (map array_elements xs))
  body_of w (call_at w fs d) fs (slice_get fs k) b xs
