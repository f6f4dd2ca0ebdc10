-- What is asked of a program so that its code does what it does: slots and instances that are there, and nothing private where a
-- public value is declared.
use Rattle.std.specs.Prelude.{◌≡◌, ◌<◌, ℕ, Bool, true, false, ◌&&◌, ◌||◌, List, [], ◌∷◌, length, Some, None}
use Rattle.std.specs.List.{slice_get}
use Rattle.sc_text.specs.Lists.{Among}
use Rattle.program_trees.specs.declared.kinds.Slot.{Slot}
use Rattle.program_trees.specs.TypedTree.{TypedTree, TypedTrees, word_node, truth_node, zero_node, slot_node, call_node, size_node, cat_node, sum_node, bits_node, lookup_node, element_node}
use Rattle.program_trees.specs.TypedTree.{not_node, cast_node, binary_node, cut_node, declassify_node}
use Rattle.program_trees.specs.TypedTree as Tree'
use Rattle.program_trees.specs.TypedStatements.{TypedStatementTree, TypedStatementTrees, empty_statement, block_statement, if_statement, loop_statement, do_statement}
use Rattle.program_trees.specs.TypedStatements.{break_statement, continue_statement, return_statement, assert_statement, store_statement, default_statement}
use Rattle.program_trees.specs.TypedStatements.{fill_statement, input_statement, element_statement, publish_statement, evaluate_statement}
use Rattle.program_trees.specs.TypedStatements as Statements'
use Rattle.program_trees.specs.declared.typed_function.Returned.{Returned}
use Rattle.program_trees.specs.declared.typed_function.Returned.TheVariants as given
use Rattle.program_trees.specs.TypedPrograms.{TypedFunctionTree, TypedProgramTree}
use Rattle.reached_instances.specs.declared.instance.BoundDomain.{BoundDomain}
use Rattle.reached_instances.specs.Domains.{Setting, domains}
use Rattle.reached_instances.specs.Instances.{Instance}
use Rattle.blind_evaluation.specs.Evaluation.{StatementContext, place_in, gives_private, slot_is_private, slots_of, bound_at, next_is_private}

-- a private value stands only where a private one is declared
abbrev pub MayStand : (given declared : Bool) → Type 0
MayStand given declared = given ≡ true → declared ≡ true

-- ---- EXPRESSIONS AND STATEMENTS, where these instances have code

module _ (Known : ℕ → List BoundDomain → Type 0) where
  abbrev mutual
    pub IsFit : Setting → TypedTree → Type 0
    IsFit here (word_node n) = Unit {0}
    IsFit here (truth_node b) = Unit {0}
    IsFit here zero_node = 0 < length here.slots
    IsFit here (slot_node k) = k < length here.slots
    IsFit here (call_node line k es) =
        Known k (bound_at (slice_get here.functions k) (domains here es))
        × AreFit here (bound_at (slice_get here.functions k) (domains here es)) (slots_of (slice_get here.functions k)) es
    IsFit here (size_node e) = IsFit here e
    IsFit here (cat_node line a b) = IsFit here a × IsFit here b
    IsFit here (sum_node e) = IsFit here e
    IsFit here (bits_node line e) = IsFit here e
    IsFit here (lookup_node line a i) = IsFit here a × IsFit here i × (gives_private here (lookup_node line a i) ≡ true)
    IsFit here (element_node line a i) = IsFit here a × IsFit here i
    IsFit here (not_node e) = IsFit here e
    IsFit here (cast_node c e) = IsFit here e
    IsFit here (binary_node line op ds a b) = IsFit here a × IsFit here b
    IsFit here (cut_node c a b) = IsFit here a × IsFit here b
    IsFit here (declassify_node e) = IsFit here e

    -- each argument has a parameter
    pub AreFit : Setting → List BoundDomain → List Slot → TypedTrees → Type 0
    AreFit here b ss Tree'.none = Unit {0}
    AreFit here b [] (Tree'.also e es) = ⊥
    AreFit here b (s ∷ ss) (Tree'.also e es) =
        IsFit here e × MayStand (gives_private here e) (next_is_private b (s ∷ ss)) × AreFit here b ss es

  -- a value that fits a slot that is there
  abbrev pub FitsSlot : Setting → ℕ → TypedTree → Type 0
  FitsSlot here k e = (k < length here.slots) × IsFit here e × MayStand (gives_private here e) (slot_is_private here k)

  -- inside of a loop or not
  abbrev mutual
    pub IsFitStatement : StatementContext → (inside : Bool) → TypedStatementTree → Type 0
    IsFitStatement at inside empty_statement = Unit {0}
    IsFitStatement at inside (block_statement cs) = AreFitStatements at inside cs
    IsFitStatement at inside (if_statement e a b) = IsFit at.here e × IsFitStatement at inside a × IsFitStatement at inside b
    IsFitStatement at inside (loop_statement e step body) = IsFit at.here e × IsFitStatement at false step × IsFitStatement at true body
    IsFitStatement at inside (do_statement body e) = IsFitStatement at true body × IsFit at.here e
    IsFitStatement at inside break_statement = inside ≡ true
    IsFitStatement at inside continue_statement = inside ≡ true
    IsFitStatement at inside (return_statement None) = at.secret_result ≡ false
    IsFitStatement at inside (return_statement (Some e)) = IsFit at.here e × MayStand (gives_private at.here e) at.secret_result
    IsFitStatement at inside (assert_statement line e) = IsFit at.here e
    IsFitStatement at inside (store_statement k e) = FitsSlot at.here k e
    IsFitStatement at inside (default_statement k) = k < length at.here.slots
    IsFitStatement at inside (fill_statement line k n e) = IsFit at.here n × FitsSlot at.here k e
    IsFitStatement at inside (input_statement line k text) = k < length at.here.slots
    IsFitStatement at inside (element_statement line k i e) = IsFit at.here i × FitsSlot at.here k e
    IsFitStatement at inside (publish_statement text e) = IsFit at.here e
    IsFitStatement at inside (evaluate_statement e) = IsFit at.here e

    pub AreFitStatements : StatementContext → (inside : Bool) → TypedStatementTrees → Type 0
    AreFitStatements at inside Statements'.none = Unit {0}
    AreFitStatements at inside (Statements'.also c cs) = IsFitStatement at inside c × AreFitStatements at inside cs

-- ---- FUNCTIONS AND PROGRAMS

-- a return, a block with a statement that always returns, an `if` whose both branches do
abbrev mutual
  pub always_returns : TypedStatementTree → Bool
  always_returns (block_statement cs) = one_returns cs
  always_returns (if_statement e a b) = always_returns a && always_returns b
  always_returns (return_statement e) = true
  always_returns c = false

  pub one_returns : TypedStatementTrees → Bool
  one_returns Statements'.none = false
  one_returns (Statements'.also c cs) = always_returns c || one_returns cs

abbrev pub gives_value : Returned → Bool
gives_value given.Nothing = false
gives_value (given.Value s) = true

-- a function that gives a value back never falls off its end
pub record IsFitFunction (Known : ℕ → List BoundDomain → Type 0) (fs : List TypedFunctionTree) (f : TypedFunctionTree) (b : List BoundDomain) : Type 0 where
  pub body : AreFitStatements Known (place_in fs f b) false f.body
  pub returns : gives_value f.given ≡ true → one_returns f.body ≡ true

abbrev pub IsKnownIn : List Instance → ℕ → List BoundDomain → Type 0
IsKnownIn is k b = Among (record { function = k; binding = b }) is

pub record IsFitInstance (p : TypedProgramTree) (is : List Instance) (i : Instance) : Type 0 where
  pub called : TypedFunctionTree
  pub there : slice_get p.functions i.function ≡ Some called
  pub fit : IsFitFunction (IsKnownIn is) p.functions called i.binding

-- ---- REACHED INSTANCES

-- the function of an instance is there
abbrev pub IsThere : List TypedFunctionTree → ℕ → List BoundDomain → Type 0
IsThere fs k b = (f : TypedFunctionTree) × (slice_get fs k ≡ Some f)

-- an instance that fits but for what it calls, of which only the functions are there
pub record IsFitAlone (p : TypedProgramTree) (i : Instance) : Type 0 where
  pub called : TypedFunctionTree
  pub there : slice_get p.functions i.function ≡ Some called
  pub fit : IsFitFunction (IsThere p.functions) p.functions called i.binding

abbrev pub the_main : Instance
the_main = record { function = 0; binding = [] }

-- the list begins with `main`, and has each instance that one of it calls
pub record IsFitProgram (p : TypedProgramTree) (is : List Instance) : Type 0 where
  pub others : List Instance
  pub begins : is ≡ the_main ∷ others
  pub instances : (i : Instance) → Among i is → IsFitInstance p is i
