-- Calls: of built-in functions, and of a function of the program, whose head is read under the domains that the call binds.
use Rattle.std.proofs.Common.{◌≡◌, ℕ, suc, List, [], ◌∷◌, inl, inr, length, take, refl, sym, ap, ap₂, ◌∙◌, subst, Option, Some, None}
use Rattle.std.specs.Prelude.{map}
use Rattle.std.specs.List.{slice_get}
use Rattle.std.proofs.lemmas.List.{length-map}
use Rattle.sc_text.specs.declared.span.Span.{Span}
use Rattle.program_trees.specs.declared.expression.DataType.{DataType}
use Rattle.program_trees.specs.declared.expression.DataType.TheVariants.{Uint64, Int64}
use Rattle.program_trees.specs.declared.expression.DataType.TheVariants as datatype
use Rattle.program_trees.specs.declared.function.DomainVariable.{DomainVariable}
use Rattle.program_trees.specs.declared.function.Parameter.{Parameter}
use Rattle.program_trees.specs.declared.function.ResultType.{ResultType}
use Rattle.program_trees.specs.declared.function.ResultType.TheVariants as result
use Rattle.program_trees.specs.Programs.{FunctionTree, ProgramTree}
use Rattle.domain_types.specs.declared.value_type.Argument.{Argument}
use Rattle.domain_types.specs.declared.value_type.Protection.{Protection}
use Rattle.domain_types.specs.declared.value_type.ValueType.{ValueType}
use Rattle.domain_types.specs.declared.value_type.ExpressionType.{ExpressionType}
use Rattle.domain_types.specs.declared.value_type.ExpressionType.TheVariants.{Void, Value}
use Rattle.domain_types.specs.BuiltIn.{BuiltIn}
use Rattle.domain_types.specs.BuiltIn.TheVariants.{Size, Cat, Sum, BitExtract, Lookup}
use Rattle.domain_types.specs.Declarations.{Declared, declared_by, functions_of, defined, callee}
use Rattle.domain_types.specs.Settings.{Setting, domain_of, in_domain, type_written}
use Rattle.domain_types.specs.Scopes as checked
use Rattle.domain_types.specs.ExpressionTypes.{within, binding_by, defined_faults, result_type}
use Rattle.domain_types.specs.FunctionTypes as head
use Rattle.sc_text.specs.Lists.{Among}
use Rattle.domain_types.specs.Reached.{Call, Instance, Calls, IsChecked, reached, function_calls, call_of}
use Rattle.domain_types.specs.Typing.{IsBuiltInCall, ParameterTakes, ParametersTake, AreBound, AreParameters, IsDefinedCall, IsTypedProgram}
use Rattle.domain_types.specs.Typing as typing
use Rattle.domain_types.proofs.Bindings.{with_domain}
use Rattle.domain_types.proofs.TypingSteps.{there, passes}
use Rattle.domain_types.proofs.TypingCalls.{defined_from}
use Rattle.program_trees.specs.declared.kinds.Shape.{Shape}
use Rattle.program_trees.specs.declared.kinds.Slot.{Slot}
use Rattle.program_trees.specs.declared.typed_function.Returned.{Returned}
use Rattle.program_trees.specs.declared.typed_function.Returned.TheVariants as given
use Rattle.program_trees.specs.TypedTree.{TypedTrees, call_node, typed_trees_of}
use Rattle.program_trees.specs.TypedPrograms.{TypedFunctionTree}
use Rattle.program_trees.specs.Shapes.{shape_of}
use Rattle.name_resolution.specs.Values.{TypedValue, TypedCall, shape_returned, tree_of_value, built_in_value}
use Rattle.name_resolution.specs.Order as order
use Rattle.name_resolution.specs.Functions.{slot_written, slots_written, given_back, typed_functions, with_functions}
use Rattle.name_resolution.proofs.SoundValues.{callee_there, mapped, some_is}
use Rattle.program_typing.proofs.TreesOfValues.{no_number}
use Rattle.reached_instances.specs.declared.instance.BoundDomain.{BoundDomain}
use Rattle.reached_instances.specs.Domains as domains
use Rattle.reached_instances.specs.Domains.{domain, domain_under, given_domain, call_domain, bound_below, binding_of}
use Rattle.reached_instances.specs.Calls as calls
use Rattle.well_typed.specs.Kinds.{IsNumber, GoesTo}
use Rattle.well_typed.specs.Expressions.{Gives, AreTaken, shape_given}
use Rattle.well_typed.specs.Laws.{bound_domain, IsCheckedInstance}
use Rattle.well_typed.proofs.Bindings.{goes, own_numbers, declared_type, argument_domain, slots_first, bound_count, binding_same}
use Rattle.well_typed.proofs.SlotsWritten.{shape_in, slot_same, slots_count, take_front}
use Rattle.well_typed.proofs.Heads.{IsMade, is_made, is_head, function_at}
use Rattle.well_typed.proofs.Typed.{Good, AllGood, good_as, gives_as, good_size, good_cat, good_sum, good_bits, good_lookup, AreChecked, none_checked, both_checked}

-- A FUNCTION UNDER A BINDING

abbrev pub known_in : ProgramTree → Declared
known_in p = with_functions (declared_by p) (order.reached (declared_by p))

-- a function of an accepted program, checked with these domains, and the typed functions of the program
pub record Frame (p : ProgramTree) : Type 0 where
  pub accepted : IsTypedProgram p
  pub functions : List TypedFunctionTree
  pub made : typed_functions (known_in p) (order.reached (declared_by p)) ≡ Some functions
  pub number : ℕ
  pub domains : List Protection
  pub function : FunctionTree
  pub checked : IsChecked p (record { function = number; binding = domains })
  pub there : slice_get (functions_of p.items) number ≡ Some function
  pub count : length domains ≡ length function.variables
  pub slots : List Slot

-- how the checker sees it, and how its typed tree is read
abbrev pub setting : {p : ProgramTree} → Frame p → Setting
setting {p} z = within (declared_by p) z.function z.domains

abbrev pub here : {p : ProgramTree} → Frame p → domains.Setting
here z = record { functions = z.functions; slots = z.slots; binding = map bound_domain z.domains }

abbrev pub all_calls : {p : ProgramTree} → Frame p → List Call
all_calls z = function_calls (setting z) z.function

-- these are among the calls of the function
abbrev pub AreMade : {p : ProgramTree} → Frame p → List Call → Type 0
AreMade z cs = (c : Call) → Among c cs → Among c (all_calls z)

-- CALLS

abbrev pub shape_of_type : ExpressionType → Option Shape
shape_of_type Void = None
shape_of_type (Value v) = Some (shape_in v)

-- a call of this type
pub record GoodCall (p : ProgramTree) (w : domains.Setting) (c : TypedCall) (t : ExpressionType) : Type 0 where
  pub is : c.gives ≡ shape_of_type t
  pub gives : Gives w c.tree (shape_of_type t)
  pub seen_by : (v : ValueType) → t ≡ Value v → domain w c.tree ≡ bound_domain v.domain
  pub called : AreChecked p (calls.calls w c.tree)

-- BUILT-IN FUNCTIONS

-- what a call of one is
pub record GoodValue (p : ProgramTree) (w : domains.Setting) (o : Option TypedValue) (v : ValueType) : Type 0 where
  pub good : (x : TypedValue) → o ≡ Some x → Good p w x v

good_value : (p : ProgramTree) (w : domains.Setting) (x : TypedValue) (v u : ValueType) → Good p w x v → v ≡ u → GoodValue p w (Some x) u
good_value p w x v u g e = record { good = λ y f. good_as p w x y v u g (some_is x y f) e }

is_number : (t : DataType) → typing.IsNumber t → IsNumber t
is_number Uint64 h = tt
is_number Int64 h = tt
is_number datatype.Bool h = absurd (no_number h)

pub good_built_in : (p : ProgramTree) (w : domains.Setting) (line : ℕ) (b : BuiltIn) (gs : List Argument) (xs : List TypedValue) (v : ValueType)
    → AllGood p w xs gs → IsBuiltInCall b gs v → GoodValue p w (built_in_value line b xs) v
good_built_in p w line Size [] xs v a h = absurd h
good_built_in p w line Size (g ∷ []) [] v a h = absurd a
good_built_in p w line Size (g ∷ []) (x ∷ []) v a h = good_value p w _ _ v (good_size p w x g.given a.0 h.0) (sym h.1)
good_built_in p w line Size (g ∷ []) (x ∷ y ∷ xs) v a h = absurd a.1
good_built_in p w line Size (g ∷ f ∷ gs) xs v a h = absurd h
good_built_in p w line Cat [] xs v a h = absurd h
good_built_in p w line Cat (g ∷ []) xs v a h = absurd h
good_built_in p w line Cat (g ∷ f ∷ []) [] v a h = absurd a
good_built_in p w line Cat (g ∷ f ∷ []) (x ∷ []) v a h = absurd a.1
good_built_in p w line Cat (g ∷ f ∷ []) (x ∷ y ∷ []) v a h =
    good_value p w _ v v (good_cat p w line x y g.given f.given v a.0 a.1.0 h.0 h.1 h.2 h.3 h.4 h.5) refl
good_built_in p w line Cat (g ∷ f ∷ []) (x ∷ y ∷ z ∷ xs) v a h = absurd a.1.1
good_built_in p w line Cat (g ∷ f ∷ e ∷ gs) xs v a h = absurd h
good_built_in p w line Sum [] xs v a h = absurd h
good_built_in p w line Sum (g ∷ []) [] v a h = absurd a
good_built_in p w line Sum (g ∷ []) (x ∷ []) v a h = good_value p w _ _ v (good_sum p w x g.given a.0 h.0 (is_number g.given.element h.1)) (sym h.2)
good_built_in p w line Sum (g ∷ []) (x ∷ y ∷ xs) v a h = absurd a.1
good_built_in p w line Sum (g ∷ f ∷ gs) xs v a h = absurd h
good_built_in p w line BitExtract [] xs v a h = absurd h
good_built_in p w line BitExtract (g ∷ []) [] v a h = absurd a
good_built_in p w line BitExtract (g ∷ []) (x ∷ []) v a h = good_value p w _ _ v (good_bits p w line x g.given a.0 h.0) (sym h.1)
good_built_in p w line BitExtract (g ∷ []) (x ∷ y ∷ xs) v a h = absurd a.1
good_built_in p w line BitExtract (g ∷ f ∷ gs) xs v a h = absurd h
good_built_in p w line Lookup [] xs v a h = absurd h
good_built_in p w line Lookup (g ∷ []) xs v a h = absurd h
good_built_in p w line Lookup (g ∷ f ∷ []) [] v a h = absurd a
good_built_in p w line Lookup (g ∷ f ∷ []) (x ∷ []) v a h = absurd a.1
good_built_in p w line Lookup (g ∷ f ∷ []) (x ∷ y ∷ []) v a h =
    good_value p w _ v v
    (good_lookup p w line x y g.given f.given v a.0 a.1.0 h.0 (is_number g.given.element h.1) h.2 h.3 h.4 h.5 h.6) refl
good_built_in p w line Lookup (g ∷ f ∷ []) (x ∷ y ∷ z ∷ xs) v a h = absurd a.1.1
good_built_in p w line Lookup (g ∷ f ∷ e ∷ gs) xs v a h = absurd h

-- ARGUMENTS

abbrev pub trees_of : List TypedValue → TypedTrees
trees_of xs = typed_trees_of (map tree_of_value xs)

domains_good : (p : ProgramTree) (w : domains.Setting) (xs : List TypedValue) (gs : List Argument) → AllGood p w xs gs
    → domains.domains w (trees_of xs) ≡ map argument_domain gs
domains_good p w [] [] a = refl
domains_good p w [] (g ∷ gs) a = absurd a
domains_good p w (x ∷ xs) [] a = absurd a
domains_good p w (x ∷ xs) (g ∷ gs) a = ap₂ (λ d ds. d ∷ ds) a.0.seen_by (domains_good p w xs gs a.1)

called_good : (p : ProgramTree) (w : domains.Setting) (xs : List TypedValue) (gs : List Argument) → AllGood p w xs gs
    → AreChecked p (calls.calls_of_all w (trees_of xs))
called_good p w [] [] a = none_checked p
called_good p w [] (g ∷ gs) a = absurd a
called_good p w (x ∷ xs) [] a = absurd a
called_good p w (x ∷ xs) (g ∷ gs) a = both_checked p (calls.calls w x.tree) (calls.calls_of_all w (trees_of xs)) a.0.called (called_good p w xs gs a.1)

-- each parameter is known, and takes its argument
taken_good : (p : ProgramTree) (w : domains.Setting) (f : FunctionTree) (ds : List Protection) (fs : List FunctionTree)
    → length ds ≡ length f.variables → (s : checked.Scope) (ps : List Parameter) (gs : List Argument) (xs : List TypedValue) (first : List Slot)
    → AreParameters (within (declared_by p) f ds) s ps → ParametersTake (within (declared_by p) f ds) ps gs
    → slots_written (with_functions (declared_by p) fs) f.variables (map declared_type ps) ≡ Some first → AllGood p w xs gs
    → AreTaken w (map bound_domain ds) first (trees_of xs)
taken_good p w f ds fs n s [] [] [] first h t e a = subst (λ z. AreTaken w (map bound_domain ds) z (trees_of [])) (some_is [] first e) tt
taken_good p w f ds fs n s [] [] (x ∷ xs) first h t e a = absurd a
taken_good p w f ds fs n s [] (g ∷ gs) xs first h t e a = absurd t
taken_good p w f ds fs n s (q ∷ ps) [] xs first h t e a = absurd t
taken_good p w f ds fs n s (q ∷ ps) (g ∷ gs) [] first h t e a = absurd a
taken_good p w f ds fs n s (q ∷ ps) (g ∷ gs) (x ∷ xs) first h t e a =
    let b = within (declared_by p) f ds in
    let r = slots_first (with_functions (declared_by p) fs) f.variables q.declared (map declared_type ps) first e in
    let v = there (type_written b q.declared) h.0 in
    let is = slot_same (declared_by p) fs f ds n q.declared v.0 r.0 v.1 r.2 in
    let fits = subst (λ o. ParameterTakes o g.given) v.1 t.0 in
    let shape : shape_in g.given ≡ r.0.shape = ap₂ shape_of (sym fits.0) (sym fits.1) ∙ sym is.shape in
    let goes_there : GoesTo (domain w x.tree) (domain_under (map bound_domain ds) r.0.domain) =
    subst (λ d. GoesTo d (domain_under (map bound_domain ds) r.0.domain)) (sym a.0.seen_by)
    (subst (GoesTo (argument_domain g)) (sym is.seen_by) (goes g.given.domain v.0.domain fits.2)) in
    let rest = taken_good p w f ds fs n (head.with_parameter b q s) ps gs xs r.1 h.2 t.1 r.3 a.1 in
    let all : AreTaken w (map bound_domain ds) (r.0 ∷ r.1) (trees_of (x ∷ xs)) =
    (gives_as w x.tree (shape_in g.given) r.0.shape a.0.gives shape, goes_there, rest) in
    subst (λ z. AreTaken w (map bound_domain ds) z (trees_of (x ∷ xs))) r.4 all

-- WHAT IS GIVEN BACK

record GivenIs (b : List BoundDomain) (g : Returned) (t : ExpressionType) : Type 0 where
  pub shape : shape_given g ≡ shape_of_type t
  pub seen_by : (v : ValueType) → t ≡ Value v → given_domain b g ≡ bound_domain v.domain

given_same : (d : Declared) (fs : List FunctionTree) (f : FunctionTree) (ds : List Protection) → length ds ≡ length f.variables
    → (r : ResultType) (g : Returned) (t : ExpressionType) → result_type (within d f ds) r ≡ Some t
    → given_back (with_functions d fs) f.variables r ≡ Some g → GivenIs (map bound_domain ds) g t
given_same d fs f ds n result.Void g t e h =
    let is : GivenIs (map bound_domain ds) given.Nothing Void = record { shape = refl; seen_by = λ v q. cc } in
    subst (λ z. GivenIs (map bound_domain ds) z t) (some_is given.Nothing g h) (subst (GivenIs (map bound_domain ds) given.Nothing) (some_is Void t e) is)
given_same d fs f ds n (result.Value r) g t e h =
    let m = mapped Value (type_written (within d f ds) r) t e in
    let q = mapped given.Value (slot_written (with_functions d fs) f.variables r) g h in
    let s = slot_same d fs f ds n r m.part q.part m.there q.there in
    let is : GivenIs (map bound_domain ds) (given.Value q.part) (Value m.part) = record {
      shape = ap Some s.shape;
      seen_by = λ v a. let same : m.part ≡ v = cc in s.seen_by ∙ ap (λ (z : ValueType). bound_domain z.domain) same;
    } in
    subst (λ z. GivenIs (map bound_domain ds) z t) q.is (subst (GivenIs (map bound_domain ds) (given.Value q.part)) m.is is)

-- FUNCTIONS OF THE PROGRAM

abbrev pub bound_call : ℕ → List Protection → Call
bound_call n ds = record { function = n; binding = Some ds }

binding_there : (vs : List DomainVariable) (ps : List Parameter) (gs : List Argument) (ds : List Protection) → AreBound vs ps gs ds
    → binding_by vs ps gs ≡ Some ds
binding_there [] ps gs ds h = ap Some (sym h)
binding_there (v ∷ vs) ps gs [] h = absurd h
binding_there (v ∷ vs) ps gs (d ∷ ds) h = ap₂ with_domain h.0 (binding_there vs ps gs ds h.2)

-- the call that the checker sees
pub call_seen : (d : Declared) (s : Span) (n : ℕ) (f : FunctionTree) (gs : List Argument) (t : ExpressionType) (h : IsDefinedCall d f gs t)
    → call_of d s (Some (defined n f)) (Some gs) ≡ record { function = n; binding = Some h.domains } ∷ []
call_seen d s n f gs t h =
    let r = defined_from d s f gs t h in
    ap (λ z. record { function = n; binding = z } ∷ [])
    (passes (defined_faults d s f gs) (binding_by f.variables f.parameters gs) r.0 ∙ binding_there f.variables f.parameters gs h.domains h.bound)

returned_shape : (w : Setting) (r : ResultType) (t : ExpressionType) → result_type w r ≡ Some t → shape_returned r ≡ shape_of_type t
returned_shape w result.Void t e = ap shape_of_type (some_is Void t e)
returned_shape w (result.Value r) t e =
    let m = mapped Value (type_written w r) t e in
    let n = mapped (in_domain r) (domain_of w r.domain) m.part m.there in
    ap (λ v. Some (shape_in v)) n.is ∙ ap shape_of_type m.is

-- the function that is called, with the domains that the call binds
record IsCallee (p : ProgramTree) (z : Frame p) (n m : ℕ) (f : FunctionTree) (gs : List Argument) (ds : List Protection) : Type 0 where
  pub typed : TypedFunctionTree
  pub at : slice_get z.functions m ≡ Some typed
  pub made : IsMade (known_in p) f typed
  pub instance : (b : List BoundDomain) → b ≡ map bound_domain ds → IsCheckedInstance p (record { function = m; binding = b })
  pub count : length ds ≡ length f.variables
  pub binding : binding_of typed (map argument_domain gs) ≡ map bound_domain ds
  pub first : List Slot
  pub first_is : take typed.parameters typed.slots ≡ first
  pub written : slots_written (known_in p) f.variables (map declared_type f.parameters) ≡ Some first
  pub parameters : AreParameters (within (declared_by p) f ds) checked.nothing_known f.parameters

is_callee : (p : ProgramTree) (z : Frame p) (x : List ℕ) (n m : ℕ) (f : FunctionTree) (gs : List Argument) (t : ExpressionType)
    (h : IsDefinedCall (declared_by p) f gs t) → callee (declared_by p) x ≡ Some (defined n f) → callee (known_in p) x ≡ Some (defined m f)
    → Among (bound_call n h.domains) (all_calls z) → length f.parameters ≡ length gs → IsCallee p z n m f gs h.domains
is_callee p z x n m f gs t h e k among count =
    let ds = h.domains in
    let i : Instance = record { function = z.number; binding = z.domains } in
    let at_home = callee_there (declared_by p) x n f e in
    let named = callee_there (known_in p) x m f k in
    let made_call : Calls p i (bound_call n ds) = record { called_in = z.function; there = z.there; calls = among } in
    let is_checked = reached i n ds z.checked made_call in
    let u = function_at (known_in p) (order.reached (declared_by p)) z.functions m f z.made named in
    let made = is_made (known_in p) f u.0 u.2 in
    let first = is_head (known_in p) f u.0 made in
    let own = own_numbers (declared_by p) p.items f.parameters [] f.variables (z.accepted.heads i (bound_call n ds) f z.checked made_call at_home) in
    let bound = bound_count f.variables f.parameters gs ds h.bound in
    let same = binding_same (known_in p) f.variables own f.parameters gs first.first first.more first.written count ds h.bound in
    let typed = z.accepted.functions (record { function = n; binding = ds }) f is_checked at_home in
    let length_is : u.0.parameters ≡ length first.first =
    made.parameters ∙ sym (slots_count (known_in p) f.variables (map declared_type f.parameters) first.first first.written
    ∙ length-map f.parameters declared_type) in
    record {
      typed = u.0;
      at = u.1;
      made = made;
      instance = λ b q. record { function = f; number = n; domains = ds; named = named; there = at_home; count = bound; binding = q; checked = is_checked };
      count = bound;
      binding = ap₂ (λ k ss. bound_below k ss (map argument_domain gs)) made.variables first.slots ∙ same;
      first = first.first;
      first_is = ap₂ take length_is first.slots ∙ take_front first.first first.more;
      written = first.written;
      parameters = typed.parameters;
    }

good_count : (p : ProgramTree) (w : domains.Setting) (xs : List TypedValue) (gs : List Argument) → AllGood p w xs gs → length xs ≡ length gs
good_count p w [] [] a = refl
good_count p w [] (g ∷ gs) a = absurd a
good_count p w (x ∷ xs) [] a = absurd a
good_count p w (x ∷ xs) (g ∷ gs) a = ap suc (good_count p w xs gs a.1)

taken_count : (w : Setting) (ps : List Parameter) (gs : List Argument) → ParametersTake w ps gs → length ps ≡ length gs
taken_count w [] [] h = refl
taken_count w [] (g ∷ gs) h = absurd h
taken_count w (p ∷ ps) [] h = absurd h
taken_count w (p ∷ ps) (g ∷ gs) h = ap suc (taken_count w ps gs h.1)

one_checked : (p : ProgramTree) (m : ℕ) (o : Option TypedFunctionTree) (f : TypedFunctionTree) (ds : List BoundDomain) → o ≡ Some f
    → IsCheckedInstance p (record { function = m; binding = binding_of f ds }) → AreChecked p (calls.called m o ds)
one_checked p m o f ds e h = subst (λ o. AreChecked p (calls.called m o ds)) (sym e) one
  where
    one : AreChecked p (calls.called m (Some f) ds)
    one i (inl q) = subst (IsCheckedInstance p) (sym q) h
    one i (inr q) = absurd q

pub good_defined : (p : ProgramTree) (z : Frame p) (line : ℕ) (x : List ℕ) (n m : ℕ) (f : FunctionTree) (gs : List Argument) (xs : List TypedValue)
    (t : ExpressionType) (h : IsDefinedCall (declared_by p) f gs t) → callee (declared_by p) x ≡ Some (defined n f)
    → callee (known_in p) x ≡ Some (defined m f) → Among (bound_call n h.domains) (all_calls z) → AllGood p (here z) xs gs
    → GoodCall p (here z) (record { tree = call_node line m (trees_of xs); gives = shape_returned f.returned }) t
good_defined p z line x n m f gs xs t h e k among a =
    let w = here z in
    let ds = h.domains in
    let c = is_callee p z x n m f gs t h e k among (taken_count (within (declared_by p) f ds) f.parameters gs h.taken) in
    let given_by = domains_good p w xs gs a in
    let binding : binding_of c.typed (domains.domains w (trees_of xs)) ≡ map bound_domain ds = ap (binding_of c.typed) given_by ∙ c.binding in
    let back = given_same (declared_by p) (order.reached (declared_by p)) f ds c.count f.returned c.typed.given t h.gives c.made.given in
    let taken = taken_good p w f ds (order.reached (declared_by p)) c.count checked.nothing_known f.parameters gs xs c.first c.parameters h.taken c.written a in
    let taken_there : AreTaken w (binding_of c.typed (domains.domains w (trees_of xs))) (take c.typed.parameters c.typed.slots) (trees_of xs) =
    subst (λ b. AreTaken w b (take c.typed.parameters c.typed.slots) (trees_of xs)) (sym binding)
    (subst (λ ss. AreTaken w (map bound_domain ds) ss (trees_of xs)) (sym c.first_is) taken) in
    record {
      is = returned_shape (within (declared_by p) f ds) f.returned t h.gives;
      gives = (c.typed, c.at, taken_there, sym back.shape);
      seen_by = λ v q. ap (λ o. call_domain o (domains.domains w (trees_of xs))) c.at ∙ ap (λ b. given_domain b c.typed.given) binding ∙ back.seen_by v q;
      called = both_checked p (calls.calls_of_all w (trees_of xs)) (calls.called m (slice_get z.functions m) (domains.domains w (trees_of xs)))
          (called_good p w xs gs a)
          (one_checked p m (slice_get z.functions m) c.typed (domains.domains w (trees_of xs)) c.at
          (c.instance (binding_of c.typed (domains.domains w (trees_of xs))) binding));
    }
