-- The rules of calls: where a call has a type, and where it has no fault of its own.
use Rattle.std.proofs.Common.{◌≡◌, ℕ, List, [], ◌∷◌, ◌++◌, refl, sym, ap, ap₂, subst, ◌∙◌, Option, Some, None, Bool, true, false, length, ◌+◌, suc, arith}
use Rattle.std.specs.Prelude.{◌≢◌, nat_eq, not, ◌&&◌, if◌then◌else◌, option_map, option_and_then, bytes_eq}
use Rattle.std.specs.List.{slice_get}
use Rattle.std.proofs.lemmas.Bool.{eqb-true, eq-eqb, and_parts, not-false}
use Rattle.std.proofs.lemmas.Option.{none-some, same_Some}
use Rattle.sc_text.specs.declared.span.Span.{Span}
use Rattle.program_trees.specs.declared.expression.DataType.TheVariants as datatype
use Rattle.program_trees.specs.declared.statement.Identifier.{Identifier}
use Rattle.program_trees.specs.declared.function.DomainVariable.{DomainVariable}
use Rattle.program_trees.specs.declared.function.Parameter.{Parameter}
use Rattle.program_trees.specs.Programs.{FunctionTree}
use Rattle.domain_types.specs.declared.fault.TypeProblem.TheVariants.{UnknownName, TypeMismatch, DomainMix, BadArity}
use Rattle.domain_types.specs.declared.fault.TypeFault.{TypeFault}
use Rattle.domain_types.specs.declared.value_type.Argument.{Argument}
use Rattle.domain_types.specs.declared.value_type.Protection.{Protection}
use Rattle.domain_types.specs.declared.value_type.Protection.TheVariants.{Public, Private}
use Rattle.domain_types.specs.declared.value_type.ValueType.{ValueType}
use Rattle.domain_types.specs.declared.value_type.ExpressionType.{ExpressionType}
use Rattle.domain_types.specs.declared.value_type.ExpressionType.TheVariants.{Value}
use Rattle.declarations.specs.declared.built_in.BuiltIn.{BuiltIn}
use Rattle.declarations.specs.declared.built_in.BuiltIn.TheVariants.{Size, Cat, Sum, BitExtract, Lookup}
use Rattle.domain_types.specs.Types.{fault_at, fault_if, of_typed, is_private, meet, mix_faults, is_uint64, is_number, same_element, store_faults}
use Rattle.domain_types.specs.Types.{scalar_of, public_scalar}
use Rattle.declarations.specs.Declarations.{Declared, Callee, built_in, defined, built_in_named, function_named}
use Rattle.domain_types.specs.Settings.{Setting, type_written}
use Rattle.declarations.specs.Declarations.{callee_or_function, callee}
use Rattle.domain_types.specs.ExpressionTypes.{one_private, array_of, may_look_up, looked_up, built_in_faults, built_in_result}
use Rattle.domain_types.specs.ExpressionTypes.{bound_by, binding_by, bound_faults, binding_faults, argument_faults, within}
use Rattle.domain_types.specs.ExpressionTypes.{defined_faults, result_type, callee_faults, callee_type, call_faults, call_type}
use Rattle.domain_types.specs.Typing.{Meets, IsNumber, IsBuiltInCall, IsOfKind, AreBound, ParameterTakes, ParametersTake, IsDefinedCall, IsCall}
use Rattle.domain_types.proofs.Bindings.{with_domain}
use Rattle.domain_types.proofs.TypingSteps.{mapped, followed, not_refused, passes, some_fault, parts, joined, not_so, said, says_nothing}
use Rattle.domain_types.proofs.TypingRules.{meets, meet_from, no_mix, meeting, same_type, element_same, same_elements, no_store_fault, fits_into, word}
use Rattle.domain_types.proofs.TypingRules.{counted, counts, private_result}

-- BUILT-IN FUNCTIONS

-- two arrays of one data type
cat_taken : (p : Span) (a b : ValueType) → fault_if (not (a.array && b.array && same_element a.element b.element)) p TypeMismatch ≡ []
    → (a.array ≡ true) × (b.array ≡ true) × (a.element ≡ b.element)
cat_taken p a b h =
    let all = not-false (a.array && b.array && same_element a.element b.element)
    (not_so (not (a.array && b.array && same_element a.element b.element)) p TypeMismatch h) in
    let both = and_parts (a.array && b.array) (same_element a.element b.element) all in
    let arrays = and_parts a.array b.array both.0 in
    (arrays.0, arrays.1, same_elements a.element b.element both.1)

cat_takes : (p : Span) (a b : ValueType) → a.array ≡ true → b.array ≡ true → a.element ≡ b.element
    → fault_if (not (a.array && b.array && same_element a.element b.element)) p TypeMismatch ≡ []
cat_takes p a b x y e =
    ap₂ (λ s t. fault_if (not (s && t && same_element a.element b.element)) p TypeMismatch) x y
    ∙ ap (λ t. fault_if (not t) p TypeMismatch) (element_same a.element b.element e)

sum_taken : (p : Span) (a : ValueType) → fault_if (not (a.array && is_number a.element)) p TypeMismatch ≡ [] → (a.array ≡ true) × IsNumber a.element
sum_taken p a h =
    let both = and_parts a.array (is_number a.element)
    (not-false (a.array && is_number a.element) (not_so (not (a.array && is_number a.element)) p TypeMismatch h)) in
    (both.0, counted a.element both.1)

-- an array of numbers and uint64 indices, of which one is private
record LooksUp (a i : ValueType) : Type 0 where
  array : a.array ≡ true
  numbers : IsNumber a.element
  indices : i.element ≡ datatype.Uint64
  hidden : one_private a i ≡ true

lookup_taken : (p : Span) (a i : ValueType) → fault_if (not (may_look_up a i)) p TypeMismatch ≡ [] → LooksUp a i
lookup_taken p a i h =
    let all = not-false (may_look_up a i) (not_so (not (may_look_up a i)) p TypeMismatch h) in
    let three = and_parts (a.array && is_number a.element && is_uint64 i.element) (one_private a i) all in
    let two = and_parts (a.array && is_number a.element) (is_uint64 i.element) three.0 in
    let first = and_parts a.array (is_number a.element) two.0 in
    record { array = first.0; numbers = counted a.element first.1; indices = word i.element two.1; hidden = three.1 }

lookup_takes : (p : Span) (a i : ValueType) → LooksUp a i → fault_if (not (may_look_up a i)) p TypeMismatch ≡ []
lookup_takes p a i h =
    ap₂ (λ s n. fault_if (not (s && n && is_uint64 i.element && one_private a i)) p TypeMismatch) h.array (counts a.element h.numbers)
    ∙ ap₂ (λ w o. fault_if (not (w && o)) p TypeMismatch) (ap is_uint64 h.indices) h.hidden

-- a private domain isn't public
not_public : (d : Protection) → is_private d ≡ true → d ≢ Public
not_public Public h = cc
not_public (Private k) h = λ e. cc

is_hidden : (d : Protection) → d ≢ Public → is_private d ≡ true
is_hidden Public h = absurd (h refl)
is_hidden (Private k) h = refl

pub built_in_call : (p : Span) (b : BuiltIn) (gs : List Argument) (t : ValueType) → built_in_faults p b gs ≡ [] → built_in_result b gs ≡ Some t
    → IsBuiltInCall b gs t
unfolding built_in_faults built_in_result
built_in_call p Size [] t h r = absurd (some_fault (record { place = p; problem = BadArity }) [] h)
built_in_call p Size (a ∷ []) t h r =
    (not-false a.given.array (not_so (not a.given.array) p TypeMismatch h), sym (same_Some (public_scalar datatype.Uint64) t r))
built_in_call p Size (a ∷ b ∷ gs) t h r = absurd (some_fault (record { place = p; problem = BadArity }) [] h)
built_in_call p Cat [] t h r = absurd (some_fault (record { place = p; problem = BadArity }) [] h)
built_in_call p Cat (a ∷ []) t h r = absurd (some_fault (record { place = p; problem = BadArity }) [] h)
built_in_call p Cat (a ∷ b ∷ []) t h r =
    let hs = parts (fault_if (not (a.given.array && b.given.array && same_element a.given.element b.given.element)) p TypeMismatch)
    (mix_faults p a.given.domain b.given.domain) h in
    let taken = cat_taken p a.given b.given hs.0 in
    let m = mapped (array_of a.given.element) (meet a.given.domain b.given.domain) t r in (
      taken.0,
      taken.1,
      taken.2,
      ap (λ z. z.element) m.2,
      ap (λ z. z.array) m.2,
      subst (Meets a.given.domain b.given.domain) (sym (ap (λ z. z.domain) m.2)) (meets a.given.domain b.given.domain m.0 m.1),
    )
built_in_call p Cat (a ∷ b ∷ c ∷ gs) t h r = absurd (some_fault (record { place = p; problem = BadArity }) [] h)
built_in_call p Sum [] t h r = absurd (some_fault (record { place = p; problem = BadArity }) [] h)
built_in_call p Sum (a ∷ []) t h r = let taken = sum_taken p a.given h in (taken.0, taken.1, sym (same_Some (scalar_of a.given) t r))
built_in_call p Sum (a ∷ b ∷ gs) t h r = absurd (some_fault (record { place = p; problem = BadArity }) [] h)
built_in_call p BitExtract [] t h r = absurd (some_fault (record { place = p; problem = BadArity }) [] h)
built_in_call p BitExtract (a ∷ []) t h r = (
  word a.given.element (not-false (is_uint64 a.given.element) (not_so (not (is_uint64 a.given.element)) p TypeMismatch h)),
  sym (same_Some (array_of datatype.Bool a.given.domain) t r),
)
built_in_call p BitExtract (a ∷ b ∷ gs) t h r = absurd (some_fault (record { place = p; problem = BadArity }) [] h)
built_in_call p Lookup [] t h r = absurd (some_fault (record { place = p; problem = BadArity }) [] h)
built_in_call p Lookup (a ∷ []) t h r = absurd (some_fault (record { place = p; problem = BadArity }) [] h)
built_in_call p Lookup (a ∷ i ∷ []) t h r =
    let hs = parts (fault_if (not (may_look_up a.given i.given)) p TypeMismatch) (mix_faults p a.given.domain i.given.domain) h in
    let taken = lookup_taken p a.given i.given hs.0 in
    let m = mapped (looked_up a.given i.given) (meet a.given.domain i.given.domain) t r in
    let met : Meets a.given.domain i.given.domain t.domain =
    subst (Meets a.given.domain i.given.domain) (sym (ap (λ z. z.domain) m.2)) (meets a.given.domain i.given.domain m.0 m.1) in (
      taken.array,
      taken.numbers,
      taken.indices,
      ap (λ z. z.element) m.2,
      ap (λ z. z.array) m.2,
      met,
      not_public t.domain (sym (private_result a.given.domain i.given.domain t.domain met) ∙ taken.hidden),
    )
built_in_call p Lookup (a ∷ i ∷ b ∷ gs) t h r = absurd (some_fault (record { place = p; problem = BadArity }) [] h)

pub built_in_from : (p : Span) (b : BuiltIn) (gs : List Argument) (t : ValueType) → IsBuiltInCall b gs t
    → (built_in_faults p b gs ≡ []) × (built_in_result b gs ≡ Some t)
unfolding built_in_faults built_in_result
built_in_from p Size [] t h = absurd h
built_in_from p Size (a ∷ []) t h = (ap (λ s. fault_if (not s) p TypeMismatch) h.0, ap Some (sym h.1))
built_in_from p Size (a ∷ b ∷ gs) t h = absurd h
built_in_from p Cat [] t h = absurd h
built_in_from p Cat (a ∷ []) t h = absurd h
built_in_from p Cat (a ∷ b ∷ []) t h = (
  joined (fault_if (not (a.given.array && b.given.array && same_element a.given.element b.given.element)) p TypeMismatch)
      (mix_faults p a.given.domain b.given.domain)
      (cat_takes p a.given b.given h.0 h.1 h.2)
      (no_mix p a.given.domain b.given.domain t.domain h.5),
  ap (option_map (array_of a.given.element)) (meet_from a.given.domain b.given.domain t.domain h.5)
      ∙ ap Some (same_type (array_of a.given.element t.domain) t refl (sym h.3) (sym h.4)),
)
built_in_from p Cat (a ∷ b ∷ c ∷ gs) t h = absurd h
built_in_from p Sum [] t h = absurd h
built_in_from p Sum (a ∷ []) t h = (
  ap₂ (λ s n. fault_if (not (s && n)) p TypeMismatch) h.0 (counts a.given.element h.1),
  ap Some (sym h.2),
)
built_in_from p Sum (a ∷ b ∷ gs) t h = absurd h
built_in_from p BitExtract [] t h = absurd h
built_in_from p BitExtract (a ∷ []) t h = (ap (λ e. fault_if (not (is_uint64 e)) p TypeMismatch) h.0, ap Some (sym h.1))
built_in_from p BitExtract (a ∷ b ∷ gs) t h = absurd h
built_in_from p Lookup [] t h = absurd h
built_in_from p Lookup (a ∷ []) t h = absurd h
built_in_from p Lookup (a ∷ i ∷ []) t h =
    let hidden : one_private a.given i.given ≡ true =
    private_result a.given.domain i.given.domain t.domain h.5 ∙ is_hidden t.domain h.6 in (
      joined (fault_if (not (may_look_up a.given i.given)) p TypeMismatch) (mix_faults p a.given.domain i.given.domain)
          (lookup_takes p a.given i.given (record { array = h.0; numbers = h.1; indices = h.2; hidden = hidden }))
          (no_mix p a.given.domain i.given.domain t.domain h.5),
      ap (option_map (looked_up a.given i.given)) (meet_from a.given.domain i.given.domain t.domain h.5)
          ∙ ap Some (same_type (looked_up a.given i.given t.domain) t refl (sym h.3) (sym h.4)),
    )
built_in_from p Lookup (a ∷ i ∷ b ∷ gs) t h = absurd h

pub built_in_typed : (p : Span) (b : BuiltIn) (gs : List Argument) → built_in_faults p b gs ≡ [] → (t : ValueType) × (built_in_result b gs ≡ Some t)
unfolding built_in_faults built_in_result
built_in_typed p Size gs h = (public_scalar datatype.Uint64, refl)
built_in_typed p Cat [] h = absurd (some_fault (record { place = p; problem = BadArity }) [] h)
built_in_typed p Cat (a ∷ []) h = absurd (some_fault (record { place = p; problem = BadArity }) [] h)
built_in_typed p Cat (a ∷ b ∷ []) h =
    let hs = parts (fault_if (not (a.given.array && b.given.array && same_element a.given.element b.given.element)) p TypeMismatch)
    (mix_faults p a.given.domain b.given.domain) h in
    let m = meeting p a.given.domain b.given.domain hs.1 in
    (array_of a.given.element m.0, ap (option_map (array_of a.given.element)) m.1)
built_in_typed p Cat (a ∷ b ∷ c ∷ gs) h = absurd (some_fault (record { place = p; problem = BadArity }) [] h)
built_in_typed p Sum [] h = absurd (some_fault (record { place = p; problem = BadArity }) [] h)
built_in_typed p Sum (a ∷ []) h = (scalar_of a.given, refl)
built_in_typed p Sum (a ∷ b ∷ gs) h = absurd (some_fault (record { place = p; problem = BadArity }) [] h)
built_in_typed p BitExtract [] h = absurd (some_fault (record { place = p; problem = BadArity }) [] h)
built_in_typed p BitExtract (a ∷ []) h = (array_of datatype.Bool a.given.domain, refl)
built_in_typed p BitExtract (a ∷ b ∷ gs) h = absurd (some_fault (record { place = p; problem = BadArity }) [] h)
built_in_typed p Lookup [] h = absurd (some_fault (record { place = p; problem = BadArity }) [] h)
built_in_typed p Lookup (a ∷ []) h = absurd (some_fault (record { place = p; problem = BadArity }) [] h)
built_in_typed p Lookup (a ∷ i ∷ []) h =
    let hs = parts (fault_if (not (may_look_up a.given i.given)) p TypeMismatch) (mix_faults p a.given.domain i.given.domain) h in
    let m = meeting p a.given.domain i.given.domain hs.1 in
    (looked_up a.given i.given m.0, ap (option_map (looked_up a.given i.given)) m.1)
built_in_typed p Lookup (a ∷ i ∷ b ∷ gs) h = absurd (some_fault (record { place = p; problem = BadArity }) [] h)

-- DOMAIN VARIABLES

of_kind : (p : Span) (k : Option Identifier) (d : Protection) → bound_faults p k (Some d) ≡ [] → IsOfKind k d
of_kind p None d h = tt
of_kind p (Some k) Public h = absurd (some_fault (record { place = p; problem = TypeMismatch }) [] h)
of_kind p (Some k) (Private m) h = λ e. cc

no_bound_fault : (p : Span) (k : Option Identifier) (d : Protection) → IsOfKind k d → bound_faults p k (Some d) ≡ []
no_bound_fault p None Public h = refl
no_bound_fault p None (Private m) h = refl
no_bound_fault p (Some k) Public h = absurd (h refl)
no_bound_fault p (Some k) (Private m) h = refl

domain_there : (p : Span) (k : Option Identifier) (o : Option Protection) → bound_faults p k o ≡ [] → (d : Protection) × (o ≡ Some d)
domain_there p k None h = absurd (some_fault (record { place = p; problem = DomainMix }) [] h)
domain_there p k (Some d) h = (d, refl)

domains_with : (o : Option Protection) (os : Option (List Protection)) (ds : List Protection) → with_domain o os ≡ Some ds
    → (d : Protection) × (es : List Protection) × (o ≡ Some d) × (os ≡ Some es) × (ds ≡ d ∷ es)
domains_with None os ds h = absurd (none-some ds h)
domains_with (Some d) None ds h = absurd (none-some ds h)
domains_with (Some d) (Some es) ds h = (d, es, refl, refl, sym (same_Some (d ∷ es) ds h))

are_bound : (p : Span) (vs : List DomainVariable) (ps : List Parameter) (gs : List Argument) (ds : List Protection) → binding_faults p vs ps gs ≡ []
    → binding_by vs ps gs ≡ Some ds → AreBound vs ps gs ds
are_bound p [] ps gs ds h b = sym (same_Some [] ds b)
are_bound p (v ∷ vs) ps gs ds h b =
    let hs = parts (bound_faults p v.kind (bound_by v.variable.text ps gs)) (binding_faults p vs ps gs) h in
    let w = domains_with (bound_by v.variable.text ps gs) (binding_by vs ps gs) ds b in
    let kind_is : IsOfKind v.kind w.0 = of_kind p v.kind w.0 (sym (ap (bound_faults p v.kind) w.2) ∙ hs.0) in
    let there : AreBound (v ∷ vs) ps gs (w.0 ∷ w.1) = (w.2, kind_is, are_bound p vs ps gs w.1 hs.1 w.3) in
    subst (AreBound (v ∷ vs) ps gs) (sym w.4) there

bound_from_typing : (p : Span) (vs : List DomainVariable) (ps : List Parameter) (gs : List Argument) (ds : List Protection) → AreBound vs ps gs ds
    → (binding_faults p vs ps gs ≡ []) × (binding_by vs ps gs ≡ Some ds)
bound_from_typing p [] ps gs ds h = (refl, ap Some (sym h))
bound_from_typing p (v ∷ vs) ps gs [] h = absurd h
bound_from_typing p (v ∷ vs) ps gs (d ∷ ds) h =
    let rest = bound_from_typing p vs ps gs ds h.2 in (
      joined (bound_faults p v.kind (bound_by v.variable.text ps gs)) (binding_faults p vs ps gs)
          (ap (bound_faults p v.kind) h.0 ∙ no_bound_fault p v.kind d h.1) rest.0,
      ap₂ with_domain h.0 rest.1,
    )

domains_there : (p : Span) (vs : List DomainVariable) (ps : List Parameter) (gs : List Argument) → binding_faults p vs ps gs ≡ []
    → (ds : List Protection) × (binding_by vs ps gs ≡ Some ds)
domains_there p [] ps gs h = ([], refl)
domains_there p (v ∷ vs) ps gs h =
    let hs = parts (bound_faults p v.kind (bound_by v.variable.text ps gs)) (binding_faults p vs ps gs) h in
    let d = domain_there p v.kind (bound_by v.variable.text ps gs) hs.0 in
    let ds = domains_there p vs ps gs hs.1 in
    (d.0 ∷ ds.0, ap₂ with_domain d.1 ds.1)

-- PARAMETERS

takes : (p : Span) (wanted : Option ValueType) (given : ValueType) → of_typed wanted (λ t. store_faults p t given) ≡ [] → ParameterTakes wanted given
takes p None given h = tt
takes p (Some t) given h = fits_into p t given h

taken_by : (p : Span) (wanted : Option ValueType) (given : ValueType) → ParameterTakes wanted given → of_typed wanted (λ t. store_faults p t given) ≡ []
taken_by p None given h = refl
taken_by p (Some t) given h = no_store_fault p t given h

all_take : (w : Setting) (ps : List Parameter) (gs : List Argument) → length ps ≡ length gs → argument_faults w ps gs ≡ [] → ParametersTake w ps gs
all_take w [] [] n h = tt
all_take w [] (g ∷ gs) n h = absurd (omega arith)
all_take w (p ∷ ps) [] n h = absurd (omega arith)
all_take w (p ∷ ps) (g ∷ gs) n h =
    let hs = parts (of_typed (type_written w p.declared) (λ wanted. store_faults g.place wanted g.given)) (argument_faults w ps gs) h in
    (takes g.place (type_written w p.declared) g.given hs.0, all_take w ps gs (omega arith) hs.1)

all_taken : (w : Setting) (ps : List Parameter) (gs : List Argument) → ParametersTake w ps gs → (length ps ≡ length gs) × (argument_faults w ps gs ≡ [])
all_taken w [] [] h = (refl, refl)
all_taken w [] (g ∷ gs) h = absurd h
all_taken w (p ∷ ps) [] h = absurd h
all_taken w (p ∷ ps) (g ∷ gs) h =
    let rest = all_taken w ps gs h.1 in
    let n = rest.0 in (
      omega arith,
      joined (of_typed (type_written w p.declared) (λ wanted. store_faults g.place wanted g.given)) (argument_faults w ps gs)
          (taken_by g.place (type_written w p.declared) g.given h.0) rest.1,
    )

-- FUNCTIONS OF THE PROGRAM

-- a call with as many arguments as parameters, none of which is at fault
record Unfaulted (d : Declared) (p : Span) (f : FunctionTree) (gs : List Argument) : Type 0 where
  count : length f.parameters ≡ length gs
  bound : binding_faults p f.variables f.parameters gs ≡ []
  taken : of_typed (binding_by f.variables f.parameters gs) (λ ds. argument_faults (within d f ds) f.parameters gs) ≡ []

unfaulted : (d : Declared) (p : Span) (f : FunctionTree) (gs : List Argument) → defined_faults d p f gs ≡ [] → Unfaulted d p f gs
unfolding defined_faults
unfaulted d p f gs h = go (nat_eq (length f.parameters) (length gs)) refl h
  where
    own : List TypeFault
    own = binding_faults p f.variables f.parameters gs
        ++ of_typed (binding_by f.variables f.parameters gs) (λ ds. argument_faults (within d f ds) f.parameters gs)

    go : (b : Bool) → nat_eq (length f.parameters) (length gs) ≡ b → (if b then own else fault_at p BadArity) ≡ [] → Unfaulted d p f gs
    go true n h =
        let hs = parts (binding_faults p f.variables f.parameters gs)
        (of_typed (binding_by f.variables f.parameters gs) (λ ds. argument_faults (within d f ds) f.parameters gs)) h in
        record { count = eqb-true (length f.parameters) (length gs) n; bound = hs.0; taken = hs.1 }
    go false n h = absurd (some_fault (record { place = p; problem = BadArity }) [] h)

pub defined_call : (d : Declared) (p : Span) (f : FunctionTree) (gs : List Argument) (t : ExpressionType) → defined_faults d p f gs ≡ []
    → option_and_then (λ ds. result_type (within d f ds) f.returned) (binding_by f.variables f.parameters gs) ≡ Some t → IsDefinedCall d f gs t
defined_call d p f gs t h r =
    let u = unfaulted d p f gs h in
    let m = followed (λ ds. result_type (within d f ds) f.returned) (binding_by f.variables f.parameters gs) t r in
    record {
      domains = m.0;
      bound = are_bound p f.variables f.parameters gs m.0 u.bound m.1;
      taken = all_take (within d f m.0) f.parameters gs u.count
          (said (binding_by f.variables f.parameters gs) (λ ds. argument_faults (within d f ds) f.parameters gs) m.0 m.1 u.taken);
      gives = m.2;
    }

pub defined_from : (d : Declared) (p : Span) (f : FunctionTree) (gs : List Argument) (t : ExpressionType) → IsDefinedCall d f gs t
    → (defined_faults d p f gs ≡ []) × (option_and_then (λ ds. result_type (within d f ds) f.returned) (binding_by f.variables f.parameters gs) ≡ Some t)
unfolding defined_faults
defined_from d p f gs t h =
    let b = bound_from_typing p f.variables f.parameters gs h.domains h.bound in
    let a = all_taken (within d f h.domains) f.parameters gs h.taken in
    let rest = of_typed (binding_by f.variables f.parameters gs) (λ ds. argument_faults (within d f ds) f.parameters gs) in (
      ap (λ s. if s then binding_faults p f.variables f.parameters gs ++ rest else fault_at p BadArity) (eq-eqb (length f.parameters) (length gs) a.0)
          ∙ joined (binding_faults p f.variables f.parameters gs) rest b.0
          (says_nothing (binding_by f.variables f.parameters gs) (λ ds. argument_faults (within d f ds) f.parameters gs) h.domains b.1 a.1),
      ap (option_and_then (λ ds. result_type (within d f ds) f.returned)) b.1 ∙ h.gives,
    )

pub defined_bound : (d : Declared) (p : Span) (f : FunctionTree) (gs : List Argument) → defined_faults d p f gs ≡ []
    → (ds : List Protection) × (binding_by f.variables f.parameters gs ≡ Some ds)
defined_bound d p f gs h = domains_there p f.variables f.parameters gs (unfaulted d p f gs h).bound

-- CALLS

pub is_call : (d : Declared) (p : Span) (c : Callee) (gs : List Argument) (t : ExpressionType) → callee_type d p c gs ≡ Some t → IsCall d c gs t
is_call d p (built_in b) gs t h =
    let n = not_refused (built_in_faults p b gs) (option_map Value (built_in_result b gs)) t h in
    let m = mapped Value (built_in_result b gs) t n.1 in
    (m.0, built_in_call p b gs m.0 n.0 m.1, m.2)
is_call d p (defined k f) gs t h =
    let n = not_refused (defined_faults d p f gs)
    (option_and_then (λ ds. result_type (within d f ds) f.returned) (binding_by f.variables f.parameters gs)) t h in
    defined_call d p f gs t n.0 n.1

-- a call with a type has no fault
pub record Called (d : Declared) (p : Span) (c : Callee) (gs : List Argument) (t : ExpressionType) : Type 0 where
  pub faultless : callee_faults d p c gs ≡ []
  pub gives : callee_type d p c gs ≡ Some t

pub called : (d : Declared) (p : Span) (c : Callee) (gs : List Argument) (t : ExpressionType) → IsCall d c gs t → Called d p c gs t
called d p (built_in b) gs t h =
    let r = built_in_from p b gs h.0 h.1 in
    record {
      faultless = r.0;
      gives = passes (built_in_faults p b gs) (option_map Value (built_in_result b gs)) r.0 ∙ ap (option_map Value) r.1 ∙ ap Some (sym h.2);
    }
called d p (defined k f) gs t h =
    let r = defined_from d p f gs t h in
    record {
      faultless = r.0;
      gives = passes (defined_faults d p f gs)
          (option_and_then (λ ds. result_type (within d f ds) f.returned) (binding_by f.variables f.parameters gs)) r.0 ∙ r.1;
    }

-- what a call with a type is of
pub known_call : (d : Declared) (p : Span) (o : Option Callee) (gs : Option (List Argument)) (t : ExpressionType) → call_type d p o gs ≡ Some t
    → (c : Callee) × (hs : List Argument) × (o ≡ Some c) × (gs ≡ Some hs) × (callee_type d p c hs ≡ Some t)
unfolding call_type
known_call d p None gs t h = absurd (none-some t h)
known_call d p (Some c) gs t h = let f = followed (callee_type d p c) gs t h in (c, f.0, refl, f.1, f.2)

-- where the callee and the arguments are known
pub call_typed : (d : Declared) (p : Span) (o : Option Callee) (a : Option (List Argument)) (c : Callee) (gs : List Argument) (t : ExpressionType)
    → o ≡ Some c → a ≡ Some gs → callee_type d p c gs ≡ Some t → call_type d p o a ≡ Some t
unfolding call_type
call_typed d p o a c gs t e h n = ap₂ (call_type d p) e h ∙ n

pub call_said : (d : Declared) (p : Span) (o : Option Callee) (a : Option (List Argument)) (c : Callee) (gs : List Argument) → o ≡ Some c
    → a ≡ Some gs → call_faults d p o a ≡ [] → callee_faults d p c gs ≡ []
unfolding call_faults
call_said d p o a c gs e h n = sym (ap₂ (call_faults d p) e h) ∙ n

pub call_says_nothing : (d : Declared) (p : Span) (o : Option Callee) (a : Option (List Argument)) (c : Callee) (gs : List Argument) → o ≡ Some c
    → a ≡ Some gs → callee_faults d p c gs ≡ [] → call_faults d p o a ≡ []
unfolding call_faults
call_says_nothing d p o a c gs e h n = ap₂ (call_faults d p) e h ∙ n

pub callee_known : (d : Declared) (p : Span) (o : Option Callee) (gs : Option (List Argument)) → call_faults d p o gs ≡ [] → (c : Callee) × (o ≡ Some c)
unfolding call_faults
callee_known d p None gs h = absurd (some_fault (record { place = p; problem = UnknownName }) [] h)
callee_known d p (Some c) gs h = (c, refl)

-- THE FUNCTION THAT A NAME MEANS

function_there : (x : List ℕ) (n k : ℕ) (fs : List FunctionTree) (g : FunctionTree) → function_named x n fs ≡ Some (defined k g)
    → (m : ℕ) × (k ≡ n + m) × (slice_get fs m ≡ Some g)
function_there x n k [] g e = absurd (none-some (defined k g) e)
function_there x n k (f ∷ fs) g e = go (bytes_eq x f.function.text) e (function_there x (n + 1) k fs g)
  where
    go : (b : Bool) → (if b then Some (defined n f) else function_named x (n + 1) fs) ≡ Some (defined k g)
        → (function_named x (n + 1) fs ≡ Some (defined k g) → (m : ℕ) × (k ≡ n + 1 + m) × (slice_get fs m ≡ Some g))
        → (m : ℕ) × (k ≡ n + m) × (slice_get (f ∷ fs) m ≡ Some g)
    go true e rest =
        let here : n ≡ k = cc in
        let same : f ≡ g = cc in
        (0, omega arith, ap Some same)
    go false e rest =
        let r = rest e in
        let there = r.1 in
        (suc r.0, omega arith, r.2)

pub function_at : (d : Declared) (x : List ℕ) (k : ℕ) (g : FunctionTree) → callee d x ≡ Some (defined k g) → slice_get d.functions k ≡ Some g
function_at d x k g e = go (built_in_named d x) e
  where
    go : (o : Option BuiltIn) → callee_or_function d x o ≡ Some (defined k g) → slice_get d.functions k ≡ Some g
    go (Some b) e = cc
    go None e = let m = function_there x 0 k d.functions g e in let at = m.1 in
        subst (λ n. slice_get d.functions n ≡ Some g) (sym (let s : k ≡ m.0 = omega arith in s)) m.2
