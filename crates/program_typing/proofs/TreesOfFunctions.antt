-- A function that is typed with some domains has a typed tree.
use Rattle.std.proofs.Common.{◌≡◌, ℕ, ◌+◌, List, [], ◌∷◌, refl, sym, ap, ap₂, ◌∙◌, Option, Some, None, Bool, true, false, cond}
use Rattle.std.specs.Prelude.{bytes_eq, option_map, option_and_then}
use Rattle.std.specs.Option.{option_or}
use Rattle.program_trees.specs.declared.statement.Domain.{Domain}
use Rattle.program_trees.specs.declared.statement.Domain.TheVariants as domain
use Rattle.program_trees.specs.declared.statement.DeclaredType.{DeclaredType}
use Rattle.program_trees.specs.declared.function.DomainVariable.{DomainVariable}
use Rattle.program_trees.specs.declared.function.Parameter.{Parameter}
use Rattle.program_trees.specs.declared.function.ResultType.{ResultType}
use Rattle.program_trees.specs.declared.function.ResultType.TheVariants as result
use Rattle.program_trees.specs.Programs.{FunctionTree}
use Rattle.domain_types.specs.declared.value_type.Protection.{Protection}
use Rattle.domain_types.specs.declared.value_type.Protection.TheVariants as protection
use Rattle.domain_types.specs.declared.value_type.ValueType.{ValueType}
use Rattle.domain_types.specs.Declarations.{Declared, number_in}
use Rattle.domain_types.specs.Settings.{Setting, bind, bound_to, domain_of, in_domain, type_written}
use Rattle.domain_types.specs.Scopes as checked
use Rattle.domain_types.specs.ExpressionTypes.{within}
use Rattle.domain_types.specs.FunctionTypes as head
use Rattle.domain_types.specs.Typing.{AreParameters, GivesResult, IsTypedFunction}
use Rattle.domain_types.proofs.TypingSteps.{there, mapped}
use Rattle.program_trees.specs.declared.kinds.SlotDomain.{SlotDomain}
use Rattle.program_trees.specs.declared.kinds.SlotDomain.TheVariants.{Public, Private, Variable}
use Rattle.program_trees.specs.declared.kinds.Slot.{Slot}
use Rattle.program_trees.specs.declared.typed_function.Returned.{Returned}
use Rattle.program_trees.specs.declared.typed_function.Returned.TheVariants.{Nothing, Value}
use Rattle.name_resolution.specs.Scopes.{FunctionScope, no_place, declaring}
use Rattle.name_resolution.specs.Values.{of_both, and_more}
use Rattle.program_trees.specs.TypedPrograms.{TypedFunctionTree}
use Rattle.name_resolution.specs.Functions.{variable_number, domain_named, slot_domain, slot_in, slots_written, given_back}
use Rattle.name_resolution.specs.Functions.{with_parameters, function_made, function_from, function_behind, typed_function, with_functions}
use Rattle.program_typing.proofs.TreesOfValues.{Agree}
use Rattle.program_typing.proofs.TreesOfStatements.{IsWritten, AreWritten, Frame, Fits, fits_declaring, names_by_all, goes_resolved_all}

-- DOMAINS

none_mapped : {A B : Type 0} (h : A → B) (o : Option A) → option_map h o ≡ None → o ≡ None
none_mapped h None e = refl
none_mapped h (Some a) e = cc

-- a name that is no domain variable is bound to nothing
pub unbound : (x : List ℕ) (vs : List DomainVariable) (ds : List Protection) → variable_number x vs ≡ None → bound_to x (bind vs ds) ≡ None
unbound x [] ds e = refl
unbound x (v ∷ vs) [] e = refl
unbound x (v ∷ vs) (d ∷ ds) e = go (bytes_eq x v.variable.text) e (unbound x vs ds)
  where
    go : (b : Bool) → cond b (Some 0) (option_map (λ k. k + 1) (variable_number x vs)) ≡ None
        → (variable_number x vs ≡ None → bound_to x (bind vs ds) ≡ None) → cond b (Some d) (bound_to x (bind vs ds)) ≡ None
    go true h rest = cc
    go false h rest = rest (none_mapped (λ k. k + 1) (variable_number x vs) h)

private_there : (o : Option ℕ) (p : Protection) → option_map protection.Private o ≡ Some p → (y : SlotDomain) × (option_map Private o ≡ Some y)
private_there None p e = cc
private_there (Some k) p e = (Private k, refl)

slot_domain_there : (d : Declared) (fs : List FunctionTree) (vs : List DomainVariable) (ds : List Protection) (x : Domain) (p : Protection)
    → domain_of (record { declared = d; bound = bind vs ds }) x ≡ Some p → (y : SlotDomain) × (slot_domain (with_functions d fs) vs x ≡ Some y)
slot_domain_there d fs vs ds domain.Public p e = (Public, refl)
slot_domain_there d fs vs ds (domain.Named x) p e = go (variable_number x.text vs) (unbound x.text vs ds)
  where
    w : Setting
    w = record { declared = d; bound = bind vs ds }

    go : (o : Option ℕ) → (o ≡ None → bound_to x.text (bind vs ds) ≡ None) → (y : SlotDomain) × (domain_named (with_functions d fs) x.text o ≡ Some y)
    go (Some k) h = (Variable k, refl)
    go None h =
        private_there (number_in x.text d.domains) p
        (ap (λ o. option_or o (option_map protection.Private (number_in x.text d.domains))) (sym (h refl)) ∙ e)

pub written_there : (d : Declared) (fs : List FunctionTree) (f : FunctionTree) (ds : List Protection) (t : DeclaredType) (v : ValueType)
    → type_written (within d f ds) t ≡ Some v → IsWritten (with_functions d fs) f.variables t
written_there d fs f ds t v e =
    let m = mapped (in_domain t) (domain_of (within d f ds) t.domain) v e in
    let y = slot_domain_there d fs f.variables ds t.domain m.0 m.1 in
    (slot_in t y.0, ap (option_map (slot_in t)) y.1)

slots_there : (k : Declared) (vs : List DomainVariable) (ts : List DeclaredType) → AreWritten k vs ts → (ss : List Slot) × (slots_written k vs ts ≡ Some ss)
slots_there k vs [] h = ([], refl)
slots_there k vs (t ∷ ts) h = let more = slots_there k vs ts h.1 in (h.0.0 ∷ more.0, ap₂ (of_both and_more) h.0.1 more.1)

-- FUNCTIONS

abbrev pub frame_of : Declared → List FunctionTree → FunctionTree → List Protection → Frame
frame_of d fs f ds = record { setting = within d f ds; known = with_functions d fs; variables = f.variables; written = written_there d fs f ds }

fits_parameters : (z : Frame) (ps : List Parameter) (s : checked.Scope) (p : FunctionScope) → AreParameters z.setting s ps → Fits z s p
    → Fits z (head.with_parameters z.setting ps s) (with_parameters ps p)
fits_parameters z [] s p h f = f
fits_parameters z (q ∷ qs) s p h f =
    let t = there (type_written z.setting q.declared) h.0 in
    fits_parameters z qs (head.with_parameter z.setting q s) (declaring q.variable q.declared p) h.2
    (fits_declaring z q.variable q.declared s p (z.written q.declared t.0 t.1) f)

given_there : (z : Frame) (f : FunctionTree) (r : ResultType) → GivesResult z.setting f r → (g : Returned) × (given_back z.known z.variables r ≡ Some g)
given_there z f result.Void h = (Nothing, refl)
given_there z f (result.Value t) h =
    let v = there (type_written z.setting t) h.0 in
    let s = z.written t v.0 v.1 in
    (Value s.0, ap (option_map Value) s.1)

pub function_there : (d : Declared) (fs : List FunctionTree) (f : FunctionTree) (ds : List Protection)
    → Agree d (with_functions d fs) (names_by_all f.body.statements) → IsTypedFunction (within d f ds) f
    → (t : TypedFunctionTree) × (typed_function (with_functions d fs) f ≡ Some t)
function_there d fs f ds a h =
    let z = frame_of d fs f ds in
    let start : Fits z checked.nothing_known no_place = record { same = record { block = tt; outer = tt }; slots = tt } in
    let within_head = fits_parameters z f.parameters checked.nothing_known no_place h.parameters start in
    let r = (goes_resolved_all z f.returned (head.with_parameters z.setting f.parameters checked.nothing_known) f.body.statements a h.body).from
    (with_parameters f.parameters no_place) within_head in
    let ss = slots_there z.known f.variables r.place.slots r.fits.slots in
    let g = given_there z f f.returned h.result in (
      function_made f r.made ss.0 g.0,
      ap (option_and_then (function_behind z.known f)) r.there ∙ ap₂ (of_both (function_from f r.made)) ss.1 g.1,
    )
