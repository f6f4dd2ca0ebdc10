-- The slots of a function have the types that are written, in the domains that the checker knows.
use Rattle.std.proofs.Common.{◌≡◌, ℕ, zero, suc, ◌+◌, List, [], ◌∷◌, ◌++◌, length, take, refl, sym, ap, ap₂, ◌∙◌, subst, Option, Some, None, Bool}
use Rattle.std.proofs.Common.{true, false, cond, arith}
use Rattle.std.specs.Prelude.{map, bytes_eq, option_map, unwrap_or}
use Rattle.std.specs.List.{slice_get}
use Rattle.std.proofs.lemmas.Option.{same_Some, slice_get-map}
use Rattle.std.specs.Option.{option_or}
use Rattle.program_trees.specs.declared.statement.Domain.{Domain}
use Rattle.program_trees.specs.declared.statement.Domain.TheVariants as domain
use Rattle.program_trees.specs.declared.statement.DeclaredType.{DeclaredType}
use Rattle.program_trees.specs.declared.function.DomainVariable.{DomainVariable}
use Rattle.program_trees.specs.Programs.{FunctionTree}
use Rattle.domain_types.specs.declared.value_type.Protection.{Protection}
use Rattle.domain_types.specs.declared.value_type.Protection.TheVariants as checked
use Rattle.domain_types.specs.declared.value_type.ValueType.{ValueType}
use Rattle.domain_types.specs.Declarations.{Declared, number_in}
use Rattle.domain_types.specs.Settings.{Setting, bind, bound_to, domain_of, in_domain, type_written}
use Rattle.domain_types.specs.ExpressionTypes.{within}
use Rattle.program_trees.specs.declared.kinds.Shape.{Shape}
use Rattle.program_trees.specs.declared.kinds.SlotDomain.{SlotDomain}
use Rattle.program_trees.specs.declared.kinds.SlotDomain.TheVariants as slot
use Rattle.program_trees.specs.declared.kinds.Slot.{Slot}
use Rattle.program_trees.specs.Shapes.{shape_of}
use Rattle.name_resolution.specs.Values.{of_both, and_more}
use Rattle.name_resolution.specs.Functions.{variable_number, domain_named, slot_domain, slot_in, slot_written, slots_written, with_functions}
use Rattle.name_resolution.proofs.SoundValues.{mapped, some_is}
use Rattle.reached_instances.specs.declared.instance.BoundDomain.{BoundDomain}
use Rattle.reached_instances.specs.declared.instance.BoundDomain.TheVariants.{Public}
use Rattle.reached_instances.specs.Domains.{domain_under}
use Rattle.program_typing.proofs.TreesOfFunctions.{unbound}
use Rattle.well_typed.specs.Laws.{bound_domain}
use Rattle.well_typed.proofs.Bindings.{slots_first}

-- ONE TYPE

-- what a value of this type is made of
abbrev pub shape_in : ValueType → Shape
shape_in v = shape_of v.element v.array

named_bound : (x : List ℕ) (vs : List DomainVariable) (ds : List Protection) (u : ℕ) → length ds ≡ length vs → variable_number x vs ≡ Some u
    → (d : Protection) × (bound_to x (bind vs ds) ≡ Some d) × (slice_get ds u ≡ Some d)
named_bound x [] ds u n e = cc
named_bound x (v ∷ vs) [] u n e = absurd (omega arith)
named_bound x (v ∷ vs) (d ∷ ds) u n e = go (bytes_eq x v.variable.text) e (λ i. named_bound x vs ds i (omega arith))
  where
    go : (b : Bool) → cond b (Some 0) (option_map (λ k. k + 1) (variable_number x vs)) ≡ Some u
        → ((i : ℕ) → variable_number x vs ≡ Some i → (c : Protection) × (bound_to x (bind vs ds) ≡ Some c) × (slice_get ds i ≡ Some c))
        → (c : Protection) × (cond b (Some d) (bound_to x (bind vs ds)) ≡ Some c) × (slice_get (d ∷ ds) u ≡ Some c)
    go true h rest = (d, refl, ap (slice_get (d ∷ ds)) (sym (same_Some 0 u h)))
    go false h rest =
        let m = mapped (λ k. k + 1) (variable_number x vs) u h in
        let r = rest m.part m.there in
        let part_is : m.part + 1 ≡ u = m.is in
        let at : u ≡ suc m.part = omega arith in
        (r.0, r.1, ap (slice_get (d ∷ ds)) at ∙ r.2)

private_same : (o : Option ℕ) (b : List BoundDomain) (d : Protection) (s : SlotDomain) → option_map checked.Private o ≡ Some d
    → option_map slot.Private o ≡ Some s → domain_under b s ≡ bound_domain d
private_same None b d s e h = cc
private_same (Some k) b d s e h = ap (domain_under b) (sym (some_is (slot.Private k) s h)) ∙ ap bound_domain (same_Some (checked.Private k) d e)

-- a domain that both sides know
domain_same : (d : Declared) (fs : List FunctionTree) (vs : List DomainVariable) (ds : List Protection) → length ds ≡ length vs
    → (x : Domain) (p : Protection) (s : SlotDomain) → domain_of (record { declared = d; bound = bind vs ds }) x ≡ Some p
    → slot_domain (with_functions d fs) vs x ≡ Some s → domain_under (map bound_domain ds) s ≡ bound_domain p
domain_same d fs vs ds n domain.Public p s e h = ap (domain_under (map bound_domain ds)) (sym (some_is slot.Public s h))
    ∙ ap bound_domain (same_Some checked.Public p e)
domain_same d fs vs ds n (domain.Named x) p s e h = go (variable_number x.text vs) refl h
  where
    w : Setting
    w = record { declared = d; bound = bind vs ds }

    known : Option Protection → Option Protection
    known o = option_or o (option_map checked.Private (number_in x.text d.domains))

    go : (o : Option ℕ) → variable_number x.text vs ≡ o → domain_named (with_functions d fs) x.text o ≡ Some s
        → domain_under (map bound_domain ds) s ≡ bound_domain p
    go (Some u) q g =
        let r = named_bound x.text vs ds u n q in
        let same : r.0 ≡ p = same_Some r.0 p (sym (ap known r.1) ∙ e) in
        ap (domain_under (map bound_domain ds)) (sym (some_is (slot.Variable u) s g))
        ∙ ap (λ o. unwrap_or o Public) (slice_get-map bound_domain ds u ∙ ap (option_map bound_domain) r.2)
        ∙ ap bound_domain same
    go None q g = private_same (number_in x.text d.domains) (map bound_domain ds) p s (sym (ap known (unbound x.text vs ds q)) ∙ e) g

-- under this binding a slot holds values of this type
pub record SlotIs (b : List BoundDomain) (s : Slot) (v : ValueType) : Type 0 where
  pub shape : s.shape ≡ shape_in v
  pub seen_by : domain_under b s.domain ≡ bound_domain v.domain

pub slot_same : (d : Declared) (fs : List FunctionTree) (f : FunctionTree) (ds : List Protection) → length ds ≡ length f.variables
    → (t : DeclaredType) (v : ValueType) (s : Slot) → type_written (within d f ds) t ≡ Some v
    → slot_written (with_functions d fs) f.variables t ≡ Some s → SlotIs (map bound_domain ds) s v
slot_same d fs f ds n t v s e h =
    let m = mapped (in_domain t) (domain_of (within d f ds) t.domain) v e in
    let r = mapped (slot_in t) (slot_domain (with_functions d fs) f.variables t.domain) s h in
    let is : SlotIs (map bound_domain ds) (slot_in t r.part) (in_domain t m.part) =
    record { shape = refl; seen_by = domain_same d fs f.variables ds n t.domain m.part r.part m.there r.there } in
    subst (λ z. SlotIs (map bound_domain ds) z v) r.is (subst (SlotIs (map bound_domain ds) (slot_in t r.part)) m.is is)

-- ALL SLOTS

pub slots_at : (k : Declared) (vs : List DomainVariable) (ts : List DeclaredType) (ss : List Slot) (n : ℕ) (t : DeclaredType)
    → slots_written k vs ts ≡ Some ss → slice_get ts n ≡ Some t → (s : Slot) × (slice_get ss n ≡ Some s) × (slot_written k vs t ≡ Some s)
slots_at k vs [] ss n t e h = cc
slots_at k vs (u ∷ us) ss zero t e h =
    let f = slots_first k vs u us ss e in
    (f.0, ap (λ (z : List Slot). slice_get z zero) (sym f.4), ap (slot_written k vs) (sym (same_Some u t h)) ∙ f.2)
slots_at k vs (u ∷ us) ss (suc n) t e h =
    let f = slots_first k vs u us ss e in
    let r = slots_at k vs us f.1 n t f.3 h in
    (r.0, ap (λ (z : List Slot). slice_get z (suc n)) (sym f.4) ∙ r.1, r.2)

pub slots_split : (k : Declared) (vs : List DomainVariable) (ts us : List DeclaredType) (ss : List Slot) → slots_written k vs (ts ++ us) ≡ Some ss
    → (first more : List Slot) × (slots_written k vs ts ≡ Some first) × (ss ≡ first ++ more)
slots_split k vs [] us ss e = ([], ss, refl, refl)
slots_split k vs (t ∷ ts) us ss e =
    let f = slots_first k vs t (ts ++ us) ss e in
    let r = slots_split k vs ts us f.1 f.3 in
    (f.0 ∷ r.0, r.1, written f.0 r.0 f.2 r.2, sym f.4 ∙ ap (λ z. f.0 ∷ z) r.3)
  where
    written : (s : Slot) (rest : List Slot) → slot_written k vs t ≡ Some s → slots_written k vs ts ≡ Some rest → slots_written k vs (t ∷ ts) ≡ Some (s ∷ rest)
    written s rest a b = ap₂ (of_both and_more) a b

pub slots_count : (k : Declared) (vs : List DomainVariable) (ts : List DeclaredType) (ss : List Slot) → slots_written k vs ts ≡ Some ss → length ss ≡ length ts
slots_count k vs [] ss e = ap length (sym (some_is [] ss e))
slots_count k vs (t ∷ ts) ss e = let f = slots_first k vs t ts ss e in ap length (sym f.4) ∙ ap suc (slots_count k vs ts f.1 f.3)

pub take_front : (xs ys : List Slot) → take (length xs) (xs ++ ys) ≡ xs
take_front [] ys = refl
take_front (x ∷ xs) ys = ap (λ z. x ∷ z) (take_front xs ys)
