-- The rules of the nodes of an expression: where a node has a type, and where it has no fault of its own.
use Rattle.std.proofs.Common.{◌≡◌, ℕ, [], ◌++◌, ◌⊎◌, inl, inr, refl, sym, ap, ap₂, subst, ◌∙◌, Some, None, Bool, true, false, is_some}
use Rattle.std.specs.Prelude.{nat_eq, not, ◌&&◌, ◌||◌, if◌then◌else◌, option_map, option_and_then}
use Rattle.std.proofs.lemmas.Bool.{eqb-true, eq-eqb, and_parts, not-true, not-false}
use Rattle.std.proofs.lemmas.Option.{none-some, same_Some}
use Rattle.sc_text.specs.declared.span.Span.{Span}
use Rattle.program_trees.specs.declared.expression.DataType.{DataType}
use Rattle.program_trees.specs.declared.expression.DataType.TheVariants as datatype
use Rattle.program_trees.specs.declared.expression.Operator.{Operator}
use Rattle.program_trees.specs.declared.expression.Operator.TheVariants.{Add, Subtract, Multiply, Divide, Remainder, Equal, NotEqual, Less, LessOrEqual}
use Rattle.program_trees.specs.declared.expression.Operator.TheVariants.{Greater, GreaterOrEqual, And, Or, Xor, AndAlso, OrElse}
use Rattle.domain_types.specs.declared.fault.TypeProblem.{TypeProblem}
use Rattle.domain_types.specs.declared.fault.TypeProblem.TheVariants.{TypeMismatch, PrivateDivision, DomainMix, PrivateIndex}
use Rattle.domain_types.specs.declared.value_type.Protection.{Protection}
use Rattle.domain_types.specs.declared.value_type.Protection.TheVariants.{Public, Private}
use Rattle.domain_types.specs.declared.value_type.ValueType.{ValueType}
use Rattle.domain_types.specs.Types.{fault_if, is_private, meet, mix_faults, is_uint64, is_number, same_element, same_dimension, flow_faults}
use Rattle.domain_types.specs.Types.{store_faults, scalar_faults, scalar_of, public_scalar}
use Rattle.domain_types.specs.ExpressionTypes.{element_result, is_division, one_private, element_of, operator_faults, result_of, operator_type}
use Rattle.domain_types.specs.ExpressionTypes.{negation_faults, negation_type, index_faults, index_type}
use Rattle.domain_types.specs.Typing.{Meets, GoesTo, FitsInto, IsNumber, OperatesOn, IsOperation, IsPublicScalar}
use Rattle.domain_types.proofs.TypingSteps.{mapped, followed, not_refused, passes, some_fault, parts, joined, not_so, nothing_if, there}

-- DOMAINS

pub meets : (d e r : Protection) → meet d e ≡ Some r → Meets d e r
meets Public e r h = sym (same_Some e r h)
meets (Private k) Public r h = sym (same_Some (Private k) r h)
meets (Private k) (Private m) r h = go (nat_eq k m) refl h
  where
    go : (b : Bool) → nat_eq k m ≡ b → (if b then Some (Private k) else None) ≡ Some r → (k ≡ m) × (r ≡ Private k)
    go true t h = (eqb-true k m t, sym (same_Some (Private k) r h))
    go false t h = absurd (none-some r h)

pub meet_from : (d e r : Protection) → Meets d e r → meet d e ≡ Some r
meet_from Public e r h = ap Some (sym h)
meet_from (Private k) Public r h = ap Some (sym h)
meet_from (Private k) (Private m) r h = ap (λ b. if b then Some (Private k) else None) (eq-eqb k m h.0) ∙ ap Some (sym h.1)

pub no_mix : (p : Span) (d e r : Protection) → Meets d e r → mix_faults p d e ≡ []
no_mix p Public e r h = refl
no_mix p (Private k) Public r h = refl
no_mix p (Private k) (Private m) r h = ap (λ b. fault_if (not b) p DomainMix) (eq-eqb k m h.0)

pub meeting : (p : Span) (d e : Protection) → mix_faults p d e ≡ [] → (r : Protection) × (meet d e ≡ Some r)
meeting p Public e h = (e, refl)
meeting p (Private k) Public h = (Private k, refl)
meeting p (Private k) (Private m) h = go (nat_eq k m) h
  where
    go : (b : Bool) → fault_if (not b) p DomainMix ≡ [] → (r : Protection) × ((if b then Some (Private k) else None) ≡ Some r)
    go true h = (Private k, refl)
    go false h = absurd (some_fault (record { place = p; problem = DomainMix }) [] h)

-- the result is private where one of the two is
pub private_result : (d e r : Protection) → Meets d e r → (is_private d || is_private e) ≡ is_private r
private_result Public e r h = ap is_private (sym h)
private_result (Private k) Public r h = ap is_private (sym h)
private_result (Private k) (Private m) r h = ap is_private (sym h.1)

-- STORES

pub same_type : (t u : ValueType) → t.domain ≡ u.domain → t.element ≡ u.element → t.array ≡ u.array → t ≡ u
same_type t u d e a = λ i. record { domain = d i; element = e i; array = a i }

element_itself : (a : DataType) → same_element a a ≡ true
element_itself datatype.Uint64 = refl
element_itself datatype.Int64 = refl
element_itself datatype.Bool = refl

pub element_same : (a b : DataType) → a ≡ b → same_element a b ≡ true
element_same a b e = ap (same_element a) (sym e) ∙ element_itself a

pub same_elements : (a b : DataType) → same_element a b ≡ true → a ≡ b
same_elements datatype.Uint64 datatype.Uint64 h = refl
same_elements datatype.Uint64 datatype.Int64 h = cc
same_elements datatype.Uint64 datatype.Bool h = cc
same_elements datatype.Int64 datatype.Uint64 h = cc
same_elements datatype.Int64 datatype.Int64 h = refl
same_elements datatype.Int64 datatype.Bool h = cc
same_elements datatype.Bool datatype.Uint64 h = cc
same_elements datatype.Bool datatype.Int64 h = cc
same_elements datatype.Bool datatype.Bool h = refl

dimension_itself : (a : Bool) → same_dimension a a ≡ true
dimension_itself true = refl
dimension_itself false = refl

dimension_same : (a b : Bool) → a ≡ b → same_dimension a b ≡ true
dimension_same a b e = ap (same_dimension a) (sym e) ∙ dimension_itself a

same_dimensions : (a b : Bool) → same_dimension a b ≡ true → a ≡ b
same_dimensions true true h = refl
same_dimensions true false h = cc
same_dimensions false true h = cc
same_dimensions false false h = refl

no_flow : (p : Span) (wanted given : Protection) → GoesTo given wanted → flow_faults p wanted given ≡ []
no_flow p wanted Public h = refl
no_flow p Public (Private k) h = absurd h
no_flow p (Private k) (Private m) h = ap (λ b. fault_if (not b) p DomainMix) (eq-eqb k m (sym h))

goes_to : (p : Span) (wanted given : Protection) → flow_faults p wanted given ≡ [] → GoesTo given wanted
goes_to p wanted Public h = tt
goes_to p Public (Private k) h = cc
goes_to p (Private k) (Private m) h = sym (eqb-true k m (not-false (nat_eq k m) (not_so (not (nat_eq k m)) p DomainMix h)))

pub no_store_fault : (p : Span) (wanted given : ValueType) → FitsInto wanted given → store_faults p wanted given ≡ []
no_store_fault p wanted given h =
    joined (fault_if (not (same_element wanted.element given.element && same_dimension wanted.array given.array)) p TypeMismatch)
    (flow_faults p wanted.domain given.domain)
    (ap₂ (λ a b. fault_if (not (a && b)) p TypeMismatch) (element_same wanted.element given.element h.0) (dimension_same wanted.array given.array h.1))
    (no_flow p wanted.domain given.domain h.2)

pub fits_into : (p : Span) (wanted given : ValueType) → store_faults p wanted given ≡ [] → FitsInto wanted given
fits_into p wanted given h =
    let hs = parts (fault_if (not (same_element wanted.element given.element && same_dimension wanted.array given.array)) p TypeMismatch)
    (flow_faults p wanted.domain given.domain) h in
    let both =
    and_parts (same_element wanted.element given.element) (same_dimension wanted.array given.array)
    (not-false (same_element wanted.element given.element && same_dimension wanted.array given.array)
    (not_so (not (same_element wanted.element given.element && same_dimension wanted.array given.array)) p TypeMismatch hs.0)) in
    (same_elements wanted.element given.element both.0, same_dimensions wanted.array given.array both.1, goes_to p wanted.domain given.domain hs.1)

-- PUBLIC SCALARS

pub not_private : (d : Protection) → is_private d ≡ false → d ≡ Public
not_private Public h = refl
not_private (Private k) h = cc

pub no_scalar_fault : (element : DataType) (problem : TypeProblem) (p : Span) (given : ValueType) → IsPublicScalar element given
    → scalar_faults element problem p given ≡ []
no_scalar_fault element problem p given h =
    ap (scalar_faults element problem p) h
    ∙ ap (λ b. fault_if (not (b && true)) p TypeMismatch ++ []) (element_itself element)

pub public_scalar_from : (element : DataType) (problem : TypeProblem) (p : Span) (given : ValueType) → scalar_faults element problem p given ≡ []
    → IsPublicScalar element given
public_scalar_from element problem p given h =
    let hs = parts (fault_if (not (same_element element given.element && not given.array)) p TypeMismatch) (fault_if (is_private given.domain) p problem) h in
    let both =
    and_parts (same_element element given.element) (not given.array)
    (not-false (same_element element given.element && not given.array)
    (not_so (not (same_element element given.element && not given.array)) p TypeMismatch hs.0)) in
    same_type given (public_scalar element)
    (not_private given.domain (not_so (is_private given.domain) p problem hs.1))
    (sym (same_elements element given.element both.0))
    (not-true given.array both.1)

-- OPERATORS

operates : (op : Operator) (a b : DataType) (d : Protection) (r : DataType) → element_result op (is_private d) a b ≡ Some r
    → is_division op && is_private d ≡ false → (a ≡ b) × OperatesOn op a d r
operates op datatype.Uint64 datatype.Int64 d r e n = absurd (none-some r e)
operates op datatype.Uint64 datatype.Bool d r e n = absurd (none-some r e)
operates op datatype.Int64 datatype.Uint64 d r e n = absurd (none-some r e)
operates op datatype.Int64 datatype.Bool d r e n = absurd (none-some r e)
operates op datatype.Bool datatype.Uint64 d r e n = absurd (none-some r e)
operates op datatype.Bool datatype.Int64 d r e n = absurd (none-some r e)
operates Add datatype.Uint64 datatype.Uint64 d r e n = (refl, (inl refl, sym (same_Some datatype.Uint64 r e)))
operates Subtract datatype.Uint64 datatype.Uint64 d r e n = (refl, (inl refl, sym (same_Some datatype.Uint64 r e)))
operates Multiply datatype.Uint64 datatype.Uint64 d r e n = (refl, (inl refl, sym (same_Some datatype.Uint64 r e)))
operates Divide datatype.Uint64 datatype.Uint64 d r e n = (refl, (inl refl, sym (same_Some datatype.Uint64 r e), not_private d n))
operates Remainder datatype.Uint64 datatype.Uint64 d r e n = (refl, (inl refl, sym (same_Some datatype.Uint64 r e), not_private d n))
operates Equal datatype.Uint64 datatype.Uint64 d r e n = (refl, sym (same_Some datatype.Bool r e))
operates NotEqual datatype.Uint64 datatype.Uint64 d r e n = (refl, sym (same_Some datatype.Bool r e))
operates Less datatype.Uint64 datatype.Uint64 d r e n = (refl, (inl refl, sym (same_Some datatype.Bool r e)))
operates LessOrEqual datatype.Uint64 datatype.Uint64 d r e n = (refl, (inl refl, sym (same_Some datatype.Bool r e)))
operates Greater datatype.Uint64 datatype.Uint64 d r e n = (refl, (inl refl, sym (same_Some datatype.Bool r e)))
operates GreaterOrEqual datatype.Uint64 datatype.Uint64 d r e n = (refl, (inl refl, sym (same_Some datatype.Bool r e)))
operates And datatype.Uint64 datatype.Uint64 Public r e n = (refl, (sym (same_Some datatype.Uint64 r e), inr (refl, refl)))
operates And datatype.Uint64 datatype.Uint64 (Private k) r e n = absurd (none-some r e)
operates Or datatype.Uint64 datatype.Uint64 Public r e n = (refl, (sym (same_Some datatype.Uint64 r e), inr (refl, refl)))
operates Or datatype.Uint64 datatype.Uint64 (Private k) r e n = absurd (none-some r e)
operates Xor datatype.Uint64 datatype.Uint64 Public r e n = (refl, (sym (same_Some datatype.Uint64 r e), inr (refl, refl)))
operates Xor datatype.Uint64 datatype.Uint64 (Private k) r e n = absurd (none-some r e)
operates AndAlso datatype.Uint64 datatype.Uint64 d r e n = absurd (none-some r e)
operates OrElse datatype.Uint64 datatype.Uint64 d r e n = absurd (none-some r e)
operates Add datatype.Int64 datatype.Int64 d r e n = (refl, (inr refl, sym (same_Some datatype.Int64 r e)))
operates Subtract datatype.Int64 datatype.Int64 d r e n = (refl, (inr refl, sym (same_Some datatype.Int64 r e)))
operates Multiply datatype.Int64 datatype.Int64 d r e n = (refl, (inr refl, sym (same_Some datatype.Int64 r e)))
operates Divide datatype.Int64 datatype.Int64 d r e n = (refl, (inr refl, sym (same_Some datatype.Int64 r e), not_private d n))
operates Remainder datatype.Int64 datatype.Int64 d r e n = (refl, (inr refl, sym (same_Some datatype.Int64 r e), not_private d n))
operates Equal datatype.Int64 datatype.Int64 d r e n = (refl, sym (same_Some datatype.Bool r e))
operates NotEqual datatype.Int64 datatype.Int64 d r e n = (refl, sym (same_Some datatype.Bool r e))
operates Less datatype.Int64 datatype.Int64 d r e n = (refl, (inr refl, sym (same_Some datatype.Bool r e)))
operates LessOrEqual datatype.Int64 datatype.Int64 d r e n = (refl, (inr refl, sym (same_Some datatype.Bool r e)))
operates Greater datatype.Int64 datatype.Int64 d r e n = (refl, (inr refl, sym (same_Some datatype.Bool r e)))
operates GreaterOrEqual datatype.Int64 datatype.Int64 d r e n = (refl, (inr refl, sym (same_Some datatype.Bool r e)))
operates And datatype.Int64 datatype.Int64 d r e n = absurd (none-some r e)
operates Or datatype.Int64 datatype.Int64 d r e n = absurd (none-some r e)
operates Xor datatype.Int64 datatype.Int64 d r e n = absurd (none-some r e)
operates AndAlso datatype.Int64 datatype.Int64 d r e n = absurd (none-some r e)
operates OrElse datatype.Int64 datatype.Int64 d r e n = absurd (none-some r e)
operates Add datatype.Bool datatype.Bool d r e n = absurd (none-some r e)
operates Subtract datatype.Bool datatype.Bool d r e n = absurd (none-some r e)
operates Multiply datatype.Bool datatype.Bool d r e n = absurd (none-some r e)
operates Divide datatype.Bool datatype.Bool d r e n = absurd (none-some r e)
operates Remainder datatype.Bool datatype.Bool d r e n = absurd (none-some r e)
operates Equal datatype.Bool datatype.Bool d r e n = (refl, sym (same_Some datatype.Bool r e))
operates NotEqual datatype.Bool datatype.Bool d r e n = (refl, sym (same_Some datatype.Bool r e))
operates Less datatype.Bool datatype.Bool d r e n = absurd (none-some r e)
operates LessOrEqual datatype.Bool datatype.Bool d r e n = absurd (none-some r e)
operates Greater datatype.Bool datatype.Bool d r e n = absurd (none-some r e)
operates GreaterOrEqual datatype.Bool datatype.Bool d r e n = absurd (none-some r e)
operates And datatype.Bool datatype.Bool d r e n = (refl, (sym (same_Some datatype.Bool r e), inl refl))
operates Or datatype.Bool datatype.Bool d r e n = (refl, (sym (same_Some datatype.Bool r e), inl refl))
operates Xor datatype.Bool datatype.Bool d r e n = (refl, (sym (same_Some datatype.Bool r e), inl refl))
operates AndAlso datatype.Bool datatype.Bool d r e n = (refl, (refl, sym (same_Some datatype.Bool r e)))
operates OrElse datatype.Bool datatype.Bool d r e n = (refl, (refl, sym (same_Some datatype.Bool r e)))

-- what an operator makes of operands of one type, and that it's no division of a private one
abbrev Operated : Operator → DataType → Protection → DataType → Type 0
Operated op a d r = (element_result op (is_private d) a a ≡ Some r) × (is_division op && is_private d ≡ false)

no_number : IsNumber datatype.Bool → ⊥
no_number (inl e) = cc
no_number (inr e) = cc

no_truth : (t : DataType) → IsNumber t → t ≡ datatype.Bool → ⊥
no_truth t n e = no_number (subst IsNumber e n)

only_public : (k : ℕ) → (datatype.Uint64 ≡ datatype.Bool) ⊎ ((datatype.Uint64 ≡ datatype.Uint64) × (Private k ≡ Public)) → ⊥
only_public k (inl e) = cc
only_public k (inr e) = let f = e.1 in cc

no_bits : (d : Protection) → (datatype.Int64 ≡ datatype.Bool) ⊎ ((datatype.Int64 ≡ datatype.Uint64) × (d ≡ Public)) → ⊥
no_bits d (inl e) = cc
no_bits d (inr e) = let f = e.0 in cc

no_public : (k : ℕ) → Private k ≡ Public → ⊥
no_public k e = cc

operated : (op : Operator) (a : DataType) (d : Protection) (r : DataType) → OperatesOn op a d r → Operated op a d r
operated Add datatype.Uint64 d r h = (ap Some (sym h.1), refl)
operated Subtract datatype.Uint64 d r h = (ap Some (sym h.1), refl)
operated Multiply datatype.Uint64 d r h = (ap Some (sym h.1), refl)
operated Divide datatype.Uint64 Public r h = (ap Some (sym h.1), refl)
operated Divide datatype.Uint64 (Private k) r h = absurd (no_public k h.2)
operated Remainder datatype.Uint64 Public r h = (ap Some (sym h.1), refl)
operated Remainder datatype.Uint64 (Private k) r h = absurd (no_public k h.2)
operated Equal datatype.Uint64 d r h = (ap Some (sym h), refl)
operated NotEqual datatype.Uint64 d r h = (ap Some (sym h), refl)
operated Less datatype.Uint64 d r h = (ap Some (sym h.1), refl)
operated LessOrEqual datatype.Uint64 d r h = (ap Some (sym h.1), refl)
operated Greater datatype.Uint64 d r h = (ap Some (sym h.1), refl)
operated GreaterOrEqual datatype.Uint64 d r h = (ap Some (sym h.1), refl)
operated And datatype.Uint64 Public r h = (ap Some (sym h.0), refl)
operated And datatype.Uint64 (Private k) r h = absurd (only_public k h.1)
operated Or datatype.Uint64 Public r h = (ap Some (sym h.0), refl)
operated Or datatype.Uint64 (Private k) r h = absurd (only_public k h.1)
operated Xor datatype.Uint64 Public r h = (ap Some (sym h.0), refl)
operated Xor datatype.Uint64 (Private k) r h = absurd (only_public k h.1)
operated AndAlso datatype.Uint64 d r h = absurd (no_truth datatype.Uint64 (inl refl) h.0)
operated OrElse datatype.Uint64 d r h = absurd (no_truth datatype.Uint64 (inl refl) h.0)
operated Add datatype.Int64 d r h = (ap Some (sym h.1), refl)
operated Subtract datatype.Int64 d r h = (ap Some (sym h.1), refl)
operated Multiply datatype.Int64 d r h = (ap Some (sym h.1), refl)
operated Divide datatype.Int64 Public r h = (ap Some (sym h.1), refl)
operated Divide datatype.Int64 (Private k) r h = absurd (no_public k h.2)
operated Remainder datatype.Int64 Public r h = (ap Some (sym h.1), refl)
operated Remainder datatype.Int64 (Private k) r h = absurd (no_public k h.2)
operated Equal datatype.Int64 d r h = (ap Some (sym h), refl)
operated NotEqual datatype.Int64 d r h = (ap Some (sym h), refl)
operated Less datatype.Int64 d r h = (ap Some (sym h.1), refl)
operated LessOrEqual datatype.Int64 d r h = (ap Some (sym h.1), refl)
operated Greater datatype.Int64 d r h = (ap Some (sym h.1), refl)
operated GreaterOrEqual datatype.Int64 d r h = (ap Some (sym h.1), refl)
operated And datatype.Int64 d r h = absurd (no_bits d h.1)
operated Or datatype.Int64 d r h = absurd (no_bits d h.1)
operated Xor datatype.Int64 d r h = absurd (no_bits d h.1)
operated AndAlso datatype.Int64 d r h = absurd (no_truth datatype.Int64 (inr refl) h.0)
operated OrElse datatype.Int64 d r h = absurd (no_truth datatype.Int64 (inr refl) h.0)
operated Add datatype.Bool d r h = absurd (no_number h.0)
operated Subtract datatype.Bool d r h = absurd (no_number h.0)
operated Multiply datatype.Bool d r h = absurd (no_number h.0)
operated Divide datatype.Bool d r h = absurd (no_number h.0)
operated Remainder datatype.Bool d r h = absurd (no_number h.0)
operated Equal datatype.Bool d r h = (ap Some (sym h), refl)
operated NotEqual datatype.Bool d r h = (ap Some (sym h), refl)
operated Less datatype.Bool d r h = absurd (no_number h.0)
operated LessOrEqual datatype.Bool d r h = absurd (no_number h.0)
operated Greater datatype.Bool d r h = absurd (no_number h.0)
operated GreaterOrEqual datatype.Bool d r h = absurd (no_number h.0)
operated And datatype.Bool d r h = (ap Some (sym h.0), refl)
operated Or datatype.Bool d r h = (ap Some (sym h.0), refl)
operated Xor datatype.Bool d r h = (ap Some (sym h.0), refl)
operated AndAlso datatype.Bool d r h = (ap Some (sym h.1), refl)
operated OrElse datatype.Bool d r h = (ap Some (sym h.1), refl)

-- the three faults of an operator, one by one
record Unfaulted (p : Span) (op : Operator) (a b : ValueType) : Type 0 where
  known : is_some (element_of op a b) ≡ true
  undivided : is_division op && one_private a b ≡ false
  unmixed : mix_faults p a.domain b.domain ≡ []

unfaulted : (p : Span) (op : Operator) (a b : ValueType) → operator_faults p op a b ≡ [] → Unfaulted p op a b
unfolding operator_faults
unfaulted p op a b h =
    let first = fault_if (not (is_some (element_of op a b))) p TypeMismatch in
    let second = fault_if (is_division op && one_private a b) p PrivateDivision in
    let hs = parts (first ++ second) (mix_faults p a.domain b.domain) h in
    let two = parts first second hs.0 in
    record {
      known = not-false (is_some (element_of op a b)) (not_so (not (is_some (element_of op a b))) p TypeMismatch two.0);
      undivided = not_so (is_division op && one_private a b) p PrivateDivision two.1;
      unmixed = hs.1;
    }

pub operation : (p : Span) (op : Operator) (a b z : ValueType) → operator_type p op a b ≡ Some z → IsOperation op a b z
unfolding operator_type
operation p op a b z h =
    let n = not_refused (operator_faults p op a b)
    (option_and_then (λ element. option_map (result_of a b element) (meet a.domain b.domain)) (element_of op a b)) z h in
    let m = followed (λ element. option_map (result_of a b element) (meet a.domain b.domain)) (element_of op a b) z n.1 in
    let k = mapped (result_of a b m.0) (meet a.domain b.domain) z m.2 in
    let u = unfaulted p op a b n.0 in
    let domain_is : z.domain ≡ k.0 = ap (λ t. t.domain) k.2 in
    let met : Meets a.domain b.domain z.domain = subst (Meets a.domain b.domain) (sym domain_is) (meets a.domain b.domain k.0 k.1) in
    let who : one_private a b ≡ is_private z.domain = private_result a.domain b.domain z.domain met in
    let made : element_result op (is_private z.domain) a.element b.element ≡ Some z.element =
    sym (ap (λ s. element_result op s a.element b.element) who) ∙ m.1 ∙ ap Some (sym (ap (λ t. t.element) k.2)) in
    let o = operates op a.element b.element z.domain z.element made (sym (ap (λ s. is_division op && s) who) ∙ u.undivided) in
    record { same = o.0; meets = met; operates = o.1; dimension = ap (λ t. t.array) k.2 }

no_operator_fault : (p : Span) (op : Operator) (a b z : ValueType) → IsOperation op a b z
    → (element_of op a b ≡ Some z.element) × (operator_faults p op a b ≡ [])
unfolding operator_faults
no_operator_fault p op a b z h =
    let o = operated op a.element z.domain z.element h.operates in
    let who : one_private a b ≡ is_private z.domain = private_result a.domain b.domain z.domain h.meets in
    let made : element_of op a b ≡ Some z.element =
    ap (λ s. element_result op s a.element b.element) who ∙ ap (element_result op (is_private z.domain) a.element) (sym h.same) ∙ o.0 in
    let first = fault_if (not (is_some (element_of op a b))) p TypeMismatch in
    let second = fault_if (is_division op && one_private a b) p PrivateDivision in (
      made,
      joined (first ++ second) (mix_faults p a.domain b.domain)
          (joined first second
          (ap (λ r. fault_if (not (is_some r)) p TypeMismatch) made)
          (nothing_if (is_division op && one_private a b) p PrivateDivision (ap (λ s. is_division op && s) who ∙ o.1)))
          (no_mix p a.domain b.domain z.domain h.meets),
    )

pub operator_from : (p : Span) (op : Operator) (a b z : ValueType) → IsOperation op a b z → operator_type p op a b ≡ Some z
unfolding operator_type
operator_from p op a b z h =
    let o = no_operator_fault p op a b z h in
    let result = option_and_then (λ element. option_map (result_of a b element) (meet a.domain b.domain)) (element_of op a b) in
    passes (operator_faults p op a b) result o.1
    ∙ ap (option_and_then (λ element. option_map (result_of a b element) (meet a.domain b.domain))) o.0
    ∙ ap (option_map (result_of a b z.element)) (meet_from a.domain b.domain z.domain h.meets)
    ∙ ap Some (same_type (result_of a b z.element z.domain) z refl refl (sym h.dimension))

pub no_operator_faults : (p : Span) (op : Operator) (a b z : ValueType) → IsOperation op a b z → operator_faults p op a b ≡ []
no_operator_faults p op a b z h = (no_operator_fault p op a b z h).1

pub operator_typed : (p : Span) (op : Operator) (a b : ValueType) → operator_faults p op a b ≡ [] → (z : ValueType) × (operator_type p op a b ≡ Some z)
unfolding operator_type
operator_typed p op a b h =
    let u = unfaulted p op a b h in
    let e = there (element_of op a b) u.known in
    let d = meeting p a.domain b.domain u.unmixed in
    let result = option_and_then (λ element. option_map (result_of a b element) (meet a.domain b.domain)) (element_of op a b) in (
      result_of a b e.0 d.0,
      passes (operator_faults p op a b) result h
          ∙ ap (option_and_then (λ element. option_map (result_of a b element) (meet a.domain b.domain))) e.1
          ∙ ap (option_map (result_of a b e.0)) d.1,
    )

-- NOT

pub word : (t : DataType) → is_uint64 t ≡ true → t ≡ datatype.Uint64
word datatype.Uint64 h = refl
word datatype.Int64 h = cc
word datatype.Bool h = cc

pub counted : (t : DataType) → is_number t ≡ true → IsNumber t
counted datatype.Uint64 h = inl refl
counted datatype.Int64 h = inr refl
counted datatype.Bool h = cc

pub counts : (t : DataType) → IsNumber t → is_number t ≡ true
counts t (inl e) = ap is_number e
counts t (inr e) = ap is_number e

not_counted : (t : DataType) → is_number t ≡ false → t ≡ datatype.Bool
not_counted datatype.Uint64 h = cc
not_counted datatype.Int64 h = cc
not_counted datatype.Bool h = refl

pub negated : (p : Span) (t x : ValueType) → negation_type p t ≡ Some x → (t.element ≡ datatype.Bool) × (x ≡ t)
unfolding negation_type negation_faults
negated p t x h =
    let n = not_refused (negation_faults p t) (Some t) x h in
    (not_counted t.element (not_so (is_number t.element) p TypeMismatch n.0), sym (same_Some t x n.1))

pub no_negation_fault : (p : Span) (t : ValueType) → t.element ≡ datatype.Bool → negation_faults p t ≡ []
unfolding negation_faults
no_negation_fault p t h = ap (λ e. fault_if (is_number e) p TypeMismatch) h

pub negation_typed : (p : Span) (t : ValueType) → negation_faults p t ≡ [] → negation_type p t ≡ Some t
unfolding negation_type
negation_typed p t h = passes (negation_faults p t) (Some t) h

-- INDICES

pub indexable : (p q : Span) (x y : ValueType) → index_faults p q x y ≡ [] → (x.array ≡ true) × IsPublicScalar datatype.Uint64 y
unfolding index_faults
indexable p q x y h =
    let hs = parts (fault_if (not x.array) p TypeMismatch) (scalar_faults datatype.Uint64 PrivateIndex q y) h in
    (not-false x.array (not_so (not x.array) p TypeMismatch hs.0), public_scalar_from datatype.Uint64 PrivateIndex q y hs.1)

pub no_index_fault : (p q : Span) (x y : ValueType) → x.array ≡ true → IsPublicScalar datatype.Uint64 y → index_faults p q x y ≡ []
unfolding index_faults
no_index_fault p q x y a s =
    joined (fault_if (not x.array) p TypeMismatch) (scalar_faults datatype.Uint64 PrivateIndex q y)
    (ap (λ b. fault_if (not b) p TypeMismatch) a)
    (no_scalar_fault datatype.Uint64 PrivateIndex q y s)

pub indexed_faultless : (p q : Span) (x y z : ValueType) → index_type p q x y ≡ Some z → (index_faults p q x y ≡ []) × (z ≡ scalar_of x)
unfolding index_type
indexed_faultless p q x y z h =
    let n = not_refused (index_faults p q x y) (Some (scalar_of x)) z h in (n.0, sym (same_Some (scalar_of x) z n.1))

pub index_typed : (p q : Span) (x y : ValueType) → index_faults p q x y ≡ [] → index_type p q x y ≡ Some (scalar_of x)
unfolding index_type
index_typed p q x y h = passes (index_faults p q x y) (Some (scalar_of x)) h
