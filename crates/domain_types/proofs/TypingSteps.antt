-- What a step of the rules says of its parts where it gives a type, and where it finds no fault.
use Rattle.std.proofs.Common.{◌≡◌, List, [], ◌∷◌, ◌++◌, refl, sym, ap, ◌∙◌, Option, Some, None, Bool, true, false, is_some}
use Rattle.std.specs.Prelude.{option_map, option_and_then}
use Rattle.std.proofs.lemmas.Option.{none-some, same_Some}
use Rattle.sc_text.specs.declared.span.Span.{Span}
use Rattle.domain_types.specs.declared.fault.TypeProblem.{TypeProblem}
use Rattle.domain_types.specs.declared.fault.TypeFault.{TypeFault}
use Rattle.domain_types.specs.declared.value_type.ValueType.{ValueType}
use Rattle.domain_types.specs.declared.value_type.ExpressionType.{ExpressionType}
use Rattle.domain_types.specs.declared.value_type.ExpressionType.TheVariants.{Void, Value}
use Rattle.domain_types.specs.Types.{fault_if, of_typed, unless_refused, value_of}
use Rattle.domain_types.specs.ExpressionTypes.{of_two}

-- TYPES

pub there : {A : Type 0} (o : Option A) → is_some o ≡ true → (a : A) × (o ≡ Some a)
there None h = cc
there (Some a) h = (a, refl)

pub mapped : {A B : Type 0} (h : A → B) (o : Option A) (b : B) → option_map h o ≡ Some b → (a : A) × (o ≡ Some a) × (b ≡ h a)
mapped h None b e = absurd (none-some b e)
mapped h (Some a) b e = (a, refl, sym (same_Some (h a) b e))

pub followed : {A B : Type 0} (h : A → Option B) (o : Option A) (b : B) → option_and_then h o ≡ Some b → (a : A) × (o ≡ Some a) × (h a ≡ Some b)
followed h None b e = absurd (none-some b e)
followed h (Some a) b e = (a, refl, e)

pub paired : {A : Type 0} (rule : ValueType → ValueType → Option A) (a b : Option ValueType) (c : A) → of_two rule a b ≡ Some c
    → (x y : ValueType) × (a ≡ Some x) × (b ≡ Some y) × (rule x y ≡ Some c)
paired rule None b c e = absurd (none-some c e)
paired rule (Some x) None c e = absurd (none-some c e)
paired rule (Some x) (Some y) c e = (x, y, refl, refl, e)

pub valued : (o : Option ExpressionType) (x : ValueType) → value_of o ≡ Some x → o ≡ Some (Value x)
valued None x e = absurd (none-some x e)
valued (Some Void) x e = absurd (none-some x e)
valued (Some (Value t)) x e = ap (λ v. Some (Value v)) (same_Some t x e)

pub not_refused : {A : Type 0} (fs : List TypeFault) (o : Option A) (a : A) → unless_refused fs o ≡ Some a → (fs ≡ []) × (o ≡ Some a)
not_refused [] o a e = (refl, e)
not_refused (f ∷ fs) o a e = absurd (none-some a e)

pub passes : {A : Type 0} (fs : List TypeFault) (o : Option A) → fs ≡ [] → unless_refused fs o ≡ o
passes fs o e = ap (λ gs. unless_refused gs o) e

-- FAULTS

pub some_fault : (f : TypeFault) (fs : List TypeFault) → f ∷ fs ≡ [] → ⊥
some_fault f fs e = cc

pub parts : (fs gs : List TypeFault) → fs ++ gs ≡ [] → (fs ≡ []) × (gs ≡ [])
parts [] gs e = (refl, e)
parts (f ∷ fs) gs e = absurd (some_fault f (fs ++ gs) e)

pub joined : (fs gs : List TypeFault) → fs ≡ [] → gs ≡ [] → fs ++ gs ≡ []
joined fs gs e h = ap (λ z. z ++ gs) e ∙ h

pub not_so : (b : Bool) (p : Span) (problem : TypeProblem) → fault_if b p problem ≡ [] → b ≡ false
not_so true p problem e = absurd (some_fault (record { place = p; problem = problem }) [] e)
not_so false p problem e = refl

pub nothing_if : (b : Bool) (p : Span) (problem : TypeProblem) → b ≡ false → fault_if b p problem ≡ []
nothing_if b p problem e = ap (λ c. fault_if c p problem) e

pub said : {A : Type 0} (o : Option A) (say : A → List TypeFault) (a : A) → o ≡ Some a → of_typed o say ≡ [] → say a ≡ []
said o say a t e = sym (ap (λ z. of_typed z say) t) ∙ e

pub says_nothing : {A : Type 0} (o : Option A) (say : A → List TypeFault) (a : A) → o ≡ Some a → say a ≡ [] → of_typed o say ≡ []
says_nothing o say a t e = ap (λ z. of_typed z say) t ∙ e

-- LISTS
