-- An expression has a type by the relation where it has that type by computation; then it has no fault. And where it has no
-- fault it has a type, if the variables and the functions that it names have theirs.
use Rattle.std.proofs.Common.{◌≡◌, ℕ, List, [], ◌∷◌, ◌++◌, inl, refl, sym, ap, ap₂, subst, subst₂, ◌∙◌, Option, Some, None, is_some, IsTrue, ◌↔◌}
use Rattle.std.specs.Prelude.{option_map, option_and_then}
use Rattle.std.specs.List.{slice_get}
use Rattle.std.proofs.lemmas.Option.{none-some, same_Some}
use Rattle.sc_text.specs.declared.span.Span.{Span}
use Rattle.program_trees.specs.declared.expression.DataType.TheVariants as datatype
use Rattle.program_trees.specs.Tree.{Tree, Trees, number, truth, variable, call, index, parentheses, negation, cast, binary, declassify, argument}
use Rattle.program_trees.specs.Tree.{publish, none, also}
use Rattle.program_trees.specs.Heights.{place_of}
use Rattle.program_trees.specs.Programs.{FunctionTree}
use Rattle.domain_types.specs.declared.fault.TypeProblem.TheVariants.{UnknownName, TypeMismatch, ArgumentPlace}
use Rattle.domain_types.specs.declared.fault.TypeFault.{TypeFault}
use Rattle.domain_types.specs.declared.value_type.Argument.{Argument}
use Rattle.domain_types.specs.declared.value_type.Protection.{Protection}
use Rattle.domain_types.specs.declared.value_type.ValueType.{ValueType}
use Rattle.domain_types.specs.declared.value_type.ExpressionType.{ExpressionType}
use Rattle.domain_types.specs.declared.value_type.ExpressionType.TheVariants.{Void, Value}
use Rattle.domain_types.specs.Types.{of_typed, value_of, void_faults, scalar_of, public_scalar}
use Rattle.declarations.specs.Declarations.{Declared, Callee, built_in, defined, callee}
use Rattle.domain_types.specs.Settings.{Setting}
use Rattle.domain_types.specs.Scopes.{Variable, Scope, variable_named}
use Rattle.domain_types.specs.ExpressionTypes.{variable_type, variable_faults, operator_faults, operator_type, negation_faults, negation_type}
use Rattle.domain_types.specs.ExpressionTypes.{cast_type, declassified, index_faults, index_type, with_argument, built_in_faults, built_in_result}
use Rattle.domain_types.specs.ExpressionTypes.{binding_by, within, defined_faults, result_type, callee_faults, callee_type, call_faults, of_two}
use Rattle.domain_types.specs.ExpressionTypes.{type_of, arguments_of, value_type, faults, argument_list_faults}
use Rattle.domain_types.specs.ExpressionTypes.{value_faults}
use Rattle.domain_types.specs.Reached.{Call, binding_of, call_of, calls_of, calls_of_all}
use Rattle.sc_text.specs.Lists.{Among}
use Rattle.domain_types.specs.Typing.{HasType, HaveTypes}
use Rattle.sc_text.proofs.Lists.{among_left, among_right}
use Rattle.domain_types.proofs.TypingSteps.{there, mapped, followed, paired, valued, passes, some_fault, parts, joined, says_nothing, said}
use Rattle.domain_types.proofs.TypingRules.{operation, operator_from, no_operator_faults, operator_typed, negated, no_negation_fault, negation_typed}
use Rattle.domain_types.proofs.TypingRules.{indexable, no_index_fault, indexed_faultless, index_typed}
use Rattle.domain_types.proofs.TypingCalls.{built_in_typed, defined_bound, is_call, called, known_call, call_typed, call_said, call_says_nothing}
use Rattle.domain_types.proofs.TypingCalls.{callee_known, function_at}

-- THE PREMISES

-- each name that means a variable means one with a type
abbrev pub Known : Scope → Type 0
Known s = (x : List ℕ) (v : Variable) → variable_named s x ≡ Some v → IsTrue (is_some v.held)

-- a call that is not refused is of a function whose result is in a known domain
abbrev pub GivesType : Declared → Call → Type 0
GivesType d c =
    (f : FunctionTree) (ds : List Protection) → slice_get d.functions c.function ≡ Some f → c.binding ≡ Some ds →
    IsTrue (is_some (result_type (within d f ds) f.returned))

abbrev pub GiveTypes : Declared → List Call → Type 0
GiveTypes d cs = (c : Call) → Among c cs → GivesType d c

-- without the first a variable of an unknown domain has no type, and no fault where it's used
unknown_is_silent : (w : Setting) (s : Scope) (p : Span) (x : List ℕ) (v : Variable) → variable_named s x ≡ Some v → v.held ≡ None
    → (type_of w s (variable p x) ≡ None) × (faults w s (variable p x) ≡ [])
unknown_is_silent w s p x v e h = (ap (λ o. option_map Value (variable_type o)) e ∙ ap (option_map Value) h, ap (variable_faults p) e)

pub earlier_calls : (d : Declared) (bs cs : List Call) → GiveTypes d (bs ++ cs) → GiveTypes d bs
earlier_calls d bs cs g = λ c m. g c (among_left c bs cs m)

pub later_calls : (d : Declared) (bs cs : List Call) → GiveTypes d (bs ++ cs) → GiveTypes d cs
later_calls d bs cs g = λ c m. g c (among_right c bs cs m)

-- FROM THE TYPE TO THE RELATION

arguments_with : (p : Span) (v : Option ValueType) (o : Option (List Argument)) (gs : List Argument) → with_argument p v o ≡ Some gs
    → (t : ValueType) × (hs : List Argument) × (v ≡ Some t) × (o ≡ Some hs) × (gs ≡ record { place = p; given = t } ∷ hs)
arguments_with p None o gs e = absurd (none-some gs e)
arguments_with p (Some t) None gs e = absurd (none-some gs e)
arguments_with p (Some t) (Some hs) gs e = (t, hs, refl, refl, sym (same_Some (record { place = p; given = t } ∷ hs) gs e))

mutual
  pub has_type : (w : Setting) (s : Scope) (e : Tree) (t : ExpressionType) → type_of w s e ≡ Some t → HasType w s e t
  has_type w s (number p n) t h = sym (same_Some (Value (public_scalar datatype.Uint64)) t h)
  has_type w s (truth p b) t h = sym (same_Some (Value (public_scalar datatype.Bool)) t h)
  has_type w s (variable p x) t h = mapped Value (variable_type (variable_named s x)) t h
  has_type w s (call p x es) t h =
      let k = known_call w.declared p (callee w.declared x) (arguments_of w s es) t h in
      (k.0, k.1, k.2, have_types w s es k.1 k.3, is_call w.declared p k.0 k.1 t k.4)
  has_type w s (index p a i) t h =
      let m = mapped Value (of_two (index_type p (place_of i)) (value_of (type_of w s a)) (value_of (type_of w s i))) t h in
      let q = paired (index_type p (place_of i)) (value_of (type_of w s a)) (value_of (type_of w s i)) m.0 m.1 in
      let n = indexed_faultless p (place_of i) q.0 q.1 m.0 q.4 in
      let r = indexable p (place_of i) q.0 q.1 n.0 in (
        q.0,
        q.1,
        has_type w s a (Value q.0) (valued (type_of w s a) q.0 q.2),
        has_type w s i (Value q.1) (valued (type_of w s i) q.1 q.3),
        r.0,
        r.1,
        m.2 ∙ ap Value n.1,
      )
  has_type w s (parentheses p e) t h =
      let m = mapped Value (value_of (type_of w s e)) t h in
      (m.0, has_type w s e (Value m.0) (valued (type_of w s e) m.0 m.1), m.2)
  has_type w s (negation p e) t h =
      let m = mapped Value (option_and_then (negation_type p) (value_of (type_of w s e))) t h in
      let f = followed (negation_type p) (value_of (type_of w s e)) m.0 m.1 in
      let n = negated p f.0 m.0 f.2 in
      (f.0, has_type w s e (Value f.0) (valued (type_of w s e) f.0 f.1), n.0, m.2 ∙ ap Value n.1)
  has_type w s (cast p element e) t h =
      let m = mapped Value (option_map (cast_type element) (value_of (type_of w s e))) t h in
      let f = mapped (cast_type element) (value_of (type_of w s e)) m.0 m.1 in
      (f.0, has_type w s e (Value f.0) (valued (type_of w s e) f.0 f.1), m.2 ∙ ap Value f.2)
  has_type w s (binary p op a b) t h =
      let m = mapped Value (of_two (operator_type p op) (value_of (type_of w s a)) (value_of (type_of w s b))) t h in
      let q = paired (operator_type p op) (value_of (type_of w s a)) (value_of (type_of w s b)) m.0 m.1 in (
        q.0,
        q.1,
        m.0,
        has_type w s a (Value q.0) (valued (type_of w s a) q.0 q.2),
        has_type w s b (Value q.1) (valued (type_of w s b) q.1 q.3),
        operation p op q.0 q.1 m.0 q.4,
        m.2,
      )
  has_type w s (declassify p e) t h =
      let m = mapped Value (option_map declassified (value_of (type_of w s e))) t h in
      let f = mapped declassified (value_of (type_of w s e)) m.0 m.1 in
      (f.0, has_type w s e (Value f.0) (valued (type_of w s e) f.0 f.1), m.2 ∙ ap Value f.2)
  has_type w s (argument p x) t h = absurd (none-some t h)
  has_type w s (publish p x e) t h =
      let m = mapped (λ x. Void) (value_of (type_of w s e)) t h in
      (m.0, has_type w s e (Value m.0) (valued (type_of w s e) m.0 m.1), m.2)

  pub have_types : (w : Setting) (s : Scope) (es : Trees) (gs : List Argument) → arguments_of w s es ≡ Some gs → HaveTypes w s es gs
  have_types w s none gs h = sym (same_Some [] gs h)
  have_types w s (also e es) gs h =
      let a = arguments_with (place_of e) (value_of (type_of w s e)) (arguments_of w s es) gs h in
      let there : HaveTypes w s (also e es) (record { place = place_of e; given = a.0 } ∷ a.1) =
      (has_type w s e (Value a.0) (valued (type_of w s e) a.0 a.2), refl, have_types w s es a.1 a.3) in
      subst (HaveTypes w s (also e es)) (sym a.4) there

-- AND BACK

-- the type of a node of two parts
of_both : (rule : ValueType → ValueType → Option ValueType) (a b : Option ExpressionType) (x y z : ValueType) → a ≡ Some (Value x)
    → b ≡ Some (Value y) → rule x y ≡ Some z → option_map Value (of_two rule (value_of a) (value_of b)) ≡ Some (Value z)
of_both rule a b x y z e h n = ap₂ (λ m k. option_map Value (of_two rule (value_of m) (value_of k))) e h ∙ ap (option_map Value) n

mutual
  pub type_from : (w : Setting) (s : Scope) (e : Tree) (t : ExpressionType) → HasType w s e t → type_of w s e ≡ Some t
  type_from w s (number p n) t h = ap Some (sym h)
  type_from w s (truth p b) t h = ap Some (sym h)
  type_from w s (variable p x) t h = ap (option_map Value) h.1 ∙ ap Some (sym h.2)
  type_from w s (call p x es) t h =
      call_typed w.declared p (callee w.declared x) (arguments_of w s es) h.0 h.1 t h.2 (types_from w s es h.1 h.3) (called w.declared p h.0 h.1 t h.4).gives
  type_from w s (index p a i) t h =
      of_both (index_type p (place_of i)) (type_of w s a) (type_of w s i) h.0 h.1 (scalar_of h.0) (type_from w s a (Value h.0) h.2)
      (type_from w s i (Value h.1) h.3)
      (index_typed p (place_of i) h.0 h.1 (no_index_fault p (place_of i) h.0 h.1 h.4 h.5))
      ∙ ap Some (sym h.6)
  type_from w s (parentheses p e) t h = ap (λ x. option_map Value (value_of x)) (type_from w s e (Value h.0) h.1) ∙ ap Some (sym h.2)
  type_from w s (negation p e) t h =
      ap (λ x. option_map Value (option_and_then (negation_type p) (value_of x))) (type_from w s e (Value h.0) h.1)
      ∙ ap (option_map Value) (negation_typed p h.0 (no_negation_fault p h.0 h.2))
      ∙ ap Some (sym h.3)
  type_from w s (cast p element e) t h =
      ap (λ x. option_map Value (option_map (cast_type element) (value_of x))) (type_from w s e (Value h.0) h.1) ∙ ap Some (sym h.2)
  type_from w s (binary p op a b) t h =
      of_both (operator_type p op) (type_of w s a) (type_of w s b) h.0 h.1 h.2 (type_from w s a (Value h.0) h.3) (type_from w s b (Value h.1) h.4)
      (operator_from p op h.0 h.1 h.2 h.5)
      ∙ ap Some (sym h.6)
  type_from w s (declassify p e) t h =
      ap (λ x. option_map Value (option_map declassified (value_of x))) (type_from w s e (Value h.0) h.1) ∙ ap Some (sym h.2)
  type_from w s (argument p x) t h = absurd h
  type_from w s (publish p x e) t h = ap (λ y. option_map (λ x. Void) (value_of y)) (type_from w s e (Value h.0) h.1) ∙ ap Some (sym h.2)

  pub types_from : (w : Setting) (s : Scope) (es : Trees) (gs : List Argument) → HaveTypes w s es gs → arguments_of w s es ≡ Some gs
  types_from w s none gs h = ap Some (sym h)
  types_from w s (also e es) [] h = absurd h
  types_from w s (also e es) (g ∷ gs) h =
      ap₂ (λ x y. with_argument (place_of e) (value_of x) y) (type_from w s e (Value g.given) h.0) (types_from w s es gs h.2)
      ∙ ap (λ q. Some (record { place = q; given = g.given } ∷ gs)) (sym h.1)

-- WHAT HAS A TYPE HAS NO FAULT

pub value_typed : (w : Setting) (s : Scope) (e : Tree) (x : ValueType) → HasType w s e (Value x) → value_type w s e ≡ Some x
value_typed w s e x h = ap value_of (type_from w s e (Value x) h)

as_value_faultless : (w : Setting) (s : Scope) (e : Tree) (x : ValueType) → HasType w s e (Value x) → faults w s e ≡ [] → value_faults w s e ≡ []
as_value_faultless w s e x h n =
    joined (faults w s e) (void_faults (place_of e) (type_of w s e)) n (ap (void_faults (place_of e)) (type_from w s e (Value x) h))

-- of two parts with types
both_say : (w : Setting) (s : Scope) (a b : Tree) (say : ValueType → ValueType → List TypeFault) (x y : ValueType) → HasType w s a (Value x)
    → HasType w s b (Value y) → say x y ≡ [] → of_typed (value_type w s a) (λ t. of_typed (value_type w s b) (say t)) ≡ []
both_say w s a b say x y ha hb n =
    says_nothing (value_type w s a) (λ t. of_typed (value_type w s b) (say t)) x (value_typed w s a x ha)
    (says_nothing (value_type w s b) (say x) y (value_typed w s b y hb) n)

pub variable_there : (p : Span) (o : Option Variable) (v : ValueType) → variable_type o ≡ Some v → variable_faults p o ≡ []
variable_there p None v h = absurd (none-some v h)
variable_there p (Some x) v h = refl

mutual
  pub no_faults : (w : Setting) (s : Scope) (e : Tree) (t : ExpressionType) → HasType w s e t → faults w s e ≡ []
  no_faults w s (number p n) t h = refl
  no_faults w s (truth p b) t h = refl
  no_faults w s (variable p x) t h = variable_there p (variable_named s x) h.0 h.1
  no_faults w s (call p x es) t h =
      joined (argument_list_faults w s es) (call_faults w.declared p (callee w.declared x) (arguments_of w s es))
      (no_argument_faults w s es h.1 h.3)
      (call_says_nothing w.declared p (callee w.declared x) (arguments_of w s es) h.0 h.1 h.2 (types_from w s es h.1 h.3)
      (called w.declared p h.0 h.1 t h.4).faultless)
  no_faults w s (index p a i) t h =
      joined (value_faults w s a ++ value_faults w s i) (of_typed (value_type w s a) (λ x. of_typed (value_type w s i) (index_faults p (place_of i) x)))
      (joined (value_faults w s a) (value_faults w s i)
      (as_value_faultless w s a h.0 h.2 (no_faults w s a (Value h.0) h.2))
      (as_value_faultless w s i h.1 h.3 (no_faults w s i (Value h.1) h.3)))
      (both_say w s a i (index_faults p (place_of i)) h.0 h.1 h.2 h.3 (no_index_fault p (place_of i) h.0 h.1 h.4 h.5))
  no_faults w s (parentheses p e) t h = as_value_faultless w s e h.0 h.1 (no_faults w s e (Value h.0) h.1)
  no_faults w s (negation p e) t h =
      joined (value_faults w s e) (of_typed (value_type w s e) (negation_faults p))
      (as_value_faultless w s e h.0 h.1 (no_faults w s e (Value h.0) h.1))
      (says_nothing (value_type w s e) (negation_faults p) h.0 (value_typed w s e h.0 h.1) (no_negation_fault p h.0 h.2))
  no_faults w s (cast p element e) t h = as_value_faultless w s e h.0 h.1 (no_faults w s e (Value h.0) h.1)
  no_faults w s (binary p op a b) t h =
      joined (value_faults w s a ++ value_faults w s b) (of_typed (value_type w s a) (λ x. of_typed (value_type w s b) (operator_faults p op x)))
      (joined (value_faults w s a) (value_faults w s b)
      (as_value_faultless w s a h.0 h.3 (no_faults w s a (Value h.0) h.3))
      (as_value_faultless w s b h.1 h.4 (no_faults w s b (Value h.1) h.4)))
      (both_say w s a b (operator_faults p op) h.0 h.1 h.3 h.4 (no_operator_faults p op h.0 h.1 h.2 h.5))
  no_faults w s (declassify p e) t h = as_value_faultless w s e h.0 h.1 (no_faults w s e (Value h.0) h.1)
  no_faults w s (argument p x) t h = absurd h
  no_faults w s (publish p x e) t h = as_value_faultless w s e h.0 h.1 (no_faults w s e (Value h.0) h.1)

  pub no_argument_faults : (w : Setting) (s : Scope) (es : Trees) (gs : List Argument) → HaveTypes w s es gs → argument_list_faults w s es ≡ []
  no_argument_faults w s none gs h = refl
  no_argument_faults w s (also e es) [] h = absurd h
  no_argument_faults w s (also e es) (g ∷ gs) h =
      joined (value_faults w s e) (argument_list_faults w s es)
      (as_value_faultless w s e g.given h.0 (no_faults w s e (Value g.given) h.0))
      (no_argument_faults w s es gs h.2)

pub no_value_faults : (w : Setting) (s : Scope) (e : Tree) (x : ValueType) → HasType w s e (Value x) → value_faults w s e ≡ []
no_value_faults w s e x h = as_value_faultless w s e x h (no_faults w s e (Value x) h)

-- the relation holds exactly where the type is computed and there is no fault
pub has_type_exactly : (w : Setting) (s : Scope) (e : Tree) (t : ExpressionType) → HasType w s e t ↔ (type_of w s e ≡ Some t) × (faults w s e ≡ [])
has_type_exactly w s e t = (λ h. (type_from w s e t h, no_faults w s e t h), λ h. has_type w s e t h.0)

pub has_value_exactly : (w : Setting) (s : Scope) (e : Tree) (x : ValueType) → HasType w s e (Value x) ↔ (value_type w s e ≡ Some x) × (value_faults w s e ≡ [])
has_value_exactly w s e x =
    (λ h. (value_typed w s e x h, no_value_faults w s e x h), λ h. has_type w s e (Value x) (valued (type_of w s e) x h.0))

pub one_type : (w : Setting) (s : Scope) (e : Tree) (t u : ExpressionType) → HasType w s e t → HasType w s e u → t ≡ u
one_type w s e t u h k = same_Some t u (sym (type_from w s e t h) ∙ type_from w s e u k)

-- WHAT HAS NO FAULT HAS A TYPE

a_value : (p : Span) (o : Option ExpressionType) (t : ExpressionType) → o ≡ Some t → void_faults p o ≡ [] → (x : ValueType) × (o ≡ Some (Value x))
a_value p o Void e h = absurd (some_fault (record { place = p; problem = TypeMismatch }) [] (sym (ap (void_faults p) e) ∙ h))
a_value p o (Value x) e h = (x, e)

pub variable_held : (s : Scope) (x : List ℕ) (p : Span) → Known s → variable_faults p (variable_named s x) ≡ []
    → (v : ValueType) × (variable_type (variable_named s x) ≡ Some v)
variable_held s x p k h = go (variable_named s x) refl h
  where
    go : (o : Option Variable) → variable_named s x ≡ o → variable_faults p o ≡ [] → (v : ValueType) × (variable_type o ≡ Some v)
    go None e h = absurd (some_fault (record { place = p; problem = UnknownName }) [] h)
    go (Some v) e h = there v.held (k x v e)

-- a part without a fault, used as a value
part_value : (w : Setting) (s : Scope) (e : Tree) → (faults w s e ≡ [] → (t : ExpressionType) × (type_of w s e ≡ Some t)) → value_faults w s e ≡ []
    → (x : ValueType) × (type_of w s e ≡ Some (Value x))
part_value w s e given h =
    let hs = parts (faults w s e) (void_faults (place_of e) (type_of w s e)) h in
    let t = given hs.0 in
    a_value (place_of e) (type_of w s e) t.0 t.1 hs.1

both_said : (w : Setting) (s : Scope) (a b : Tree) (say : ValueType → ValueType → List TypeFault) (x y : ValueType) → type_of w s a ≡ Some (Value x)
    → type_of w s b ≡ Some (Value y) → of_typed (value_type w s a) (λ t. of_typed (value_type w s b) (say t)) ≡ [] → say x y ≡ []
both_said w s a b say x y ha hb n =
    said (value_type w s b) (say x) y (ap value_of hb)
    (said (value_type w s a) (λ t. of_typed (value_type w s b) (say t)) x (ap value_of ha) n)

-- a call without a fault, whose function gives a type
call_gives : (d : Declared) (p : Span) (x : List ℕ) (o : Option (List Argument)) (c : Callee) (gs : List Argument) → callee d x ≡ Some c → o ≡ Some gs
    → GiveTypes d (call_of d p (callee d x) o) → callee_faults d p c gs ≡ [] → (t : ExpressionType) × (callee_type d p c gs ≡ Some t)
call_gives d p x o (built_in b) gs e a g h =
    let t = built_in_typed p b gs h in
    (Value t.0, passes (built_in_faults p b gs) (option_map Value (built_in_result b gs)) h ∙ ap (option_map Value) t.1)
call_gives d p x o (defined k f) gs e a g h =
    let ds = defined_bound d p f gs h in
    let c : Call = record { function = k; binding = binding_of d p f (Some gs) } in
    let among : Among c (call_of d p (callee d x) o) = subst₂ (λ m n. Among c (call_of d p m n)) (sym e) (sym a) (inl refl) in
    let bound_is : c.binding ≡ Some ds.0 = passes (defined_faults d p f gs) (binding_by f.variables f.parameters gs) h ∙ ds.1 in
    let t = there (result_type (within d f ds.0) f.returned) (g c among f ds.0 (function_at d x k f e) bound_is) in (
      t.0,
      passes (defined_faults d p f gs) (option_and_then (λ bs. result_type (within d f bs) f.returned) (binding_by f.variables f.parameters gs)) h
          ∙ ap (option_and_then (λ bs. result_type (within d f bs) f.returned)) ds.1
          ∙ t.1,
    )

mutual
  pub typed : (w : Setting) (s : Scope) (e : Tree) → Known s → GiveTypes w.declared (calls_of w s e) → faults w s e ≡ []
      → (t : ExpressionType) × (type_of w s e ≡ Some t)
  typed w s (number p n) k g h = (Value (public_scalar datatype.Uint64), refl)
  typed w s (truth p b) k g h = (Value (public_scalar datatype.Bool), refl)
  typed w s (variable p x) k g h = let v = variable_held s x p k h in (Value v.0, ap (option_map Value) v.1)
  typed w s (call p x es) k g h =
      let hs = parts (argument_list_faults w s es) (call_faults w.declared p (callee w.declared x) (arguments_of w s es)) h in
      let gs = typed_arguments w s es k
      (earlier_calls w.declared (calls_of_all w s es) (call_of w.declared p (callee w.declared x) (arguments_of w s es)) g) hs.0 in
      let c = callee_known w.declared p (callee w.declared x) (arguments_of w s es) hs.1 in
      let own = call_said w.declared p (callee w.declared x) (arguments_of w s es) c.0 gs.0 c.1 gs.1 hs.1 in
      let t = call_gives w.declared p x (arguments_of w s es) c.0 gs.0 c.1 gs.1
      (later_calls w.declared (calls_of_all w s es) (call_of w.declared p (callee w.declared x) (arguments_of w s es)) g) own in
      (t.0, call_typed w.declared p (callee w.declared x) (arguments_of w s es) c.0 gs.0 t.0 c.1 gs.1 t.1)
  typed w s (index p a i) k g h =
      let hs = parts (value_faults w s a ++ value_faults w s i)
      (of_typed (value_type w s a) (λ x. of_typed (value_type w s i) (index_faults p (place_of i) x))) h in
      let vs = parts (value_faults w s a) (value_faults w s i) hs.0 in
      let x = part_value w s a (typed w s a k (earlier_calls w.declared (calls_of w s a) (calls_of w s i) g)) vs.0 in
      let y = part_value w s i (typed w s i k (later_calls w.declared (calls_of w s a) (calls_of w s i) g)) vs.1 in
      let own = both_said w s a i (index_faults p (place_of i)) x.0 y.0 x.1 y.1 hs.1 in (
        Value (scalar_of x.0),
        of_both (index_type p (place_of i)) (type_of w s a) (type_of w s i) x.0 y.0 (scalar_of x.0) x.1 y.1 (index_typed p (place_of i) x.0 y.0 own),
      )
  typed w s (parentheses p e) k g h = let x = part_value w s e (typed w s e k g) h in (Value x.0, ap (λ o. option_map Value (value_of o)) x.1)
  typed w s (negation p e) k g h =
      let hs = parts (value_faults w s e) (of_typed (value_type w s e) (negation_faults p)) h in
      let x = part_value w s e (typed w s e k g) hs.0 in
      let own = said (value_type w s e) (negation_faults p) x.0 (ap value_of x.1) hs.1 in (
        Value x.0,
        ap (λ o. option_map Value (option_and_then (negation_type p) (value_of o))) x.1 ∙ ap (option_map Value) (negation_typed p x.0 own),
      )
  typed w s (cast p element e) k g h =
      let x = part_value w s e (typed w s e k g) h in
      (Value (cast_type element x.0), ap (λ o. option_map Value (option_map (cast_type element) (value_of o))) x.1)
  typed w s (binary p op a b) k g h =
      let hs = parts (value_faults w s a ++ value_faults w s b) (of_typed (value_type w s a) (λ x. of_typed (value_type w s b) (operator_faults p op x))) h in
      let vs = parts (value_faults w s a) (value_faults w s b) hs.0 in
      let x = part_value w s a (typed w s a k (earlier_calls w.declared (calls_of w s a) (calls_of w s b) g)) vs.0 in
      let y = part_value w s b (typed w s b k (later_calls w.declared (calls_of w s a) (calls_of w s b) g)) vs.1 in
      let own = both_said w s a b (operator_faults p op) x.0 y.0 x.1 y.1 hs.1 in
      let z = operator_typed p op x.0 y.0 own in (Value z.0, of_both (operator_type p op) (type_of w s a) (type_of w s b) x.0 y.0 z.0 x.1 y.1 z.1)
  typed w s (declassify p e) k g h =
      let x = part_value w s e (typed w s e k g) h in (Value (declassified x.0), ap (λ o. option_map Value (option_map declassified (value_of o))) x.1)
  typed w s (argument p x) k g h = absurd (some_fault (record { place = p; problem = ArgumentPlace }) [] h)
  typed w s (publish p x e) k g h = let y = part_value w s e (typed w s e k g) h in (Void, ap (λ o. option_map (λ x. Void) (value_of o)) y.1)

  pub typed_arguments : (w : Setting) (s : Scope) (es : Trees) → Known s → GiveTypes w.declared (calls_of_all w s es)
      → argument_list_faults w s es ≡ [] → (gs : List Argument) × (arguments_of w s es ≡ Some gs)
  typed_arguments w s none k g h = ([], refl)
  typed_arguments w s (also e es) k g h =
      let hs = parts (value_faults w s e) (argument_list_faults w s es) h in
      let x = part_value w s e (typed w s e k (earlier_calls w.declared (calls_of w s e) (calls_of_all w s es) g)) hs.0 in
      let rest = typed_arguments w s es k (later_calls w.declared (calls_of w s e) (calls_of_all w s es) g) hs.1 in
      (record { place = place_of e; given = x.0 } ∷ rest.0, ap₂ (λ o hs. with_argument (place_of e) (value_of o) hs) x.1 rest.1)

pub typed_value : (w : Setting) (s : Scope) (e : Tree) → Known s → GiveTypes w.declared (calls_of w s e) → value_faults w s e ≡ []
    → (x : ValueType) × HasType w s e (Value x)
typed_value w s e k g h = let x = part_value w s e (typed w s e k g) h in (x.0, has_type w s e (Value x.0) x.1)

-- where the premises hold, what has no fault is just what has a type
pub typed_exactly : (w : Setting) (s : Scope) (e : Tree) → Known s → GiveTypes w.declared (calls_of w s e)
    → ((t : ExpressionType) × HasType w s e t) ↔ (faults w s e ≡ [])
typed_exactly w s e k g = (λ h. no_faults w s e h.0 h.1, λ h. let t = typed w s e k g h in (t.0, has_type w s e t.0 t.1))
