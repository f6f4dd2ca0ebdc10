-- Expressions: what the checker has typed is well typed where it stands, of the same shape, and seen by the same.
use Rattle.std.proofs.Common.{◌≡◌, ℕ, List, [], ◌∷◌, ◌++◌, inl, refl, sym, ap, ap₂, ◌∙◌, subst, Option, Some, None, Bool, true, false, cond}
use Rattle.std.specs.Prelude.{nat_eq, bytes_eq, option_map, length}
use Rattle.std.specs.List.{slice_get}
use Rattle.sc_text.specs.declared.span.Span.{Span}
use Rattle.program_trees.specs.declared.expression.DataType.TheVariants.{Uint64}
use Rattle.program_trees.specs.declared.expression.DataType.TheVariants as datatype
use Rattle.program_trees.specs.Tree.{Tree, Trees, number, truth, variable, call, index, parentheses, negation, cast, binary, declassify, argument, publish}
use Rattle.program_trees.specs.Tree as Tree'
use Rattle.program_trees.specs.Programs.{ProgramTree}
use Rattle.domain_types.specs.declared.value_type.Argument.{Argument}
use Rattle.domain_types.specs.declared.value_type.ValueType.{ValueType}
use Rattle.domain_types.specs.declared.value_type.ExpressionType.{ExpressionType}
use Rattle.domain_types.specs.declared.value_type.ExpressionType.TheVariants.{Void, Value}
use Rattle.domain_types.specs.Types.{scalar_of, public_scalar}
use Rattle.domain_types.specs.Declarations.{declared_by, Callee, built_in, defined, callee}
use Rattle.domain_types.specs.Scopes as checked
use Rattle.domain_types.specs.ExpressionTypes.{variable_type, cast_type, declassified, arguments_of}
use Rattle.sc_text.specs.Lists.{Among}
use Rattle.domain_types.specs.Reached.{Call, call_of, calls_of, calls_of_all}
use Rattle.domain_types.specs.Typing.{IsCall, HasType, HaveTypes}
use Rattle.sc_text.proofs.Lists.{among_left, among_right}
use Rattle.domain_types.proofs.TypingExpressions.{types_from}
use Rattle.program_trees.specs.declared.kinds.Slot.{Slot}
use Rattle.program_trees.specs.TypedTree.{word_node, truth_node, call_node}
use Rattle.program_trees.specs.Operators.{operator_on}
use Rattle.name_resolution.specs.Scopes.{Variable, Scope, variable_in, variable_named}
use Rattle.name_resolution.specs.Values.{TypedValue, TypedCall, made, of_both, variable_value, element_value, negated, cast_value, declassified_value}
use Rattle.name_resolution.specs.Values.{operation_made, operation, gives_value, with_shape, value_given, shape_returned, built_in_value, called}
use Rattle.name_resolution.specs.Values.{and_more, value, values, call_made}
use Rattle.name_resolution.proofs.SoundValues.{mapped, both_there, then_there, some_is}
use Rattle.reached_instances.specs.Domains as domains
use Rattle.program_typing.proofs.TreesOfValues.{Agrees, Agree, agree_left, agree_right, names_in, names_in_all}
use Rattle.well_typed.specs.Sources.{HasWords, HaveWords}
use Rattle.well_typed.specs.Laws.{bound_domain}
use Rattle.well_typed.proofs.SlotsWritten.{shape_in, SlotIs}
use Rattle.well_typed.proofs.Typed.{Good, AllGood, good_as, good_number, good_truth, good_slot, good_element, good_not, good_cast, good_declassify}
use Rattle.well_typed.proofs.Operations.{good_operation}
use Rattle.well_typed.proofs.Calling.{known_in, Frame, setting, here, all_calls, AreMade, GoodCall, good_built_in, trees_of, bound_call, call_seen}
use Rattle.well_typed.proofs.Calling.{good_defined}

value_is : (x y : ValueType) → Value x ≡ Value y → x ≡ y
value_is x y e = cc

-- VARIABLES

-- a variable that the checker knows with this type has a slot of it
pub record SlotOf (w : domains.Setting) (u : Variable) (v : ValueType) : Type 0 where
  pub slot : Slot
  pub at : slice_get w.slots u.known.slot ≡ Some slot
  pub is : SlotIs w.binding slot v
  pub shape : u.known.shape ≡ shape_in v

pub record SameVariable (w : domains.Setting) (v : checked.Variable) (u : Variable) : Type 0 where
  pub name : v.name ≡ u.name
  pub held : (t : ValueType) → v.held ≡ Some t → SlotOf w u t

abbrev pub SameVariables : domains.Setting → List checked.Variable → List Variable → Type 0
SameVariables w [] [] = Unit {0}
SameVariables w [] (u ∷ us) = ⊥
SameVariables w (v ∷ vs) [] = ⊥
SameVariables w (v ∷ vs) (u ∷ us) = SameVariable w v u × SameVariables w vs us

-- the same variables in the same blocks
pub record Same (w : domains.Setting) (s : checked.Scope) (u : Scope) : Type 0 where
  pub block : SameVariables w s.block u.block
  pub outer : SameVariables w s.outer u.outer

pub same_append : (w : domains.Setting) (vs ws : List checked.Variable) (us xs : List Variable) → SameVariables w vs us → SameVariables w ws xs
    → SameVariables w (vs ++ ws) (us ++ xs)
same_append w [] ws [] xs m n = n
same_append w [] ws (u ∷ us) xs m n = absurd m
same_append w (v ∷ vs) ws [] xs m n = absurd m
same_append w (v ∷ vs) ws (u ∷ us) xs m n = (m.0, same_append w vs ws us xs m.1 n)

slot_in_list : (w : domains.Setting) (x : List ℕ) (vs : List checked.Variable) (us : List Variable) (t : ValueType) (u : Variable)
    → SameVariables w vs us → variable_type (checked.variable_in x vs) ≡ Some t → variable_in x us ≡ Some u → SlotOf w u t
slot_in_list w x [] us t u m e f = cc
slot_in_list w x (v ∷ vs) [] t u m e f = absurd m
slot_in_list w x (v ∷ vs) (r ∷ us) t u m e f = go (bytes_eq x v.name) (bytes_eq x r.name) (ap (bytes_eq x) m.0.name) e f (slot_in_list w x vs us t u m.1)
  where
    go : (b c : Bool) → b ≡ c → variable_type (cond b (Some v) (checked.variable_in x vs)) ≡ Some t → cond c (Some r) (variable_in x us) ≡ Some u
        → (variable_type (checked.variable_in x vs) ≡ Some t → variable_in x us ≡ Some u → SlotOf w u t) → SlotOf w u t
    go true true q h i rest = subst (λ z. SlotOf w z t) (some_is r u i) (m.0.held t h)
    go true false q h i rest = cc
    go false true q h i rest = cc
    go false false q h i rest = rest h i

pub slot_named : (w : domains.Setting) (s : checked.Scope) (u : Scope) (x : List ℕ) (t : ValueType) (v : Variable) → Same w s u
    → variable_type (checked.variable_named s x) ≡ Some t → variable_named u x ≡ Some v → SlotOf w v t
slot_named w s u x t v m e f =
    slot_in_list w x (s.block ++ s.outer) (u.block ++ u.outer) t v (same_append w s.block s.outer u.block u.outer m.block m.outer) e f

-- CALLS

pub record GoodCalls (p : ProgramTree) (w : domains.Setting) (o : Option TypedCall) (t : ExpressionType) : Type 0 where
  pub good : (c : TypedCall) → o ≡ Some c → GoodCall p w c t

module _ (p : ProgramTree) (z : Frame p) where
  abbrev Agreed : List (List ℕ) → Type 0
  Agreed xs = Agree (declared_by p) (known_in p) xs

  good_callee : (s : Span) (x : List ℕ) (c k : Callee) (gs : List Argument) (xs : List TypedValue) (t : ExpressionType)
      → Agrees (declared_by p) (known_in p) x → callee (declared_by p) x ≡ Some c → callee (known_in p) x ≡ Some k → IsCall (declared_by p) c gs t
      → AreMade z (call_of (declared_by p) s (Some c) (Some gs)) → AllGood p (here z) xs gs → GoodCalls p (here z) (called s.line k xs) t
  good_callee s x (built_in b) k gs xs t a e f h m g =
      subst (λ k. GoodCalls p (here z) (called s.line k xs) t) (some_is (built_in b) k (sym (a.built_in b e) ∙ f)) (record { good = one })
    where
      one : (c : TypedCall) → option_map gives_value (built_in_value s.line b xs) ≡ Some c → GoodCall p (here z) c t
      one c q =
          let r = mapped gives_value (built_in_value s.line b xs) c q in
          let v = (good_built_in p (here z) s.line b gs xs h.0 g h.1).good r.part r.there in
          let is : GoodCall p (here z) (gives_value r.part) (Value h.0) = record {
            is = ap Some v.shape;
            gives = v.gives;
            seen_by = λ y i. v.seen_by ∙ ap (λ (u : ValueType). bound_domain u.domain) (value_is h.0 y i);
            called = v.called;
          } in
          subst (λ c. GoodCall p (here z) c t) r.is (subst (GoodCall p (here z) (gives_value r.part)) (sym h.2) is)
  good_callee s x (defined n f) k gs xs t a e q h m g =
      let there = a.defined n f e in
      subst (λ k. GoodCalls p (here z) (called s.line k xs) t) (some_is (defined there.0 f) k (sym there.1 ∙ q))
      (record { good = λ c i. one there.0 there.1 c (nat_eq (length f.parameters) (length xs)) i })
    where
      among : Among (bound_call n h.domains) (all_calls z)
      among = m (bound_call n h.domains) (subst (Among (bound_call n h.domains)) (sym (call_seen (declared_by p) s n f gs t h)) (inl refl))

      one : (k : ℕ) → callee (known_in p) x ≡ Some (defined k f) → (c : TypedCall) (b : Bool)
          → cond b (Some (record { tree = call_node s.line k (trees_of xs); gives = shape_returned f.returned })) None ≡ Some c → GoodCall p (here z) c t
      one k i c false j = cc
      one k i c true j = subst (λ c. GoodCall p (here z) c t)
          (some_is (record { tree = call_node s.line k (trees_of xs); gives = shape_returned f.returned }) c j)
          (good_defined p z s.line x n k f gs xs t h e i among g)

  -- a call that gives a value
  good_given : (c : TypedCall) (v : ValueType) (x : TypedValue) → GoodCall p (here z) c (Value v) → value_given c ≡ Some x → Good p (here z) x v
  good_given c v x g e =
      let m = mapped (with_shape c.tree) c.gives x e in
      let shape : m.part ≡ shape_in v = some_is m.part (shape_in v) (sym m.there ∙ g.is) in
      let is : Good p (here z) (with_shape c.tree m.part) v = record { shape = shape; gives = g.gives; seen_by = g.seen_by v refl; called = g.called } in
      subst (λ x. Good p (here z) x v) m.is is

  agrees_last : (xs : List (List ℕ)) (x : List ℕ) → Agreed (xs ++ x ∷ []) → Agrees (declared_by p) (known_in p) x
  agrees_last xs x a = a x (among_right x xs (x ∷ []) (inl refl))

  made_left : (bs cs : List Call) → AreMade z (bs ++ cs) → AreMade z bs
  made_left bs cs m c n = m c (among_left c bs cs n)

  made_right : (bs cs : List Call) → AreMade z (bs ++ cs) → AreMade z cs
  made_right bs cs m c n = m c (among_right c bs cs n)

  -- a call, whose arguments are good
  good_call_from : (sc : checked.Scope) (u : Scope) (s : Span) (x : List ℕ) (es : Trees) (t : ExpressionType) → Agrees (declared_by p) (known_in p) x
      → (h : (c : Callee) × (gs : List Argument) × (callee (declared_by p) x ≡ Some c) × HaveTypes (setting z) sc es gs
      × IsCall (declared_by p) c gs t) → AreMade z (call_of (declared_by p) s (callee (declared_by p) x) (arguments_of (setting z) sc es))
      → ((xs : List TypedValue) → values (known_in p) u es ≡ Some xs → AllGood p (here z) xs h.1) → (c : TypedCall)
      → of_both (called s.line) (callee (known_in p) x) (values (known_in p) u es) ≡ Some c → GoodCall p (here z) c t
  good_call_from sc u s x es t a h m g c e =
      let b = both_there (called s.line) (callee (known_in p) x) (values (known_in p) u es) c e in
      let same : call_of (declared_by p) s (callee (declared_by p) x) (arguments_of (setting z) sc es) ≡ call_of (declared_by p) s (Some h.0) (Some h.1) =
      ap₂ (call_of (declared_by p) s) h.2 (types_from (setting z) sc es h.1 h.3) in
      (good_callee s x h.0 b.left h.1 b.right t a h.2 b.left_there h.4 (subst (AreMade z) same m) (g b.right b.right_there)).good c b.is

  -- EXPRESSIONS

  mutual
    pub good_value_of : (s : checked.Scope) (u : Scope) → Same (here z) s u → (e : Tree) (v : ValueType) → Agreed (names_in e)
        → AreMade z (calls_of (setting z) s e) → HasWords e → HasType (setting z) s e (Value v) → (x : TypedValue) → value (known_in p) u e ≡ Some x
        → Good p (here z) x v
    good_value_of s u m (number q n) v a c w h x i =
        good_as p (here z) (made (word_node n) Uint64 false) x (public_scalar Uint64) v (good_number p (here z) n w)
        (some_is (made (word_node n) Uint64 false) x i) (value_is (public_scalar Uint64) v (sym h))
    good_value_of s u m (truth q b) v a c w h x i =
        good_as p (here z) (made (truth_node b) datatype.Bool false) x (public_scalar datatype.Bool) v (good_truth p (here z) b)
        (some_is (made (truth_node b) datatype.Bool false) x i) (value_is (public_scalar datatype.Bool) v (sym h))
    good_value_of s u m (variable q y) v a c w h x i =
        let r = mapped variable_value (variable_named u y) x i in
        let o = slot_named (here z) s u y h.0 r.part m h.1 r.there in
        good_as p (here z) (variable_value r.part) x h.0 v (good_slot p (here z) r.part.known.slot o.slot h.0 r.part.known.shape o.at o.is o.shape)
        r.is (value_is h.0 v (sym h.2))
    good_value_of s u m (call q y es) v a c w h x i =
        let t = then_there value_given (of_both (called q.line) (callee (known_in p) y) (values (known_in p) u es)) x i in
        let g = good_call_from s u q y es (Value v) (agrees_last (names_in_all es) y a) h
        (made_right (calls_of_all (setting z) s es) (call_of (declared_by p) q (callee (declared_by p) y) (arguments_of (setting z) s es)) c)
        (good_values_of s u m es h.1 (agree_left (declared_by p) (known_in p) (names_in_all es) (y ∷ []) a)
        (made_left (calls_of_all (setting z) s es) (call_of (declared_by p) q (callee (declared_by p) y) (arguments_of (setting z) s es)) c) w h.3)
        t.part t.there in
        good_given t.part v x g t.is
    good_value_of s u m (index q b j) v a c w h x i =
        let r = both_there (element_value q.line) (value (known_in p) u b) (value (known_in p) u j) x i in
        let g = good_value_of s u m b h.0 (agree_left (declared_by p) (known_in p) (names_in b) (names_in j) a)
        (made_left (calls_of (setting z) s b) (calls_of (setting z) s j) c) w.0 h.2 r.left r.left_there in
        let f = good_value_of s u m j h.1 (agree_right (declared_by p) (known_in p) (names_in b) (names_in j) a)
        (made_right (calls_of (setting z) s b) (calls_of (setting z) s j) c) w.1 h.3 r.right r.right_there in
        good_as p (here z) _ x (scalar_of h.0) v (good_element p (here z) q.line r.left r.right h.0 h.1 g f h.4 h.5) (some_is _ x r.is)
        (value_is (scalar_of h.0) v (sym h.6))
    good_value_of s u m (parentheses q e) v a c w h x i =
        good_as p (here z) x x h.0 v (good_value_of s u m e h.0 a c w h.1 x i) refl (value_is h.0 v (sym h.2))
    good_value_of s u m (negation q e) v a c w h x i =
        let r = mapped negated (value (known_in p) u e) x i in
        good_as p (here z) (negated r.part) x h.0 v (good_not p (here z) r.part h.0 (good_value_of s u m e h.0 a c w h.1 r.part r.there) h.2) r.is
        (value_is h.0 v (sym h.3))
    good_value_of s u m (cast q t e) v a c w h x i =
        let r = mapped (cast_value t) (value (known_in p) u e) x i in
        good_as p (here z) (cast_value t r.part) x (cast_type t h.0) v
        (good_cast p (here z) t r.part h.0 (good_value_of s u m e h.0 a c w h.1 r.part r.there)) r.is (value_is (cast_type t h.0) v (sym h.2))
    good_value_of s u m (binary q op b d) v a c w h x i =
        let r = both_there (operation q.line op) (value (known_in p) u b) (value (known_in p) u d) x i in
        let o = mapped (operation_made q.line op r.left r.right) (operator_on op r.left.shape.element r.right.shape.element) x r.is in
        let g = good_value_of s u m b h.0 (agree_left (declared_by p) (known_in p) (names_in b) (names_in d) a)
        (made_left (calls_of (setting z) s b) (calls_of (setting z) s d) c) w.0 h.3 r.left r.left_there in
        let f = good_value_of s u m d h.1 (agree_right (declared_by p) (known_in p) (names_in b) (names_in d) a)
        (made_right (calls_of (setting z) s b) (calls_of (setting z) s d) c) w.1 h.4 r.right r.right_there in
        good_as p (here z) (operation_made q.line op r.left r.right o.part) x h.2 v
        (good_operation p (here z) q.line op r.left r.right h.0 h.1 h.2 g f h.5 o.part o.there) o.is (value_is h.2 v (sym h.6))
    good_value_of s u m (declassify q e) v a c w h x i =
        let r = mapped declassified_value (value (known_in p) u e) x i in
        good_as p (here z) (declassified_value r.part) x (declassified h.0) v
        (good_declassify p (here z) r.part h.0 (good_value_of s u m e h.0 a c w h.1 r.part r.there)) r.is (value_is (declassified h.0) v (sym h.2))
    good_value_of s u m (argument q y) v a c w h x i = absurd h
    good_value_of s u m (publish q y e) v a c w h x i = let no : Value v ≡ Void = h.2 in cc

    pub good_values_of : (s : checked.Scope) (u : Scope) → Same (here z) s u → (es : Trees) (gs : List Argument) → Agreed (names_in_all es)
        → AreMade z (calls_of_all (setting z) s es) → HaveWords es → HaveTypes (setting z) s es gs → (xs : List TypedValue)
        → values (known_in p) u es ≡ Some xs → AllGood p (here z) xs gs
    good_values_of s u m Tree'.none gs a c w h xs i = subst (AllGood p (here z) xs) (sym h) (subst (λ xs. AllGood p (here z) xs []) (some_is [] xs i) tt)
    good_values_of s u m (Tree'.also e es) [] a c w h xs i = absurd h
    good_values_of s u m (Tree'.also e es) (g ∷ gs) a c w h xs i =
        let r = both_there and_more (value (known_in p) u e) (values (known_in p) u es) xs i in
        let one = good_value_of s u m e g.given (agree_left (declared_by p) (known_in p) (names_in e) (names_in_all es) a)
        (made_left (calls_of (setting z) s e) (calls_of_all (setting z) s es) c) w.0 h.0 r.left r.left_there in
        let rest = good_values_of s u m es gs (agree_right (declared_by p) (known_in p) (names_in e) (names_in_all es) a)
        (made_right (calls_of (setting z) s e) (calls_of_all (setting z) s es) c) w.1 h.2 r.right r.right_there in
        subst (λ xs. AllGood p (here z) xs (g ∷ gs)) (some_is (r.left ∷ r.right) xs r.is) (one, rest)

  pub good_call : (s : checked.Scope) (u : Scope) → Same (here z) s u → (q : Span) (y : List ℕ) (es : Trees) (t : ExpressionType)
      → Agreed (names_in (call q y es)) → AreMade z (calls_of (setting z) s (call q y es)) → HaveWords es → HasType (setting z) s (call q y es) t
      → (c : TypedCall) → call_made (known_in p) u q.line y es ≡ Some c → GoodCall p (here z) c t
  good_call s u m q y es t a c w h r i =
      good_call_from s u q y es t (agrees_last (names_in_all es) y a) h
      (made_right (calls_of_all (setting z) s es) (call_of (declared_by p) q (callee (declared_by p) y) (arguments_of (setting z) s es)) c)
      (good_values_of s u m es h.1 (agree_left (declared_by p) (known_in p) (names_in_all es) (y ∷ []) a)
      (made_left (calls_of_all (setting z) s es) (call_of (declared_by p) q (callee (declared_by p) y) (arguments_of (setting z) s es)) c) w h.3)
      r i
