-- The instruction of a step that is right passes all that is asked of it.
use Rattle.std.proofs.Common.{◌≡◌, ℕ, zero, suc, ◌+◌, ◌<◌, ◌≤◌, ◌==◌, List, [], ◌∷◌, length, map, take}
use Rattle.std.proofs.Common.{Option, Some, None, Bool, true, false, ◌||◌, refl, ap, ◌∙◌}
use Rattle.std.proofs.Common.{inl}
use Rattle.std.specs.Prelude.{slice_get, nat_lt}
use Rattle.std.specs.List.{list_all}
use Rattle.std.proofs.lemmas.Bool.{lt-ltb, le-leb}
use Rattle.std.proofs.lemmas.Bool.Decides.{Decides-eqb}
use Rattle.std.proofs.lemmas.List.{length-map, length-take-le}
use Rattle.std.proofs.lemmas.Option.{slice_get_within, none-some, same_Some}
use Rattle.sc_text.specs.Lists.{Among}
use Rattle.program_trees.specs.declared.expression.DataType.{DataType}
use Rattle.program_trees.specs.declared.expression.DataType.TheVariants.{Uint64}
use Rattle.program_trees.specs.declared.expression.DataType.TheVariants as datatype
use Rattle.bytecode.specs.declared.kind.Kind.{Kind}
use Rattle.verified_code.specs.Fitting as fitting
use Rattle.verified_code.specs.Verified.{here}
use Rattle.verified_code.specs.Steps.{Step, Function, Literal, Move, Store, Binary, Not, Cast, Classify, Fill, At, Put, Size, Cat, Sum, Bits, Lookup, Declassify}
use Rattle.verified_code.specs.Steps.{Argument, Publish, Assert, Branch, Jump, Call, Return, ReturnNone}
use Rattle.code_model.specs.Kinded.{HasKind, ResultFits, cast_source, cast_target, public_scalar, is_return}
use Rattle.code_model.specs.Instructions.{operator_number, register_or_nowhere, place_among, step_names, instruction, raw_function, names_of, raw_code_of}
use Rattle.code_model.specs.Right.{kind, AreOf, IsRight}
use Rattle.code_model.proofs.KindTests.{both, all_three, all_four, kind_self, its_kind, there, one_of, two_of, three_of, operator_fits}
use Rattle.code_model.proofs.Names.{name_found}

truths_same : (s a : Bool) (e f : DataType) → fitting.cast_fits (kind s e a) (kind s f a) ≡ true
truths_same true true e f = refl
truths_same true false e f = refl
truths_same false true e f = refl
truths_same false false e f = refl

or_right : (a b : Bool) → b ≡ true → (a || b) ≡ true
or_right true b e = refl
or_right false b e = e

pub mapped : {A B : Type 0} (g : A → B) (xs : List A) (k : ℕ) (x : A) → slice_get xs k ≡ Some x → slice_get (map g xs) k ≡ Some (g x)
mapped g [] k x e = absurd (none-some _ e)
mapped g (y ∷ ys) zero x e = ap (λ z. Some (g z)) (same_Some y x e)
mapped g (y ∷ ys) (suc k) x e = mapped g ys k x e

pub unmapped : {A B : Type 0} (g : A → B) (xs : List A) (k : ℕ) (y : B) → slice_get (map g xs) k ≡ Some y → (x : A) × (slice_get xs k ≡ Some x) × (g x ≡ y)
unmapped g [] k y e = absurd (none-some _ e)
unmapped g (x ∷ xs) zero y e = (x, refl, same_Some (g x) y e)
unmapped g (x ∷ xs) (suc k) y e = unmapped g xs k y e

-- ---- ARGUMENTS AND RESULTS

module _ (ks : List Kind) where
  all_there : (rs : List ℕ) (wanted : List Kind) → AreOf ks rs wanted → list_all (fitting.is_there ks) rs ≡ true
  all_there [] wanted h = refl
  all_there (r ∷ rs) [] h = absurd h
  all_there (r ∷ rs) (k ∷ wanted) h = both (there ks r k h.0) (all_there rs wanted h.1)

  all_fit : (rs : List ℕ) (wanted : List Kind) → AreOf ks rs wanted → fitting.arguments_fit ks rs wanted ≡ true
  all_fit [] [] h = refl
  all_fit [] (k ∷ wanted) h = absurd h
  all_fit (r ∷ rs) [] h = absurd h
  all_fit (r ∷ rs) (k ∷ wanted) h = both (ap (λ z. fitting.same_kind z k) (its_kind ks r k h.0) ∙ kind_self k) (all_fit rs wanted h.1)

  as_many : (rs : List ℕ) (wanted : List Kind) → AreOf ks rs wanted → length rs ≡ length wanted
  as_many [] [] h = refl
  as_many [] (k ∷ wanted) h = absurd h
  as_many (r ∷ rs) [] h = absurd h
  as_many (r ∷ rs) (k ∷ wanted) h = ap suc (as_many rs wanted h.1)

  gives_this : (g : Option Kind) (r : ℕ) (k : Kind) → g ≡ Some k → HasKind ks r k → fitting.gives_fits g (fitting.kind_at ks r) ≡ true
  gives_this g r k e h = ap (λ z. fitting.gives_fits z (fitting.kind_at ks r)) e ∙ ap (λ z. fitting.same_kind z k) (its_kind ks r k h) ∙ kind_self k

  result_there : (d : Option ℕ) (g : Option Kind) → ResultFits ks d g
      → (fitting.is_none (register_or_nowhere d) || fitting.is_there ks (register_or_nowhere d)) ≡ true
  result_there None g h = refl
  result_there (Some d) g h = or_right (fitting.is_none d) (fitting.is_there ks d) (there ks d h.0 h.2)

  result_given : (d : Option ℕ) (g : Option Kind) → ResultFits ks d g
      → (fitting.is_none (register_or_nowhere d) || fitting.gives_fits g (fitting.kind_at ks (register_or_nowhere d))) ≡ true
  result_given None g h = refl
  result_given (Some d) g h = or_right (fitting.is_none d) (fitting.gives_fits g (fitting.kind_at ks d)) (gives_this g d h.0 h.1 h.2)

-- ---- STEPS

-- in raw code of these functions, an instruction of this one
module _ (c : List Function) (f : Function) (place : ℕ) where
  abbrev names : List (List ℕ)
  names = names_of c

  abbrev ks : List Kind
  ks = f.kinds

  abbrev at : fitting.Here
  at = here (raw_code_of c) (raw_function names f) place

  abbrev its : ℕ → Kind
  its = fitting.kind_at f.kinds

  abbrev Right : Step → Type 0
  Right = IsRight c f.kinds f.gives (length f.steps)

  name_there : (text : List ℕ) → Among text names → fitting.is_there names (place_among text names) ≡ true
  name_there text m = lt-ltb (place_among text names) (length names) (slice_get_within names (place_among text names) text (name_found text names m))

  function_there : (g : ℕ) (h : Function) → slice_get c g ≡ Some h → fitting.is_there (raw_code_of c).functions g ≡ true
  function_there g h e =
      lt-ltb g (length (raw_code_of c).functions) (slice_get_within (raw_code_of c).functions g (raw_function names h) (mapped (raw_function names) c g h e))

  pub all_names : (i : Step) → Right i → ((text : List ℕ) → Among text (step_names i) → Among text names) → fitting.names_there at (instruction names i) ≡ true
  all_names (Literal d e n) h m = there ks d _ h.0
  all_names (Move d r) h m = both (there ks d _ h.2) (there ks r _ h.1)
  all_names (Store d r) h m = both (there ks d _ h.2) (there ks r _ h.1)
  all_names (Binary line op ds d a b) h m = all_three (there ks d _ h.6) (there ks a _ h.2) (there ks b _ h.3)
  all_names (Not d r) h m = both (there ks d _ h.3) (there ks r _ h.2)
  all_names (Cast x d r) h m = both (there ks d _ h.3) (there ks r _ h.2)
  all_names (Classify d r) h m = both (there ks d _ h.3) (there ks r _ h.2)
  all_names (Fill line d n x) h m = all_three (there ks d _ h.4) (there ks n _ h.2) (there ks x _ h.3)
  all_names (At line d a i) h m = all_three (there ks d _ h.4) (there ks a _ h.2) (there ks i _ h.3)
  all_names (Put line a i x) h m = all_three (there ks a _ h.2) (there ks i _ h.3) (there ks x _ h.4)
  all_names (Size d r) h m = both (there ks d _ h.3) (there ks r _ h.2)
  all_names (Cat line d a b) h m = all_three (there ks d _ h.4) (there ks a _ h.2) (there ks b _ h.3)
  all_names (Sum d r) h m = both (there ks d _ h.4) (there ks r _ h.3)
  all_names (Bits line d r) h m = both (there ks d _ h.3) (there ks r _ h.2)
  all_names (Lookup line d a i) h m = all_three (there ks d _ h.5) (there ks a _ h.3) (there ks i _ h.4)
  all_names (Declassify d r) h m = both (there ks d _ h.4) (there ks r _ h.3)
  all_names (Argument line k text d) h m = both (there ks d _ h) (name_there text (m text (inl refl)))
  all_names (Publish text r) h m = both (name_there text (m text (inl refl))) (there ks r _ h.1)
  all_names (Assert line r) h m = there ks r _ h
  all_names (Branch r b target) h m = there ks r _ h.0
  all_names (Jump target) h m = refl
  all_names (Call line g d arguments) h m =
      all_three (function_there g h.0 h.1) (result_there ks d h.0.gives h.3) (all_there ks arguments (take h.0.parameters h.0.kinds) h.2)
  all_names (Return r) h m = there ks r _ h.2
  all_names ReturnNone h m = refl

  word_literal : (d : ℕ) (e : DataType) (n : ℕ) → fitting.kind_at ks d ≡ public_scalar e → fitting.may_be_literal e n ≡ true
      → fitting.literal_fits (fitting.kind_at ks d) n ≡ true
  word_literal d e n k l = ap (λ z. fitting.literal_fits z n) k ∙ both (kind_self (public_scalar e)) l

  call_fits : (g : ℕ) (h : Function) (d : Option ℕ) (arguments : List ℕ) → h.parameters ≤ length h.kinds → slice_get c g ≡ Some h
      → AreOf ks arguments (take h.parameters h.kinds) → ResultFits ks d h.gives
      → fitting.call_fits ks (slice_get (raw_code_of c).functions g) (register_or_nowhere d) arguments ≡ true
  call_fits g h d arguments few e fit result =
      ap (λ o. fitting.call_fits ks o (register_or_nowhere d) arguments) (mapped (raw_function names) c g h e)
      ∙ all_four (le-leb h.parameters (length h.kinds) few)
      (ap (λ n. n == h.parameters) (as_many ks arguments (take h.parameters h.kinds) fit ∙ length-take-le h.parameters h.kinds few)
      ∙ (Decides-eqb h.parameters h.parameters).1 refl)
      (all_fit ks arguments (take h.parameters h.kinds) fit) (result_given ks d h.gives result)

  module _ (others : (g : ℕ) (h : Function) → slice_get c g ≡ Some h → h.parameters ≤ length h.kinds) where
    pub all_operands : (i : Step) → Right i → fitting.operands_fit at (instruction names i) ≡ true
    all_operands (Literal d e n) h = word_literal d e n (its_kind ks d _ h.0) h.1
    all_operands (Move d r) h = two_of fitting.same_kind (its d) (its r) h.0 h.0 (its_kind ks d _ h.2) (its_kind ks r _ h.1) (kind_self h.0)
    all_operands (Store d r) h = two_of fitting.same_kind (its d) (its r) h.0 h.0 (its_kind ks d _ h.2) (its_kind ks r _ h.1) (kind_self h.0)
    all_operands (Binary line op ds d a b) h =
        three_of (fitting.binary_fits (operator_number op)) (its d) (its a) (its b) _ _ _ (its_kind ks d _ h.6) (its_kind ks a _ h.2) (its_kind ks b _ h.3)
        (operator_fits op ds h.0 h.1 h.4 h.5)
    all_operands (Not d r) h =
        two_of fitting.not_fits (its d) (its r) _ _ (its_kind ks d _ h.3) (its_kind ks r _ h.2) (both (kind_self (kind h.0 datatype.Bool h.1)) refl)
    all_operands (Cast x d r) h =
        two_of fitting.cast_fits (its d) (its r) _ _ (its_kind ks d _ h.3) (its_kind ks r _ h.2) (truths_same h.0 h.1 (cast_target x) (cast_source x))
    all_operands (Classify d r) h =
        two_of fitting.classify_fits (its d) (its r) _ _ (its_kind ks d _ h.3) (its_kind ks r _ h.2) (kind_self (kind true h.0 h.1))
    all_operands (Fill line d n x) h =
        three_of fitting.fill_fits (its d) (its n) (its x) _ _ _ (its_kind ks d _ h.4) (its_kind ks n _ h.2) (its_kind ks x _ h.3)
        (kind_self (kind h.0 h.1 true))
    all_operands (At line d a i) h =
        three_of fitting.element_fits (its a) (its i) (its d) _ _ _ (its_kind ks a _ h.2) (its_kind ks i _ h.3) (its_kind ks d _ h.4)
        (kind_self (kind h.0 h.1 false))
    all_operands (Put line a i x) h =
        three_of fitting.element_fits (its a) (its i) (its x) _ _ _ (its_kind ks a _ h.2) (its_kind ks i _ h.3) (its_kind ks x _ h.4)
        (kind_self (kind h.0 h.1 false))
    all_operands (Size d r) h = two_of fitting.size_fits (its d) (its r) _ _ (its_kind ks d _ h.3) (its_kind ks r _ h.2) refl
    all_operands (Cat line d a b) h =
        three_of fitting.cat_fits (its d) (its a) (its b) _ _ _ (its_kind ks d _ h.4) (its_kind ks a _ h.2) (its_kind ks b _ h.3)
        (both (kind_self (kind h.0 h.1 true)) (kind_self (kind h.0 h.1 true)))
    all_operands (Sum d r) h =
        two_of fitting.sum_fits (its d) (its r) _ _ (its_kind ks d _ h.4) (its_kind ks r _ h.3) (both h.2 (kind_self (kind h.0 h.1 false)))
    all_operands (Bits line d r) h =
        two_of fitting.bits_fit (its d) (its r) _ _ (its_kind ks d _ h.3) (its_kind ks r _ h.2) (kind_self (kind h.0 datatype.Bool true))
    all_operands (Lookup line d a i) h =
        three_of fitting.lookup_fits (its d) (its a) (its i) _ _ _ (its_kind ks d _ h.5) (its_kind ks a _ h.3) (its_kind ks i _ h.4)
        (both (both (both h.2 refl) refl) (kind_self (kind true h.0 h.1)))
    all_operands (Declassify d r) h =
        two_of (λ x y. fitting.same_kind x (fitting.public_as y)) (its d) (its r) _ _ (its_kind ks d _ h.4) (its_kind ks r _ h.3)
        (kind_self (kind false h.1 h.2))
    all_operands (Argument line k text d) h = refl
    all_operands (Publish text r) h = refl
    all_operands (Assert line r) h = one_of fitting.is_condition (its r) _ (its_kind ks r _ h) refl
    all_operands (Branch r b target) h = one_of fitting.is_condition (its r) _ (its_kind ks r _ h.0) refl
    all_operands (Jump target) h = refl
    all_operands (Call line g d arguments) h = call_fits g h.0 d arguments (others g h.0 h.1) h.1 h.2 h.3
    all_operands (Return r) h = gives_this ks f.gives r h.0 h.1 h.2
    all_operands ReturnNone h = ap fitting.gives_none h

  below : (target : ℕ) → target < length f.steps → nat_lt target (length (raw_function names f).body) ≡ true
  below target l = ap (nat_lt target) (length-map f.steps (instruction names)) ∙ lt-ltb target (length f.steps) l

  pub target_there : (i : Step) → Right i → ((target : ℕ) → i ≡ Jump target → place < target) → fitting.target_fits at (instruction names i) ≡ true
  target_there (Branch r b target) h forward = below target h.1
  target_there (Jump target) h forward = both (lt-ltb place target (forward target refl)) (below target h)
  target_there (Literal d e n) h forward = refl
  target_there (Move d r) h forward = refl
  target_there (Store d r) h forward = refl
  target_there (Binary line op ds d a b) h forward = refl
  target_there (Not d r) h forward = refl
  target_there (Cast x d r) h forward = refl
  target_there (Classify d r) h forward = refl
  target_there (Fill line d n x) h forward = refl
  target_there (At line d a i) h forward = refl
  target_there (Put line a i x) h forward = refl
  target_there (Size d r) h forward = refl
  target_there (Cat line d a b) h forward = refl
  target_there (Sum d r) h forward = refl
  target_there (Bits line d r) h forward = refl
  target_there (Lookup line d a i) h forward = refl
  target_there (Declassify d r) h forward = refl
  target_there (Argument line k text d) h forward = refl
  target_there (Publish text r) h forward = refl
  target_there (Assert line r) h forward = refl
  target_there (Call line g d arguments) h forward = refl
  target_there (Return r) h forward = refl
  target_there ReturnNone h forward = refl

  return_same : (i : Step) → fitting.is_return (instruction names i) ≡ is_return i
  return_same (Literal d e n) = refl
  return_same (Move d r) = refl
  return_same (Store d r) = refl
  return_same (Binary line op ds d a b) = refl
  return_same (Not d r) = refl
  return_same (Cast x d r) = refl
  return_same (Classify d r) = refl
  return_same (Fill line d n x) = refl
  return_same (At line d a i) = refl
  return_same (Put line a i x) = refl
  return_same (Size d r) = refl
  return_same (Cat line d a b) = refl
  return_same (Sum d r) = refl
  return_same (Bits line d r) = refl
  return_same (Lookup line d a i) = refl
  return_same (Declassify d r) = refl
  return_same (Argument line k text d) = refl
  return_same (Publish text r) = refl
  return_same (Assert line r) = refl
  return_same (Branch r b target) = refl
  return_same (Jump target) = refl
  return_same (Call line g d arguments) = refl
  return_same (Return r) = refl
  return_same ReturnNone = refl

  pub on : (i : Step) → (is_return i ≡ false → place + 1 < length f.steps) → fitting.goes_on at (instruction names i) ≡ true
  on i h = ap (λ b. b || nat_lt (place + 1) (length (raw_function names f).body)) (return_same i) ∙ go (is_return i) h
    where
      go : (b : Bool) → (b ≡ false → place + 1 < length f.steps) → (b || nat_lt (place + 1) (length (raw_function names f).body)) ≡ true
      go true h = refl
      go false h = below (place + 1) (h refl)
