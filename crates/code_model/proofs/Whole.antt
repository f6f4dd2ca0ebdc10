-- Raw code whose steps are right is verified, and settles to them.
use Rattle.std.proofs.Common.{◌≡◌, ℕ, suc, ◌==◌, List, [], ◌∷◌, length, map, Some, Bool, true, false, not, ◌&&◌, ◌||◌, refl, sym, ap}
use Rattle.std.proofs.Common.{ap₂, ◌∙◌, subst, arith}
use Rattle.std.specs.Prelude.{slice_get}
use Rattle.std.proofs.lemmas.Bool.{le-leb}
use Rattle.std.proofs.lemmas.Bool.Decides.{Decides-eqb}
use Rattle.std.proofs.lemmas.List.{length-map}
use Rattle.std.proofs.lemmas.Option.{slice_get_within}
use Rattle.verified_code.specs.Fitting as fitting
use Rattle.verified_code.specs.Settled.{settle, settled_function, settled}
use Rattle.verified_code.specs.Sound.{passes, IsSoundFunction, IsSound}
use Rattle.verified_code.specs.Steps.{Step, Function}
use Rattle.verified_code.specs.Verified.{head_fits, is_main_head, here, IsVerified}
use Rattle.verified_code.proofs.Sound.{sound_is_verified}
use Rattle.code_model.specs.Instructions.{instruction, raw_function, names_of, raw_code_of}
use Rattle.code_model.specs.Right.{IsRightFunction, AreRight}
use Rattle.code_model.proofs.KindTests.{all_four}
use Rattle.code_model.proofs.Names.{named}
use Rattle.code_model.proofs.Passing.{unmapped, all_names, all_operands, target_there, on}
use Rattle.code_model.proofs.Settling.{settles}

-- a list that is mapped, each element to itself
each_same : {A B : Type 0} (g : A → B) (h : B → A) (xs : List A) → ((k : ℕ) (x : A) → slice_get xs k ≡ Some x → h (g x) ≡ x) → map h (map g xs) ≡ xs
each_same g h [] e = refl
each_same g h (x ∷ xs) e = ap₂ ◌∷◌ (e 0 x refl) (each_same g h xs (λ k y there. e (suc k) y there))

module _ (c : List Function) (right : AreRight c) where
  abbrev names : List (List ℕ)
  names = names_of c

  its : (g : ℕ) (f : Function) → slice_get c g ≡ Some f → IsRightFunction c f
  its g f e = right.functions f (g, e)

  function_settles : (g : ℕ) (f : Function) → slice_get c g ≡ Some f → settled_function names (raw_function names f) ≡ f
  function_settles g f e =
      let h = its g f e in
      ap (λ steps. record { parameters = f.parameters; gives = f.gives; kinds = f.kinds; steps = steps })
      (each_same (instruction names) (settle names f.kinds) f.steps (λ k i there.
      settles names c f.kinds f.gives (length f.steps) h.registers i (h.steps k i there) (named c g f k i e there)))

  pub settles_again : settled (raw_code_of c) ≡ c
  settles_again = each_same (raw_function names) (settled_function names) c function_settles

  passing : (g : ℕ) (f : Function) → slice_get c g ≡ Some f → (k : ℕ) (i : Step) → slice_get f.steps k ≡ Some i
      → passes (here (raw_code_of c) (raw_function names f) k) (instruction names i) ≡ true
  passing g f e k i there =
      let h = its g f e in
      let r = h.steps k i there in
      all_four (all_names c f k i r (named c g f k i e there)) (all_operands c f k (λ q o there. (its q o there).parameters) i r)
      (target_there c f k i r (λ target same. h.forward k target (there ∙ ap Some same))) (on c f k i (λ last. h.goes_on k i there last))

  none_there : (g : ℕ) (f : Function) → slice_get c g ≡ Some f → (g == 0) ≡ true → f ≡ right.main
  none_there g f e z = same f right.main (sym e ∙ ap (slice_get c) ((Decides-eqb g 0).0 z) ∙ right.begins)
    where
      same : (x y : Function) → Some x ≡ Some y → x ≡ y
      same x y e = cc

  main_head : (g : ℕ) (f : Function) → slice_get c g ≡ Some f → (b : Bool) → (g == 0) ≡ b → (is_main_head (raw_function names f) || not b) ≡ true
  main_head g f e false z = or_true (is_main_head (raw_function names f))
    where
      or_true : (b : Bool) → (b || true) ≡ true
      or_true true = refl
      or_true false = refl
  main_head g f e true z =
      let same = none_there g f e z in
      ap (λ h. is_main_head (raw_function names h) || false) same
      ∙ ap (λ n. (n == 0) && fitting.gives_none right.main.gives || false) right.plain ∙ ap (λ o. fitting.gives_none o || false) right.nothing

  head : (g : ℕ) (f : Function) → slice_get c g ≡ Some f → head_fits g (raw_function names f) ≡ true
  head g f e = and_true (le-leb f.parameters (length f.kinds) (its g f e).parameters) (main_head g f e (g == 0) refl)
    where
      and_true : {a b : Bool} → a ≡ true → b ≡ true → (a && b) ≡ true
      and_true {a = true} e f = f
      and_true {a = false} e f = cc

  function_sound : (g : ℕ) (f : Function) → slice_get c g ≡ Some f → IsSoundFunction (raw_code_of c) g (raw_function names f)
  function_sound g f e =
      let h = its g f e in
      let many = length-map f.steps (instruction names) in
      let some = h.some in
      record {
        head = head g f e;
        some_instruction = omega (arith, some, many);
        instructions = λ k i there.
            let x = unmapped (instruction names) f.steps k i there in
            subst (λ z. passes (here (raw_code_of c) (raw_function names f) k) z ≡ true) x.2 (passing g f e k x.0 x.1);
      }

  sound : IsSound (raw_code_of c)
  sound =
      let many = length-map c (raw_function names) in
      let some = slice_get_within c 0 right.main right.begins in
      record {
        some_function = omega (arith, some, many);
        functions = λ g f there.
            let x = unmapped (raw_function names) c g f there in subst (IsSoundFunction (raw_code_of c) g) x.2 (function_sound g x.0 x.1);
      }

  pub verified : IsVerified (raw_code_of c)
  verified = sound_is_verified (raw_code_of c) sound
