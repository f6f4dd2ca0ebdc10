-- Names of code: each text of a step is among them, and stands at its place.
use Rattle.std.proofs.Common.{◌≡◌, ℕ, zero, suc, ◌+◌, List, [], ◌∷◌, ◌++◌, Some, Bool, true, false, cond, ◌||◌, refl, sym, ap, ◌∙◌, subst, arith, ◌⊎◌, inl, inr}
use Rattle.std.specs.Prelude.{slice_get}
use Rattle.std.specs.List.{flat_map, list_any}
use Rattle.std.specs.Str.{bytes_eq}
use Rattle.std.proofs.lemmas.Slice.Eq.{bytes_eq-Decides}
use Rattle.sc_text.specs.Lists.{Among}
use Rattle.sc_text.proofs.Lists.{among_left, among_right}
use Rattle.verified_code.specs.Steps.{Step, Function}
use Rattle.code_model.specs.Instructions.{place_among, step_names, function_names, naming, naming_all, names_of}

clash : {b : Bool} → b ≡ true → b ≡ false → ⊥
clash {b = true} e g = cc
clash {b = false} e g = cc

text_is : (x y : List ℕ) → bytes_eq x y ≡ true → x ≡ y
text_is x y e = (bytes_eq-Decides x y).0 e

pub name_found : (text : List ℕ) (names : List (List ℕ)) → Among text names → slice_get names (place_among text names) ≡ Some text
name_found text [] h = absurd h
name_found text (name ∷ names) h = go (bytes_eq text name) refl h (name_found text names)
  where
    go : (b : Bool) → bytes_eq text name ≡ b → (text ≡ name) ⊎ Among text names → (Among text names → slice_get names (place_among text names) ≡ Some text)
        → slice_get (name ∷ names) (cond b 0 (place_among text names + 1)) ≡ Some text
    go true e m rest = ap Some (sym (text_is text name e))
    go false e (inl same) rest = absurd (clash ((bytes_eq-Decides text name).1 same) e)
    go false e (inr m) rest =
        let n : place_among text names + 1 ≡ suc (place_among text names) = omega arith in
        ap (slice_get (name ∷ names)) n ∙ rest m

listed_among : (text : List ℕ) (names : List (List ℕ)) → list_any (bytes_eq text) names ≡ true → Among text names
listed_among text [] e = cc
listed_among text (name ∷ names) e = go (bytes_eq text name) refl e (listed_among text names)
  where
    go : (b : Bool) → bytes_eq text name ≡ b → (b || list_any (bytes_eq text) names) ≡ true
        → (list_any (bytes_eq text) names ≡ true → Among text names) → Among text (name ∷ names)
    go true e h rest = inl (text_is text name e)
    go false e h rest = inr (rest h)

stays : (text other : List ℕ) (names : List (List ℕ)) → Among other names → Among other (naming names text)
stays text other names m = go (list_any (bytes_eq text) names)
  where
    go : (b : Bool) → Among other (cond b names (names ++ text ∷ []))
    go true = m
    go false = among_left other names (text ∷ []) m

comes : (text : List ℕ) (names : List (List ℕ)) → Among text (naming names text)
comes text names = go (list_any (bytes_eq text) names) refl
  where
    go : (b : Bool) → list_any (bytes_eq text) names ≡ b → Among text (cond b names (names ++ text ∷ []))
    go true e = listed_among text names e
    go false e = among_right text names (text ∷ []) (inl refl)

all_stay : (names texts : List (List ℕ)) (text : List ℕ) → Among text names → Among text (naming_all names texts)
all_stay names [] text m = m
all_stay names (t ∷ ts) text m = all_stay (naming names t) ts text (stays t text names m)

all_come : (names texts : List (List ℕ)) (text : List ℕ) → Among text texts → Among text (naming_all names texts)
all_come names [] text m = absurd m
all_come names (t ∷ ts) text (inl e) = all_stay (naming names t) ts text (subst (λ z. Among z (naming names t)) (sym e) (comes t names))
all_come names (t ∷ ts) text (inr m) = all_come (naming names t) ts text m

there_among : {A B : Type 0} (has : A → List B) (y : B) (xs : List A) (k : ℕ) (x : A) → slice_get xs k ≡ Some x → Among y (has x) → Among y (flat_map has xs)
there_among has y [] k x e m = cc
there_among has y (z ∷ zs) zero x e m =
    let same : z ≡ x = cc in
    among_left y (has z) (flat_map has zs) (subst (λ w. Among y (has w)) (sym same) m)
there_among has y (z ∷ zs) (suc k) x e m = among_right y (has z) (flat_map has zs) (there_among has y zs k x e m)

-- the texts of a step are names of the code
pub named : (c : List Function) (g : ℕ) (f : Function) (place : ℕ) (i : Step) → slice_get c g ≡ Some f → slice_get f.steps place ≡ Some i
    → (text : List ℕ) → Among text (step_names i) → Among text (names_of c)
named c g f place i there e text m =
    all_come [] (flat_map function_names c) text (there_among function_names text c g f there (there_among step_names text f.steps place i e m))
