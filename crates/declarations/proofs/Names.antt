-- A table of names stays a table of names.
use Rattle.std.proofs.Common.{◌≡◌, ℕ, ◌+◌, List, [], ◌∷◌, ◌++◌, refl, sym, ap, ◌∙◌, Option, Some, None, Bool, true, false, cond, length, arith}
use Rattle.std.specs.Prelude.{map, bytes_eq, option_map, if◌then◌else◌}
use Rattle.std.specs.Bool.{one_answer}
use Rattle.std.specs.BTreeMap.{BTreeMap}
use Rattle.std.specs.Map.{update}
use Rattle.std.proofs.lemmas.List.{map-append, length-map}
use Rattle.std.proofs.lemmas.Slice.Eq.{bytes_eq-Decides}
use denote.Ref.{Bor}
use Rattle.declarations.specs.Declarations.{number_in}
use Rattle.declarations.specs.Index.{found, text_of, IsNumbered}

-- the number of a name in a list and one more
abbrev pub behind : Option ℕ → ℕ → Bool → Option ℕ
behind (Some k) n b = Some k
behind None n b = if b then Some n else None

pub number_in-append : (x : List ℕ) (xs : List (List ℕ)) (y : List ℕ) → number_in x (xs ++ y ∷ []) ≡ behind (number_in x xs) (length xs) (bytes_eq x y)
number_in-append x [] y = go (bytes_eq x y)
  where
    go : (b : Bool) → cond b (Some 0) (option_map (λ k. k + 1) (number_in x [])) ≡ behind None 0 b
    go true = refl
    go false = refl
number_in-append x (z ∷ zs) y = go (bytes_eq x z) (number_in x zs) (bytes_eq x y) (number_in-append x zs y)
  where
    go : (b : Bool) (o : Option ℕ) (c : Bool) → number_in x (zs ++ y ∷ []) ≡ behind o (length zs) c
        → cond b (Some 0) (option_map (λ k. k + 1) (number_in x (zs ++ y ∷ []))) ≡ behind (cond b (Some 0) (option_map (λ k. k + 1) o)) (length (z ∷ zs)) c
    go true o c e = refl
    go false (Some k) c e = ap (option_map (λ k. k + 1)) e
    go false None true e = ap (option_map (λ k. k + 1)) e ∙ ap Some (omega arith)
    go false None false e = ap (option_map (λ k. k + 1)) e

-- two lists of bytes are tested alike from both sides
pub bytes_eq-swap : (x y : List ℕ) → bytes_eq x y ≡ bytes_eq y x
bytes_eq-swap x y = one_answer (bytes_eq x y) (bytes_eq y x) (bytes_eq-Decides x y)
    ((λ t. sym ((bytes_eq-Decides y x).0 t)), (λ e. (bytes_eq-Decides y x).1 (sym e)))

-- what a map has after a name that it has not had
pub numbered_more : (names : List (Bor (List ℕ))) (m n : BTreeMap (Bor (List ℕ)) ℕ) (x : Bor (List ℕ)) → IsNumbered names m → found m x.now ≡ None
    → ((q : List ℕ) → found n q ≡ update bytes_eq (found m) x.now (Some (length names)) q) → IsNumbered (names ++ x ∷ []) n
numbered_more names m n x old absent updates = record { numbers = each }
  where
    each : (q : List ℕ) → found n q ≡ number_in q (map text_of (names ++ x ∷ []))
    each q =
        updates q
        ∙ go (bytes_eq x.now q) (number_in q (map text_of names)) refl refl
        ∙ sym (number_in-append q (map text_of names) x.now)
        ∙ ap (number_in q) (sym (map-append text_of names (x ∷ [])))
      where
        go : (b : Bool) (o : Option ℕ) → bytes_eq x.now q ≡ b → number_in q (map text_of names) ≡ o
            → cond b (Some (length names)) (found m q) ≡ behind o (length (map text_of names)) (bytes_eq q x.now)
        go true (Some k) e f = let same : x.now ≡ q = (bytes_eq-Decides x.now q).0 e in let here : number_in x.now (map text_of names) ≡ None =
            sym (old.numbers x.now) ∙ absent in cc
        go true None e f = let swapped : bytes_eq q x.now ≡ true = bytes_eq-swap q x.now ∙ e in rw (swapped, length-map names text_of) refl
        go false (Some k) e f = old.numbers q ∙ f
        go false None e f = let swapped : bytes_eq q x.now ≡ false = bytes_eq-swap q x.now ∙ e in rw swapped (old.numbers q ∙ f)

-- and after one that it has
pub numbered_again : (names : List (Bor (List ℕ))) (m : BTreeMap (Bor (List ℕ)) ℕ) (x : Bor (List ℕ)) → IsNumbered names m
    → (found m x.now ≡ None → ⊥) → IsNumbered (names ++ x ∷ []) m
numbered_again names m x old there = record { numbers = each }
  where
    each : (q : List ℕ) → found m q ≡ number_in q (map text_of (names ++ x ∷ []))
    each q =
        old.numbers q
        ∙ go (number_in q (map text_of names)) (bytes_eq q x.now) refl refl
        ∙ sym (number_in-append q (map text_of names) x.now)
        ∙ ap (number_in q) (sym (map-append text_of names (x ∷ [])))
      where
        go : (o : Option ℕ) (b : Bool) → number_in q (map text_of names) ≡ o → bytes_eq q x.now ≡ b → o ≡ behind o (length (map text_of names)) b
        go (Some i) b f e = refl
        go None false f e = refl
        go None true f e = let same : q ≡ x.now = (bytes_eq-Decides q x.now).0 e in
            absurd (there (old.numbers x.now ∙ ap (λ z. number_in z (map text_of names)) (sym same) ∙ f))
