-- Names as they are noted, and where they stand.
use Rattle.std.proofs.Common.{◌≡◌, ℕ, ◌+◌, List, [], ◌∷◌, ◌++◌, length, Some, None, Bool, true, false, cond, refl, sym, ap, ap₂, ◌∙◌, arith}
use Rattle.std.specs.Prelude.{map, not, ◌||◌}
use Rattle.std.specs.List.{list_any, position, position_or_len}
use Rattle.std.specs.Str.{bytes_eq}
use Rattle.std.proofs.lemmas.List.{map_push}
use Rattle.std.proofs.lemmas.List.Recursion.{is_position_or_len}
use Rattle.std.proofs.lemmas.List.Sums.{prefix_len-le-length}
use Rattle.code_model.specs.Instructions.{naming, naming_all, place_among}
use Rattle.lowered_expressions.proofs.Numbers.{told, missed}

any_map : {X Y : Type 0} (test : Y → Bool) (f : X → Y) (xs : List X) → list_any test (map f xs) ≡ list_any (λ x. test (f x)) xs
any_map test f [] = refl
any_map test f (x ∷ xs) = ap (λ b. test (f x) || b) (any_map test f xs)

-- ---- WHERE THEY STAND

place_is : {X : Type 0} (text : List ℕ) (f : X → List ℕ) (ks : List X) → place_among text (map f ks) ≡ position_or_len (λ k. bytes_eq text (f k)) ks
place_is {X} text f ks =
    is_position_or_len (λ (xs : List X). place_among text (map f xs)) (λ k. bytes_eq text (f k)) refl
    (λ x xs. let one : place_among text (map f xs) + 1 ≡ 1 + place_among text (map f xs) = omega arith in ap (cond (bytes_eq text (f x)) 0) one) ks

pub place_found : {X : Type 0} (text : List ℕ) (f : X → List ℕ) (ks : List X) (n : ℕ) → position (λ k. bytes_eq text (f k)) ks ≡ Some n
    → n ≡ place_among text (map f ks)
place_found text f ks n e = told (position_or_len (λ k. bytes_eq text (f k)) ks) (length ks) n e ∙ sym (place_is text f ks)

pub place_missing : {X : Type 0} (text : List ℕ) (f : X → List ℕ) (ks : List X) → position (λ k. bytes_eq text (f k)) ks ≡ None
    → length ks ≡ place_among text (map f ks)
place_missing text f ks e =
    missed (position_or_len (λ k. bytes_eq text (f k)) ks) (length ks) (prefix_len-le-length (λ x. not (bytes_eq text (f x))) ks) e
    ∙ sym (place_is text f ks)

-- ---- ONE MORE

naming_new : (names : List (List ℕ)) (text : List ℕ) → list_any (bytes_eq text) names ≡ false → naming names text ≡ names ++ text ∷ []
naming_new names text e = ap (λ (b : Bool). cond b names (names ++ text ∷ [])) e

naming_old : (names : List (List ℕ)) (text : List ℕ) → list_any (bytes_eq text) names ≡ true → naming names text ≡ names
naming_old names text e = ap (λ (b : Bool). cond b names (names ++ text ∷ [])) e

was : (new b : Bool) → new ≡ not b → new ≡ true → b ≡ false
was new true e f = cc
was new false e f = refl

was_not : (new b : Bool) → new ≡ not b → new ≡ false → b ≡ true
was_not new true e f = refl
was_not new false e f = cc

pub noted_new : {X : Type 0} (f : X → List ℕ) (ks ks2 : List X) (k : X) (new : Bool) (text : List ℕ) (list list2 : List (List ℕ)) (name : List ℕ)
    → new ≡ not (list_any (λ x. bytes_eq (f k) (f x)) ks) → ks2 ≡ cond (list_any (λ x. bytes_eq (f k) (f x)) ks) ks (ks ++ k ∷ []) → new ≡ true
    → f k ≡ text → name ≡ text → list2 ≡ list ++ name ∷ [] → list ≡ map f ks
    → (map f ks2 ≡ naming (map f ks) text) × (list2 ≡ map f ks2)
noted_new f ks ks2 k new text list list2 name added keys is_new same copied more before =
    let fresh : list_any (λ x. bytes_eq (f k) (f x)) ks ≡ false = was new (list_any (λ x. bytes_eq (f k) (f x)) ks) added is_new in
    let now : map f ks2 ≡ map f ks ++ text ∷ [] =
    ap (map f) (keys ∙ ap (λ (b : Bool). cond b ks (ks ++ k ∷ [])) fresh) ∙ map_push f ks k ∙ ap (λ (z : List ℕ). map f ks ++ z ∷ []) same in
    let none : list_any (bytes_eq text) (map f ks) ≡ false =
    ap (λ (z : List ℕ). list_any (bytes_eq z) (map f ks)) (sym same) ∙ any_map (bytes_eq (f k)) f ks ∙ fresh in (
      now ∙ sym (naming_new (map f ks) text none),
      more ∙ ap₂ (λ (l : List (List ℕ)) (z : List ℕ). l ++ z ∷ []) before copied ∙ sym now,
    )

pub noted_old : {X : Type 0} (f : X → List ℕ) (ks ks2 : List X) (k : X) (new : Bool) (text : List ℕ) (list : List (List ℕ))
    → new ≡ not (list_any (λ x. bytes_eq (f k) (f x)) ks) → ks2 ≡ cond (list_any (λ x. bytes_eq (f k) (f x)) ks) ks (ks ++ k ∷ []) → new ≡ false
    → f k ≡ text → list ≡ map f ks
    → (map f ks2 ≡ naming (map f ks) text) × (list ≡ map f ks2)
noted_old f ks ks2 k new text list added keys is_old same before =
    let there : list_any (λ x. bytes_eq (f k) (f x)) ks ≡ true = was_not new (list_any (λ x. bytes_eq (f k) (f x)) ks) added is_old in
    let now : map f ks2 ≡ map f ks = ap (map f) (keys ∙ ap (λ (b : Bool). cond b ks (ks ++ k ∷ [])) there) in
    let some : list_any (bytes_eq text) (map f ks) ≡ true =
    ap (λ (z : List ℕ). list_any (bytes_eq z) (map f ks)) (sym same) ∙ any_map (bytes_eq (f k)) f ks ∙ there in
    (now ∙ sym (naming_old (map f ks) text some), before ∙ sym now)

-- ---- ALL OF THEM

pub naming_both : (names xs ys : List (List ℕ)) → naming_all names (xs ++ ys) ≡ naming_all (naming_all names xs) ys
naming_both names [] ys = refl
naming_both names (x ∷ xs) ys = naming_both (naming names x) xs ys
