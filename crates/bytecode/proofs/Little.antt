-- Numbers that are written byte by byte, and lists of numbers one by one.
use Rattle.std.proofs.Common.{◌≡◌, ℕ, suc, ◌+◌, ◌-◌, ◌/◌, ◌%◌, ◌<◌, ◌≤◌, List, [], ◌∷◌, ◌++◌, map, length, take, get_or, refl, sym, ap, ◌∙◌, subst}
use Rattle.std.proofs.Common.{arith, append_assoc, append-nil, take_all}
use Rattle.std.proofs.lemmas.List.{take_more, map-append}
use Rattle.std.proofs.lemmas.List.Folds.{flat_map-map}
use Rattle.std.proofs.lemmas.Grind.{flat_map-append}
use Rattle.std.specs.List.{flat_map}
use Rattle.bytecode.specs.Written.{Number, sized, little, bytes_of}

pub little_begins : (text : List ℕ) (n x : ℕ) → text ++ little (n - 0) x ≡ text ++ little n x
little_begins text n x = let e : n - 0 ≡ n = omega arith in ap (λ k. text ++ little k x) e

pub little_more : (text : List ℕ) (n place x : ℕ) → place < n → (text ++ x % 256 ∷ []) ++ little (n - (place + 1)) (x / 256) ≡ text ++ little (n - place) x
little_more text n place x h =
    let e : n - place ≡ suc (n - (place + 1)) = omega arith in
    append_assoc text (x % 256 ∷ []) (little (n - (place + 1)) (x / 256)) ∙ ap (λ k. text ++ little k x) (sym e)

pub little_ends : (text : List ℕ) (n x : ℕ) → text ++ little (n - n) x ≡ text
little_ends text n x = let e : n - n ≡ 0 = omega arith in ap (λ k. text ++ little k x) e ∙ append-nil text

pub bytes_of-append : (xs ys : List Number) → bytes_of (xs ++ ys) ≡ bytes_of xs ++ bytes_of ys
bytes_of-append [] ys = refl
bytes_of-append (sized n x ∷ xs) ys = ap (λ z. little n x ++ z) (bytes_of-append xs ys) ∙ sym (append_assoc (little n x) (bytes_of xs) (bytes_of ys))

-- more numbers after those that a text ends with
pub behind_bytes : (start old new : List ℕ) (xs ys : List Number) → old ≡ start ++ bytes_of xs → new ≡ old ++ bytes_of ys → new ≡ start ++ bytes_of (xs ++ ys)
behind_bytes start old new xs ys e f =
    f ∙ ap (λ z. z ++ bytes_of ys) e ∙ append_assoc start (bytes_of xs) (bytes_of ys) ∙ ap (λ z. start ++ z) (sym (bytes_of-append xs ys))

pub one_number : (start new : List ℕ) (n x : ℕ) → new ≡ start ++ little n x → new ≡ start ++ bytes_of (sized n x ∷ [])
one_number start new n x e = e ∙ ap (λ z. start ++ z) (sym (append-nil (little n x)))

-- ---- loops that write one thing after the other

pub more_numbers : {X : Type 0} (f : X → Number) (xs : List X) (i : ℕ) (d : X) (start old new : List ℕ) → i < length xs
    → old ≡ start ++ bytes_of (map f (take i xs)) → new ≡ old ++ bytes_of (f (get_or xs i d) ∷ []) → new ≡ start ++ bytes_of (map f (take (i + 1) xs))
more_numbers f xs i d start old new l e g =
    behind_bytes start old new (map f (take i xs)) (f (get_or xs i d) ∷ []) e g
    ∙ ap (λ z. start ++ bytes_of z) (sym (map-append f (take i xs) (get_or xs i d ∷ [])) ∙ ap (map f) (sym (take_more xs i d l)))

pub more_pieces : {X : Type 0} (f : X → List Number) (xs : List X) (i : ℕ) (d : X) (start old new : List ℕ) → i < length xs
    → old ≡ start ++ bytes_of (flat_map f (take i xs)) → new ≡ old ++ bytes_of (f (get_or xs i d)) → new ≡ start ++ bytes_of (flat_map f (take (i + 1) xs))
more_pieces f xs i d start old new l e g =
    behind_bytes start old new (flat_map f (take i xs)) (f (get_or xs i d)) e g
    ∙ ap (λ z. start ++ bytes_of (flat_map f (take i xs) ++ z)) (sym (append-nil (f (get_or xs i d))))
    ∙ ap (λ z. start ++ bytes_of z) (sym (flat_map-append f (take i xs) (get_or xs i d ∷ [])) ∙ ap (flat_map f) (sym (take_more xs i d l)))

pub map_twice : {X Y Z : Type 0} (g : Y → Z) (f : X → Y) (xs : List X) → map g (map f xs) ≡ map (λ x. g (f x)) xs
map_twice g f [] = refl
map_twice g f (x ∷ xs) = ap (λ z. g (f x) ∷ z) (map_twice g f xs)

-- the element as a loop over a list has it
pub more_items : {X : Type 0} (f : X → List Number) (xs : List X) (i : ℕ) (x : X) → x ≡ get_or xs i x → (start old new : List ℕ) → i < length xs
    → old ≡ start ++ bytes_of (flat_map f (take i xs)) → new ≡ old ++ bytes_of (f x) → new ≡ start ++ bytes_of (flat_map f (take (i + 1) xs))
more_items f xs i x e start old new l g h = more_pieces f xs i x start old new l g (subst (λ y. new ≡ old ++ bytes_of (f y)) e h)

-- what a loop over mapped elements has written in the end
pub all_items : {X Y : Type 0} (f : Y → List Number) (g : X → Y) (xs : List X) (i : ℕ) (start new : List ℕ) → length xs ≤ i
    → new ≡ start ++ bytes_of (flat_map (λ x. f (g x)) (take i xs)) → new ≡ start ++ bytes_of (flat_map f (map g xs))
all_items f g xs i start new l e =
    e ∙ ap (λ z. start ++ bytes_of z) (ap (flat_map (λ x. f (g x))) (take_all i xs l) ∙ sym (flat_map-map f g xs))
