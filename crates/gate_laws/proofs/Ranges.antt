-- The ranges of words, and words that are the same within them.
use Rattle.std.proofs.Common.{◌≡◌, ℕ, zero, suc, ◌<◌, ◌≤◌, List, [], ◌∷◌, ◌++◌, length, map, Bool, true, false, refl, ap, ◌∙◌, arith}
use Rattle.std.specs.Prelude.{replicate, set, take, drop}
use Rattle.proto_core.specs.Lists.{at}
use Rattle.gates.specs.Clear.{each_two, first_word}
use Rattle.language_model.specs.Words.{truth_word}

-- each word is below
abbrev pub Below : ℕ → List ℕ → Type 0
Below b words = (k : ℕ) → at words k < b

pub below_head : (b x : ℕ) (xs : List ℕ) → Below b (x ∷ xs) → x < b
below_head b x xs h = h 0

pub below_tail : (b x : ℕ) (xs : List ℕ) → Below b (x ∷ xs) → Below b xs
below_tail b x xs h = λ k. h (suc k)

pub below_cons : (b x : ℕ) (xs : List ℕ) → x < b → Below b xs → Below b (x ∷ xs)
below_cons b x xs h t zero = h
below_cons b x xs h t (suc k) = t k

pub below_none : (b : ℕ) → 0 < b → Below b []
below_none b h = λ k. h

pub two_below : (a b : ℕ) (f : ℕ → ℕ → ℕ) (xs ys : List ℕ) → 0 < b → ((x y : ℕ) → x < a → y < a → f x y < b) → Below a xs → Below a ys
    → Below b (each_two f xs ys)
two_below a b f [] ys some h p q = below_none b some
two_below a b f (x ∷ xs) [] some h p q = below_none b some
two_below a b f (x ∷ xs) (y ∷ ys) some h p q =
    below_cons b (f x y) (each_two f xs ys) (h x y (below_head a x xs p) (below_head a y ys q))
    (two_below a b f xs ys some h (below_tail a x xs p) (below_tail a y ys q))

pub two_same : (a : ℕ) (f g : ℕ → ℕ → ℕ) (xs ys : List ℕ) → ((x y : ℕ) → x < a → y < a → f x y ≡ g x y) → Below a xs → Below a ys
    → each_two f xs ys ≡ each_two g xs ys
two_same a f g [] ys h p q = refl
two_same a f g (x ∷ xs) [] h p q = refl
two_same a f g (x ∷ xs) (y ∷ ys) h p q =
    ap (λ z. z ∷ each_two f xs ys) (h x y (below_head a x xs p) (below_head a y ys q))
    ∙ ap (λ z. g x y ∷ z) (two_same a f g xs ys h (below_tail a x xs p) (below_tail a y ys q))

pub map_below : (a b : ℕ) (f : ℕ → ℕ) (xs : List ℕ) → 0 < b → ((x : ℕ) → x < a → f x < b) → Below a xs → Below b (map f xs)
map_below a b f [] some h p = below_none b some
map_below a b f (x ∷ xs) some h p =
    below_cons b (f x) (map f xs) (h x (below_head a x xs p)) (map_below a b f xs some h (below_tail a x xs p))

pub map_same : (a : ℕ) (f g : ℕ → ℕ) (xs : List ℕ) → ((x : ℕ) → x < a → f x ≡ g x) → Below a xs → map f xs ≡ map g xs
map_same a f g [] h p = refl
map_same a f g (x ∷ xs) h p =
    ap (λ z. z ∷ map f xs) (h x (below_head a x xs p)) ∙ ap (λ z. g x ∷ z) (map_same a f g xs h (below_tail a x xs p))

pub map_itself : (a : ℕ) (f : ℕ → ℕ) (xs : List ℕ) → ((x : ℕ) → x < a → f x ≡ x) → Below a xs → map f xs ≡ xs
map_itself a f [] h p = refl
map_itself a f (x ∷ xs) h p =
    ap (λ z. z ∷ map f xs) (h x (below_head a x xs p)) ∙ ap (λ z. x ∷ z) (map_itself a f xs h (below_tail a x xs p))

pub replicate_below : (b n x : ℕ) → x < b → Below b (replicate n x)
replicate_below b zero x h = below_none b (omega (arith, h))
replicate_below b (suc n) x h = below_cons b x (replicate n x) h (replicate_below b n x h)

pub append_below : (b : ℕ) (xs ys : List ℕ) → Below b xs → Below b ys → Below b (xs ++ ys)
append_below b [] ys h k = k
append_below b (x ∷ xs) ys h k = below_cons b x (xs ++ ys) (below_head b x xs h) (append_below b xs ys (below_tail b x xs h) k)

pub set_below : (b i y : ℕ) (xs : List ℕ) → y < b → Below b xs → Below b (set xs i y)
set_below b i y [] l h = h
set_below b zero y (x ∷ xs) l h = below_cons b y xs l (below_tail b x xs h)
set_below b (suc i) y (x ∷ xs) l h = below_cons b x (set xs i y) (below_head b x xs h) (set_below b i y xs l (below_tail b x xs h))

pub one_below : (b x : ℕ) → x < b → Below b (x ∷ [])
one_below b x h = below_cons b x [] h (below_none b (omega (arith, h)))

pub truth_below : (t : Bool) → truth_word t < 2
truth_below true = omega arith
truth_below false = omega arith

pub length_replicated : (n x : ℕ) → length (replicate n x) ≡ n
length_replicated zero x = refl
length_replicated (suc n) x = ap suc (length_replicated n x)

pub below_more : (a b : ℕ) (xs : List ℕ) → a ≤ b → Below a xs → Below b xs
below_more a b xs le h = λ k. let low : at xs k < a = h k in omega arith

pub first_below : (b : ℕ) (xs : List ℕ) → 0 < b → Below b xs → first_word xs < b
first_below b [] some h = some
first_below b (x ∷ xs) some h = below_head b x xs h

pub take_below : (b n : ℕ) (xs : List ℕ) → Below b xs → Below b (take n xs)
take_below b zero xs h = λ k. let first : at xs 0 < b = h 0 in omega (arith, first)
take_below b (suc n) [] h = h
take_below b (suc n) (x ∷ xs) h = below_cons b x (take n xs) (below_head b x xs h) (take_below b n xs (below_tail b x xs h))

pub drop_below : (b n : ℕ) (xs : List ℕ) → Below b xs → Below b (drop n xs)
drop_below b zero xs h = h
drop_below b (suc n) [] h = h
drop_below b (suc n) (x ∷ xs) h = drop_below b n xs (below_tail b x xs h)

pub take_length : (n : ℕ) (xs : List ℕ) → length (take n xs) ≤ n
take_length zero xs = omega arith
take_length (suc n) [] = omega arith
take_length (suc n) (x ∷ xs) = let e = take_length n xs in omega (arith, e)
