-- Fields one after another.
use Rattle.std.proofs.Common.{◌≡◌, ℕ, suc, ◌+◌, ◌-◌, ◌*◌, ◌<◌, ◌≤◌, ◌^◌, List, ◌++◌, length, take, drop, refl, sym, ◌∙◌, ap, inl, inr, arith}
use Rattle.std.proofs.Common.{length-drop, take-append-drop, append_assoc}
use Rattle.std.proofs.lemmas.List.{get_or_append_left, get_or-append_right, get_or-take, get_or-drop, length-take-le}
use Rattle.std.proofs.lemmas.Bool.{cases_lt}
use Rattle.proto_core.specs.Lists.{at, each, part, AreWords}
use Rattle.proto_core.proofs.Each.{length-each, at-each, each-ext, each-is, each_none, each_more, AreWords-each}

pub length-part : (n j : ℕ) (xs : List ℕ) → length (part n j xs) ≡ n
unfolding part
length-part n j xs = length-each n (λ k. at xs (j * n + k))

pub at-part : (n j : ℕ) (xs : List ℕ) (k : ℕ) → k < n → at (part n j xs) k ≡ at xs (j * n + k)
unfolding part
at-part n j xs k h = at-each n (λ i. at xs (j * n + i)) k h

pub AreWords-part : (n j : ℕ) (xs : List ℕ) → AreWords xs → AreWords (part n j xs)
unfolding part
AreWords-part n j xs words = AreWords-each n (λ k. at xs (j * n + k)) (λ k. words (j * n + k))

pub AreWords-append : (xs ys : List ℕ) → AreWords xs → AreWords ys → AreWords (xs ++ ys)
AreWords-append xs ys hx hy k =
    elim (cases_lt k (length xs)) as (λ c. at (xs ++ ys) k < 2 ^ 64) [
      | inl below ↦ small _ _ (get_or_append_left xs ys 0 k below) (hx k)
      | inr past ↦ small _ _ (get_or-append_right xs ys (length xs) k 0 refl past) (hy (k - length xs))
    ]
  where
    small : (x y : ℕ) → x ≡ y → y < 2 ^ 64 → x < 2 ^ 64
    small x y e l = omega arith

-- the first field of words that begin with it, and the others
pub part-append_first : (n : ℕ) (xs ys : List ℕ) → length xs ≡ n → part n 0 (xs ++ ys) ≡ xs
unfolding part
part-append_first n xs ys e =
    each-is n _ xs e
    (λ k h. let below : k < length xs = omega arith in
    ap (λ i. at (xs ++ ys) i) (omega arith) ∙ get_or_append_left xs ys 0 k below)

pub part-append_rest : (n j : ℕ) (xs ys : List ℕ) → length xs ≡ n → part n (suc j) (xs ++ ys) ≡ part n j ys
unfolding part
part-append_rest n j xs ys e =
    each-ext n _ _
    (λ k h. let past : n ≤ suc j * n + k = grind arith in
    get_or-append_right xs ys n (suc j * n + k) 0 e past ∙ ap (λ i. at ys i) (grind arith))

pub part-all : (n : ℕ) (xs : List ℕ) → length xs ≡ n → part n 0 xs ≡ xs
unfolding part
part-all n xs e = each-is n _ xs e (λ k h. ap (λ i. at xs i) (omega arith))

pub part-take : (n : ℕ) (xs : List ℕ) → n ≤ length xs → part n 0 xs ≡ take n xs
unfolding part
part-take n xs le =
    each-is n _ (take n xs) (length-take-le n xs le)
    (λ k h. ap (λ i. at xs i) (omega arith) ∙ sym (get_or-take n xs k 0 h))

pub part-drop : (n j : ℕ) (xs : List ℕ) → part n (suc j) xs ≡ part n j (drop n xs)
unfolding part
part-drop n j xs =
    each-ext n _ _ (λ k h. ap (λ i. at xs i) (grind arith) ∙ sym (get_or-drop n xs (j * n + k) 0))

pub parts_of_two : (n : ℕ) (xs : List ℕ) → length xs ≡ 2 * n → part n 0 xs ++ part n 1 xs ≡ xs
parts_of_two n xs e =
    let rest : length (drop n xs) ≡ n = omega (arith, length-drop n xs) in
    let le : n ≤ length xs = omega arith in
    simp (part-take n xs le, part-drop n 0 xs, part-all n (drop n xs) rest) (take-append-drop n xs)

pub parts_of_three : (n : ℕ) (xs : List ℕ) → length xs ≡ 3 * n → part n 0 xs ++ (part n 1 xs ++ part n 2 xs) ≡ xs
parts_of_three n xs e =
    let rest : length (drop n xs) ≡ 2 * n = omega (arith, length-drop n xs) in
    let le : n ≤ length xs = omega arith in
    ap (λ l. part n 0 xs ++ l) (ap (λ l. l ++ part n 2 xs) (part-drop n 0 xs) ∙ ap (λ l. part n 0 (drop n xs) ++ l) (part-drop n 1 xs)
    ∙ parts_of_two n (drop n xs) rest)
    ∙ ap (λ l. l ++ drop n xs) (part-take n xs le) ∙ take-append-drop n xs

-- two fields, and the three of two fields before a third
pub two_first : (n : ℕ) (xs ys : List ℕ) → length xs ≡ n → part n 0 (xs ++ ys) ≡ xs
two_first n xs ys e = part-append_first n xs ys e

pub two_second : (n : ℕ) (xs ys : List ℕ) → length xs ≡ n → length ys ≡ n → part n 1 (xs ++ ys) ≡ ys
two_second n xs ys e f = part-append_rest n 0 xs ys e ∙ part-all n ys f

pub three_first : (n : ℕ) (xs ys zs : List ℕ) → length xs ≡ n → part n 0 ((xs ++ ys) ++ zs) ≡ xs
three_first n xs ys zs e = ap (part n 0) (append_assoc xs ys zs) ∙ part-append_first n xs (ys ++ zs) e

pub three_second : (n : ℕ) (xs ys zs : List ℕ) → length xs ≡ n → length ys ≡ n → part n 1 ((xs ++ ys) ++ zs) ≡ ys
three_second n xs ys zs e f = ap (part n 1) (append_assoc xs ys zs) ∙ part-append_rest n 0 xs (ys ++ zs) e ∙ part-append_first n ys zs f

pub three_third : (n : ℕ) (xs ys zs : List ℕ) → length xs ≡ n → length ys ≡ n → length zs ≡ n → part n 2 ((xs ++ ys) ++ zs) ≡ zs
three_third n xs ys zs e f g = ap (part n 2) (append_assoc xs ys zs) ∙ part-append_rest n 1 xs (ys ++ zs) e ∙ part-append_rest n 0 ys zs f ∙ part-all n zs g

-- four fields
pub four_first : (n : ℕ) (xs ys zs ws : List ℕ) → length xs ≡ n → part n 0 (xs ++ (ys ++ (zs ++ ws))) ≡ xs
four_first n xs ys zs ws e = part-append_first n xs _ e

pub four_second : (n : ℕ) (xs ys zs ws : List ℕ) → length xs ≡ n → length ys ≡ n → part n 1 (xs ++ (ys ++ (zs ++ ws))) ≡ ys
four_second n xs ys zs ws e f = part-append_rest n 0 xs _ e ∙ part-append_first n ys _ f

pub four_third : (n : ℕ) (xs ys zs ws : List ℕ) → length xs ≡ n → length ys ≡ n → length zs ≡ n → part n 2 (xs ++ (ys ++ (zs ++ ws))) ≡ zs
four_third n xs ys zs ws e f g = part-append_rest n 1 xs _ e ∙ part-append_rest n 0 ys _ f ∙ part-append_first n zs _ g

pub four_fourth : (n : ℕ) (xs ys zs ws : List ℕ) → length xs ≡ n → length ys ≡ n → length zs ≡ n → length ws ≡ n → part n 3 (xs ++ (ys ++ (zs ++ ws))) ≡ ws
four_fourth n xs ys zs ws e f g h = part-append_rest n 2 xs _ e ∙ part-append_rest n 1 ys _ f ∙ part-append_rest n 0 zs _ g ∙ part-all n ws h

pub parts_of_four : (n : ℕ) (xs : List ℕ) → length xs ≡ 4 * n → part n 0 xs ++ (part n 1 xs ++ (part n 2 xs ++ part n 3 xs)) ≡ xs
parts_of_four n xs e =
    let rest : length (drop n xs) ≡ 3 * n = omega (arith, length-drop n xs) in
    let le : n ≤ length xs = omega arith in
    ap (λ l. part n 0 xs ++ l)
    (ap (λ l. l ++ (part n 2 xs ++ part n 3 xs)) (part-drop n 0 xs)
    ∙ ap (λ l. part n 0 (drop n xs) ++ (l ++ part n 3 xs)) (part-drop n 1 xs)
    ∙ ap (λ l. part n 0 (drop n xs) ++ (part n 1 (drop n xs) ++ l)) (part-drop n 2 xs)
    ∙ parts_of_three n (drop n xs) rest)
    ∙ ap (λ l. l ++ drop n xs) (part-take n xs le) ∙ take-append-drop n xs

-- what a loop over one field needs
pub ruleset part_steps = (length-each, each_none, each_more, at-part, length-part)

pub part-is : (n j from : ℕ) (xs : List ℕ) → from ≡ j * n → each n (λ k. at xs (from + k)) ≡ part n j xs
unfolding part
part-is n j from xs e = ap (λ f. each n (λ k. at xs (f + k))) e

part-shifted : (n j from : ℕ) (xs : List ℕ) → from ≡ j * n → part n 0 (drop from xs) ≡ part n j xs
unfolding part
part-shifted n j from xs e = each-ext n _ _ (λ k below. get_or-drop from xs (0 * n + k) 0 ∙ ap (at xs) (grind arith))

-- a field is a slice
pub part_slice : (n j from : ℕ) (xs : List ℕ) → from ≡ j * n → from + n ≤ length xs → take n (drop from xs) ≡ part n j xs
part_slice n j from xs e h =
    let l = length-drop from xs in
    sym (part-take n (drop from xs) (omega arith)) ∙ part-shifted n j from xs e
