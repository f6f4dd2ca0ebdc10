-- Values by what is held of them.
use Rattle.std.proofs.Common.{◌≡◌, ℕ, zero, suc, ◌+◌, ◌≤◌, ◌<◌, ◌⊎◌, inl, inr, List, [], ◌∷◌}
use Rattle.std.proofs.Common.{◌≢◌, ◌++◌, length, true, cond, refl, sym, ◌∙◌, ap, arith}
use Rattle.std.specs.Prelude.{set}
use Rattle.std.proofs.lemmas.Bool.{cases_lt, cases_eq}
use Rattle.std.proofs.lemmas.List.{get_or_append_left, get_or-append-add, get_or-set_same, get_or-set_other, length-set, ext_get_or}
use Rattle.std.specs.BTreeSet.{BTreeSet, contains}
use Rattle.std.specs.Ordering.{nat_cmp}
use Rattle.gates.specs.Clear.{Values, value}
use Rattle.gates.specs.Held.{first_values, NothingFrom, if_kept, kept_from, kept_only}

length_push : (xs : List (List ℕ)) (x : List ℕ) → length (xs ++ x ∷ []) ≡ suc (length xs)
length_push [] x = refl
length_push (y ∷ ys) x = ap suc (length_push ys x)

pub length_first : (at : ℕ → List ℕ) (n : ℕ) → length (first_values at n) ≡ n
length_first at zero = refl
length_first at (suc n) = length_push (first_values at n) (at n) ∙ ap suc (length_first at n)

-- ---- one more

pub first_same : (at other : ℕ → List ℕ) (n : ℕ) → ((k : ℕ) → k < n → at k ≡ other k) → first_values at n ≡ first_values other n
first_same at other zero h = refl
first_same at other (suc n) h =
    ap (λ xs. xs ++ at n ∷ []) (first_same at other n (λ k l. h k (omega (arith, l)))) ∙ ap (λ x. first_values other n ++ x ∷ []) (h n (omega arith))

pub first_push :
    (at other : ℕ → List ℕ) (n m : ℕ) (words : List ℕ) → m ≡ n + 1 → ((k : ℕ) → k < n → at k ≡ other k) → at n ≡ words →
    first_values at m ≡ first_values other n ++ words ∷ []
first_push at other n m words is h w =
    let next : m ≡ suc n = omega (arith, is) in
    ap (first_values at) next ∙ ap (λ xs. xs ++ at n ∷ []) (first_same at other n h) ∙ ap (λ x. first_values other n ++ x ∷ []) w

-- ---- the value of a number

first_step :
    (at : ℕ → List ℕ) (n k : ℕ) → (k < n → value (first_values at n) k ≡ at k) → k < suc n → (k < n) ⊎ (n ≤ k) →
    value (first_values at n ++ at n ∷ []) k ≡ at k
first_step at n k before l (inl below) =
    let there : k < length (first_values at n) = omega (arith, below, length_first at n) in
    get_or_append_left (first_values at n) (at n ∷ []) [] k there ∙ before below
first_step at n k before l (inr from) =
    let xs = first_values at n in
    let is : k ≡ n = omega (arith, l, from) in
    let place : k ≡ length xs + 0 = omega (arith, is, length_first at n) in
    ap (value (xs ++ at n ∷ [])) place ∙ get_or-append-add xs (at n ∷ []) 0 [] ∙ ap at (sym is)

first_at : (at : ℕ → List ℕ) (n k : ℕ) → k < n → value (first_values at n) k ≡ at k
first_at at zero k l = absurd (omega (arith, l))
first_at at (suc n) k l = first_step at n k (first_at at n k) l (cases_lt k n)

beyond : (values : Values) (k : ℕ) → length values ≤ k → value values k ≡ []
beyond [] k l = refl
beyond (x ∷ xs) zero l = absurd (omega (arith, l))
beyond (x ∷ xs) (suc k) l = beyond xs k (omega (arith, l))

pub value_held : (at : ℕ → List ℕ) (n : ℕ) → NothingFrom n at → (k : ℕ) → value (first_values at n) k ≡ at k
value_held at n none k = by_place (cases_lt k n)
  where
    by_place : (k < n) ⊎ (n ≤ k) → value (first_values at n) k ≡ at k
    by_place (inl below) = first_at at n k below
    by_place (inr from) =
        let past : length (first_values at n) ≤ k = omega (arith, from, length_first at n) in
        beyond (first_values at n) k past ∙ sym (none k from)

-- ---- one is let go

pub first_without :
    (at other : ℕ → List ℕ) (n k : ℕ) → at k ≡ [] → ((j : ℕ) → j < n → j ≢ k → at j ≡ other j) → first_values at n ≡ set (first_values other n) k []
first_without at other n k own others =
    let same : length (first_values at n) ≡ length (set (first_values other n) k []) =
    length_first at n ∙ sym (length-set (first_values other n) k [] ∙ length_first other n) in
    ext_get_or [] (first_values at n) (set (first_values other n) k []) same (λ j l. by_place j (omega (arith, l, length_first at n)) (cases_eq j k))
  where
    by_place : (j : ℕ) → j < n → (j ≡ k) ⊎ (j ≡ k → ⊥) → value (first_values at n) j ≡ value (set (first_values other n) k []) j
    by_place j l (inl is) =
        let there : k < length (first_values other n) = omega (arith, l, is, length_first other n) in
        first_at at n j l ∙ ap at is ∙ own ∙ sym (ap (value (set (first_values other n) k [])) is ∙ get_or-set_same (first_values other n) k [] [] there)
    by_place j l (inr apart) =
        first_at at n j l ∙ others j l apart ∙ sym (get_or-set_other (first_values other n) k j [] [] apart ∙ first_at other n j l)

pub first_moved :
    (at other : ℕ → List ℕ) (n m k : ℕ) (words : List ℕ) → m ≡ n + 1 → at k ≡ [] → ((j : ℕ) → j < n → j ≢ k → at j ≡ other j) → at n ≡ words →
    first_values at m ≡ set (first_values other n) k [] ++ words ∷ []
first_moved at other n m k words is own others w =
    let next : m ≡ suc n = omega (arith, is) in
    ap (first_values at) next
    ∙ ap (λ xs. xs ++ at n ∷ []) (first_without at other n k own others)
    ∙ ap (λ x. set (first_values other n) k [] ++ x ∷ []) w

-- ---- some are kept

kept_push : (numbers : BTreeSet ℕ) (k : ℕ) (values : Values) (words : List ℕ) →
    kept_from numbers k (values ++ words ∷ []) ≡ kept_from numbers k values ++ if_kept numbers (k + length values) words ∷ []
kept_push numbers k [] words = ap (λ j. if_kept numbers j words ∷ []) (omega arith)
kept_push numbers k (x ∷ xs) words =
    ap (λ later. if_kept numbers k x ∷ later)
    (kept_push numbers (suc k) xs words
    ∙ ap (λ j. kept_from numbers (suc k) xs ++ if_kept numbers j words ∷ []) (omega arith))

pub first_kept : (numbers : BTreeSet ℕ) (at other : ℕ → List ℕ) (n : ℕ) → ((k : ℕ) → at k ≡ if_kept numbers k (other k)) →
    first_values at n ≡ kept_only numbers (first_values other n)
first_kept numbers at other zero h = refl
first_kept numbers at other (suc n) h =
    let xs = first_values other n in
    let place : 0 + length xs ≡ n = omega (arith, length_first other n) in
    ap (λ ys. ys ++ at n ∷ []) (first_kept numbers at other n h)
    ∙ ap (λ x. kept_from numbers 0 xs ++ x ∷ []) (h n)
    ∙ sym (kept_push numbers 0 xs (other n) ∙ ap (λ j. kept_from numbers 0 xs ++ if_kept numbers j (other n) ∷ []) place)

pub kept_length : (numbers : BTreeSet ℕ) (k : ℕ) (values : Values) → length (kept_from numbers k values) ≡ length values
kept_length numbers k [] = refl
kept_length numbers k (words ∷ values) = ap suc (kept_length numbers (suc k) values)

if_among : (numbers : BTreeSet ℕ) (k : ℕ) (words : List ℕ) → contains nat_cmp numbers k ≡ true → if_kept numbers k words ≡ words
if_among numbers k words h = ap (λ b. cond b words []) h

-- a value of one of these numbers is as before
pub kept_value :
    (numbers : BTreeSet ℕ) (from : ℕ) (values : Values) (k : ℕ) → contains nat_cmp numbers (from + k) ≡ true →
    value (kept_from numbers from values) k ≡ value values k
kept_value numbers from [] k h = refl
kept_value numbers from (words ∷ values) zero h =
    let here : from + 0 ≡ from = omega arith in
    if_among numbers from words (sym (ap (contains nat_cmp numbers) here) ∙ h)
kept_value numbers from (words ∷ values) (suc k) h =
    let there : suc from + k ≡ from + suc k = omega arith in
    kept_value numbers (suc from) values k (ap (contains nat_cmp numbers) there ∙ h)
