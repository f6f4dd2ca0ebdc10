-- A list of which several words in a row are changed at once.
use Rattle.std.proofs.Common.{◌≡◌, ℕ, ◌+◌, ◌-◌, ◌<◌, ◌≤◌, ◌^◌, w64, List, [], ◌∷◌, ◌++◌, length, take, drop, refl, sym, ◌∙◌, ap, ap₂, inl, inr, arith}
use Rattle.std.proofs.Common.{length-append, append_assoc}
use Rattle.std.proofs.lemmas.List.{get_or_append_left, get_or-append_right, get_or-drop, take-append-le, take_all, drop-drop, drop_at}
use Rattle.std.proofs.lemmas.Bool.{cases_lt}
use Rattle.std.proofs.Common.{bit_and, ◌%◌}
use Rattle.std.proofs.Math.Nat.{mod-eq_of_lt}
use lib.Bits.{and_le_r}
use mir.Val.{Fits}
use lib.ListN.{get_or}
use lib.Lanes.{put_chunk, chunk, zip2, Each1}
use Rattle.std.proofs.lemmas.Simd.{put_chunk_is, get_or-chunk, get_or-zip2, length-chunk, length-zip2, chunk-fits, below_from_Fits, Each1-zip2, Each2-all}
use Rattle.proto_core.specs.Lists.{at, each}
use Rattle.proto_core.proofs.Each.{length-each, at-each, each-is}
use Rattle.proto_core.proofs.Edits.{edited, length-edited}

-- what was not changed yet
pub at-edited_beyond : (i : ℕ) (f : ℕ → ℕ) (xs : List ℕ) (j : ℕ) → i ≤ j → at (edited i f xs) j ≡ at xs j
unfolding edited
at-edited_beyond i f xs j le =
    get_or-append_right (each i f) (drop i xs) i j 0 (length-each i f) le
    ∙ get_or-drop i xs (j - i) 0
    ∙ ap (λ k. at xs k) (omega arith)

-- m further words
front_of : (xs ys : List ℕ) (k : ℕ) → k < length xs → at (xs ++ ys) k ≡ at xs k
front_of xs ys k lt = get_or_append_left xs ys 0 k lt

each_several : (i m : ℕ) (f : ℕ → ℕ) (ys : List ℕ) → length ys ≡ m → ((k : ℕ) → k < m → at ys k ≡ f (i + k)) → each (i + m) f ≡ each i f ++ ys
each_several i m f ys e h =
    each-is (i + m) f (each i f ++ ys) (omega (arith, length-append (each i f) ys, length-each i f))
    (λ k lt. elim (cases_lt k i) as (λ c. f k ≡ at (each i f ++ ys) k) [
      | inl below ↦ sym (front_of (each i f) ys k (omega (arith, length-each i f)) ∙ at-each i f k below)
      | inr past ↦ sym (get_or-append_right (each i f) ys i k 0 (length-each i f) past ∙ h (k - i) (omega arith) ∙ ap f (omega arith))
    ])

pub edited_several :
    (i m : ℕ) (f : ℕ → ℕ) (xs ys : List ℕ) → length ys ≡ m → i + m ≤ length xs → ((k : ℕ) → k < m → at ys k ≡ f (i + k)) →
    put_chunk i (edited i f xs) ys ≡ edited (i + m) f xs
unfolding edited
edited_several i m f xs ys e le h =
    put_chunk_is i (edited i f xs) ys (omega (arith, length-edited i f xs (omega arith)))
    ∙ ap₂ (λ a b. a ++ (ys ++ drop (length ys) b)) (take-each i f xs) (drop_at (each i f) (drop i xs) i (length-each i f))
    ∙ ap (λ b. each i f ++ (ys ++ b)) (ap (λ n. drop n (drop i xs)) e ∙ drop-drop m i xs)
    ∙ sym (append_assoc (each i f) ys (drop (i + m) xs))
    ∙ ap (λ z. z ++ drop (i + m) xs) (sym (each_several i m f ys e h))
  where
    take-each : (i : ℕ) (f : ℕ → ℕ) (xs : List ℕ) → take i (each i f ++ drop i xs) ≡ each i f
    take-each i f xs =
        take-append-le i (each i f) (drop i xs) (omega (arith, length-each i f)) ∙ take_all i (each i f) (omega (arith, length-each i f))

-- a word of two chunks
pub at-zip2_chunks : (op : ℕ → ℕ → ℕ) (i m : ℕ) (xs ys : List ℕ) (k : ℕ) → i + m ≤ length xs → i + m ≤ length ys → k < m
    → at (zip2 op (chunk i m xs) (chunk i m ys)) k ≡ op (at xs (i + k)) (at ys (i + k))
at-zip2_chunks op i m xs ys k hx hy lt =
    get_or-zip2 op (chunk i m xs) (chunk i m ys) k 0 0 0 (omega (arith, length-chunk i m xs hx)) (omega (arith, length-chunk i m ys hy))
    ∙ ap₂ op (get_or-chunk i m xs k 0 lt) (get_or-chunk i m ys k 0 lt)

-- ---- words in lanes

pub chunk_words : (i m : ℕ) (xs : List ℕ) → ((k : ℕ) → Fits w64 (get_or xs k 0)) → Each1 (λ y. y < 2 ^ 64) (chunk i m xs)
chunk_words i m xs h = below_from_Fits w64 (chunk i m xs) (chunk-fits w64 i m xs h)

pub made_words : (f : ℕ → ℕ → ℕ) → ((x y : ℕ) → f x y < 2 ^ 64) → (xs ys : List ℕ) → Each1 (λ y. y < 2 ^ 64) (zip2 f xs ys)
made_words f h xs ys = Each1-zip2 f (λ y. y < 2 ^ 64) xs ys (Each2-all (λ x y. f x y < 2 ^ 64) h xs ys)

pub zip2_same :
    (f g : ℕ → ℕ → ℕ) (xs ys : List ℕ) → Each1 (λ y. y < 2 ^ 64) xs → Each1 (λ y. y < 2 ^ 64) ys →
    ((x y : ℕ) → x < 2 ^ 64 → y < 2 ^ 64 → f x y ≡ g x y) → zip2 f xs ys ≡ zip2 g xs ys
zip2_same f g [] ys a b h = refl
zip2_same f g (x ∷ xs) [] a b h = refl
zip2_same f g (x ∷ xs) (y ∷ ys) a b h = ap₂ (λ (z : ℕ) zs. z ∷ zs) (h x y a.0 b.0) (zip2_same f g xs ys a.1 b.1 h)

pub and_is_word : (x y : ℕ) → x < 2 ^ 64 → y < 2 ^ 64 → bit_and x y ≡ bit_and x y % 2 ^ 64
and_is_word x y h k = sym (mod-eq_of_lt (omega (arith, and_le_r x y)))

-- ---- eight words on

pub lanes_more :
    (op : ℕ → ℕ → ℕ) (i : ℕ) (xs ys acc after : List ℕ) → i + 8 ≤ length xs → length ys ≡ length xs →
    acc ≡ edited i (λ k. op (at xs k) (at ys k)) xs → after ≡ put_chunk i acc (zip2 op (chunk i 8 acc) (chunk i 8 ys)) →
    after ≡ edited (i + 8) (λ k. op (at xs k) (at ys k)) xs
lanes_more op i xs ys acc after le e was put =
    put ∙ ap (λ zs. put_chunk i zs (zip2 op (chunk i 8 zs) (chunk i 8 ys))) was ∙ core
  where
    long : length (edited i (λ k. op (at xs k) (at ys k)) xs) ≡ length xs
    long = length-edited i (λ k. op (at xs k) (at ys k)) xs (omega arith)

    first : length (chunk i 8 (edited i (λ k. op (at xs k) (at ys k)) xs)) ≡ 8
    first = length-chunk i 8 (edited i (λ k. op (at xs k) (at ys k)) xs) (omega (arith, long))

    second : length (chunk i 8 ys) ≡ 8
    second = length-chunk i 8 ys (omega arith)

    core : put_chunk i (edited i (λ k. op (at xs k) (at ys k)) xs)
        (zip2 op (chunk i 8 (edited i (λ k. op (at xs k) (at ys k)) xs)) (chunk i 8 ys))
        ≡ edited (i + 8) (λ k. op (at xs k) (at ys k)) xs
    core =
        edited_several i 8 (λ k. op (at xs k) (at ys k)) xs
        (zip2 op (chunk i 8 (edited i (λ k. op (at xs k) (at ys k)) xs)) (chunk i 8 ys))
        (length-zip2 op (chunk i 8 (edited i (λ k. op (at xs k) (at ys k)) xs)) (chunk i 8 ys) (first ∙ sym second) ∙ first)
        le
        (λ k lt.
        at-zip2_chunks op i 8 (edited i (λ k. op (at xs k) (at ys k)) xs) ys k (omega (arith, long)) (omega arith) lt
        ∙ ap (λ z. op z (at ys (i + k))) (at-edited_beyond i (λ k. op (at xs k) (at ys k)) xs (i + k) (omega arith)))
