-- Steps of the loops that evaluate gates.
use Rattle.std.proofs.Common.{◌≡◌, ℕ, zero, suc, ◌+◌, ◌-◌, ◌*◌, ◌/◌, ◌%◌, ◌^◌, ◌<◌, ◌≤◌, List, [], ◌∷◌, ◌++◌, length, map, take, drop, set, get_or, replicate}
use Rattle.std.proofs.Common.{sum}
use Rattle.std.proofs.Common.{refl, sym, ◌∙◌, ap, ap₂, arith, append_assoc, length-drop}
use Rattle.std.specs.Prelude.{min}
use Rattle.std.specs.List.{zip, flat_map, range_with_len}
use Rattle.std.specs.Int.{bit_at}
use Rattle.std.proofs.Math.Nat.{add-mul-mod_self_right}
use Rattle.std.proofs.lemmas.List.{get_or-take, length-take-le, take_more, take_min, drop_min, set_past, length-map, append-nil, map-id}
use Rattle.std.proofs.lemmas.List.FromFn.{map-range_with_len_more}
use Rattle.std.proofs.lemmas.Slice.Zip.{length-zip}
use Rattle.std.proofs.lemmas.Nat.{pow-add, pow_pos, shr_below}
use Rattle.lane_kernel.proofs.Each.{each-is}
use Rattle.lane_kernel.specs.Lanewise.{placewise}
use Rattle.gates.specs.Clear.{each_two, bits_of}
use Rattle.gates.proofs.Columns.{word}

length-each_two : (f : ℕ → ℕ → ℕ) (xs ys : List ℕ) → length (each_two f xs ys) ≡ min (length xs) (length ys)
length-each_two f xs ys = length-map (zip xs ys) (λ (p : ℕ × ℕ). f p.0 p.1) ∙ length-zip xs ys

word-each_two : (f : ℕ → ℕ → ℕ) (xs ys : List ℕ) (i : ℕ) → i < length xs → i < length ys → word (each_two f xs ys) i ≡ f (word xs i) (word ys i)
word-each_two f (x ∷ xs) (y ∷ ys) zero h k = refl
word-each_two f (x ∷ xs) (y ∷ ys) (suc i) h k = word-each_two f xs ys i (omega arith) (omega arith)
word-each_two f [] ys i h k = absurd (omega arith)
word-each_two f (x ∷ xs) [] i h k = absurd (omega arith)

-- what a kernel makes of the words that both lists have
pub each_two_by_kernel : (f : ℕ → ℕ → ℕ) (xs ys : List ℕ) (n : ℕ) → n ≡ min (length xs) (length ys) → placewise f (take n xs) (take n ys) ≡ each_two f xs ys
each_two_by_kernel f xs ys n e =
    let long : length (take n xs) ≡ n = length-take-le n xs (omega arith) in
    each-is (length (take n xs)) _ (each_two f xs ys) (length-each_two f xs ys ∙ sym e ∙ sym long)
    (λ k h.
    ap₂ f (get_or-take n xs k 0 (omega arith)) (get_or-take n ys k 0 (omega arith)) ∙ sym (word-each_two f xs ys k (omega arith) (omega arith)))

-- ---- shifts by 64 and more

pub shifted_out_up : (x count : ℕ) → 64 ≤ count → 0 ≡ x * 2 ^ count % 2 ^ 64
shifted_out_up x count le =
    let split : count ≡ count - 64 + 64 = omega arith in
    sym (ap (λ n. x * 2 ^ n % 2 ^ 64) split ∙ ap (λ n. x * n % 2 ^ 64) (pow-add 2 (count - 64) 64)
    ∙ ap (λ n. n % 2 ^ 64) (regroup x (2 ^ (count - 64)) (2 ^ 64)) ∙ add-mul-mod_self_right 0 (x * 2 ^ (count - 64)) (2 ^ 64))
  where
    regroup : (a b c : ℕ) → a * (b * c) ≡ 0 + a * b * c
    regroup a b c = grind arith

pub shifted_out_down : (x count : ℕ) → x < 2 ^ 64 → 64 ≤ count → 0 ≡ x / 2 ^ count
shifted_out_down x count small le =
    let bound : 2 ^ count ≡ 2 ^ (count - 64) * 2 ^ 64 = ap (λ n. 2 ^ n) (omega arith) ∙ pow-add 2 (count - 64) 64 in
    let positive = pow_pos (count - 64) in
    let large : 2 ^ 64 ≤ 2 ^ count = at_least (2 ^ count) (2 ^ (count - 64)) bound positive in
    let same : 2 ^ count ≡ 2 ^ (0 + count) = ap (λ n. 2 ^ n) (omega arith) in
    let low : x / 2 ^ count < 1 = shr_below x 0 count (omega arith) in
    omega arith
  where
    at_least : (n k : ℕ) → n ≡ k * 2 ^ 64 → 0 < k → 2 ^ 64 ≤ n
    at_least n k e h = omega arith

-- ---- parts

pub ruleset part_steps = (take_min, drop_min)

pub set_past_end : (xs : List ℕ) (i y : ℕ) → length xs ≤ i → xs ≡ set xs i y
set_past_end xs i y le = sym (set_past xs i y le)

-- ---- lists, part after part

flat_push : {X : Type 0} (f : X → List ℕ) (ys : List X) (y : X) → flat_map f (ys ++ y ∷ []) ≡ flat_map f ys ++ f y
flat_push f [] y = append-nil (f y)
flat_push f (x ∷ ys) y = ap (λ l. f x ++ l) (flat_push f ys y) ∙ sym (append_assoc (f x) (flat_map f ys) (f y))

-- ---- bits

pub bits_more : (x n : ℕ) → map (bit_at x) (range_with_len 0 (n + 1)) ≡ map (bit_at x) (range_with_len 0 n) ++ bit_at x n ∷ []
bits_more x n = map-range_with_len_more (bit_at x) 0 n n (omega arith)

pub bits_whole : (x n : ℕ) → n ≤ 64 → 64 ≤ n → map (bit_at x) (range_with_len 0 n) ≡ bits_of x
unfolding bits_of
bits_whole x n le ge = let whole : n ≡ 64 = omega arith in ap (λ k. map (bit_at x) (range_with_len 0 k)) whole

pub ruleset bit_steps = (bits_more, bits_whole, append_assoc)

pub spread_more : (xs : List ℕ) (i : ℕ) → i < length xs → flat_map bits_of (take (i + 1) xs) ≡ flat_map bits_of (take i xs) ++ bits_of (get_or xs i 0)
spread_more xs i lt = ap (flat_map bits_of) (take_more xs i 0 lt) ∙ flat_push bits_of (take i xs) (get_or xs i 0)

-- ---- words several times, and the sums of parts

pub stretch_more : (count : ℕ) (xs : List ℕ) (i : ℕ) → i < length xs
    → flat_map (λ x. replicate count x) (take (i + 1) xs) ≡ flat_map (λ x. replicate count x) (take i xs) ++ replicate count (get_or xs i 0)
stretch_more count xs i lt =
    ap (flat_map (λ x. replicate count x)) (take_more xs i 0 lt) ∙ flat_push (λ x. replicate count x) (take i xs) (get_or xs i 0)

pub range_push : (n : ℕ) → range_with_len 0 (n + 1) ≡ range_with_len 0 n ++ n ∷ []
range_push n =
    sym (map-id (range_with_len 0 (n + 1)))
    ∙ map-range_with_len_more (λ k. k) 0 n n (omega arith)
    ∙ ap (λ l. l ++ n ∷ []) (map-id (range_with_len 0 n))

pub tile_more : (xs : List ℕ) (n : ℕ) → flat_map (λ k. xs) (range_with_len 0 (n + 1)) ≡ flat_map (λ k. xs) (range_with_len 0 n) ++ xs
tile_more xs n = ap (flat_map (λ k. xs)) (range_push n) ∙ flat_push (λ k. xs) (range_with_len 0 n) n

abbrev pub total_at : (size : ℕ) → List ℕ → ℕ → ℕ
total_at size xs k = sum (take size (drop (k * size) xs)) % 2 ^ 64

pub totals_more : (size : ℕ) (xs : List ℕ) (n : ℕ)
    → map (total_at size xs) (range_with_len 0 (n + 1)) ≡ map (total_at size xs) (range_with_len 0 n) ++ total_at size xs n ∷ []
totals_more size xs n = map-range_with_len_more (total_at size xs) 0 n n (omega arith)

-- where parts begin, and how long they are, in a list that may end before
pub next_from : (size k len from n : ℕ) → from ≡ min (k * size) n → len ≡ min size (n - from) → from + len ≡ min ((k + 1) * size) n
next_from size k len from n e1 e2 = let more : (k + 1) * size ≡ k * size + size = grind arith in omega arith

pub total_of_part : (size k len from : ℕ) (xs : List ℕ) → from ≡ min (k * size) (length xs) → len ≡ min size (length xs - from)
    → sum (take len (drop from xs)) % 2 ^ 64 ≡ total_at size xs k
total_of_part size k len from xs e1 e2 =
    let rest : length (drop (k * size) xs) ≡ length xs - k * size = length-drop (k * size) xs in
    let long : len ≡ min size (length (drop (k * size) xs)) = omega arith in
    ap (λ ys. sum (take len ys) % 2 ^ 64) (ap (λ n. drop n xs) e1 ∙ drop_min (k * size) xs)
    ∙ ap (λ ys. sum ys % 2 ^ 64) (ap (λ n. take n (drop (k * size) xs)) long ∙ take_min size (drop (k * size) xs))

pub ruleset total_steps = (totals_more, total_of_part, next_from)
