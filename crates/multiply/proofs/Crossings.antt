-- What the kernels make of fields, and of several words in a row.
use Rattle.std.proofs.Common.{◌≡◌, ℕ, ◌+◌, ◌-◌, ◌*◌, ◌<◌, ◌≤◌, List, ◌++◌, length, take, drop, refl, sym, ◌∙◌, ap, ap₂, arith, length-drop}
use Rattle.std.proofs.lemmas.List.{get_or-take, get_or-drop, length-take-le}
use Rattle.std.proofs.lemmas.Simd.{put_chunk_is}
use lib.Lanes.{put_chunk}
use borrow.Rule.Slice.PartMut.{put_mid}
use Rattle.proto_core.specs.Ring.{Ring, RingLaws}
use Rattle.proto_core.specs.Lists.{at, part}
use Rattle.proto_core.specs.Elementwise.{plus, minus}
use Rattle.proto_core.proofs.Each.{at-each, each-ext, length-each}
use Rattle.proto_core.proofs.Edits.{edited, length-edited}
use Rattle.proto_core.proofs.Parts.{part_slice}
use Rattle.lane_kernel.specs.Lanewise.{placewise, crosses}
use Rattle.lane_kernel.proofs.Several.{edited_several, at-edited_beyond}
use Rattle.multiply.specs.Products.{cross}

-- a miner's products and what masks them, at one place
abbrev pub crossed_at : Ring → (u v previous mask : List ℕ) → ℕ → ℕ → ℕ
crossed_at r u v previous mask n k =
    r.add
    (r.add (r.add (r.mul (at u k) (at v k)) (r.mul (at u k) (at previous (n + k)))) (r.mul (at previous k) (at v k)))
    (at mask k)

-- ---- fields

field : (x words : List ℕ) (number : ℕ) → number * length x + length x ≤ length words
    → take (number * length x + length x - number * length x) (drop (number * length x) words) ≡ part (length x) number words
field x words number le =
    ap (λ k. take k (drop (number * length x) words)) (omega arith)
    ∙ part_slice (length x) number (number * length x) words refl le

pub plus_part : (r : Ring) (x words : List ℕ) (number : ℕ) → number * length x + length x ≤ length words
    → placewise r.add x (take (number * length x + length x - number * length x) (drop (number * length x) words))
    ≡ plus r (length x) x (part (length x) number words)
unfolding plus
plus_part r x words number le = ap (placewise r.add x) (field x words number le)

pub minus_part : (r : Ring) (x words : List ℕ) (number : ℕ) → number * length x + length x ≤ length words
    → placewise r.sub x (take (number * length x + length x - number * length x) (drop (number * length x) words))
    ≡ minus r (length x) x (part (length x) number words)
unfolding minus
minus_part r x words number le = ap (placewise r.sub x) (field x words number le)

-- ---- products

-- at some places: the sum is the same the other way round
pub products_added :
    {r : Ring} (laws : RingLaws r) (n : ℕ) (share u v up vp made : List ℕ) → made ≡ crosses r n u v up vp → n ≡ length share
    → placewise r.add share made ≡ plus r (length share) (cross r (length share) u v up vp) share
unfolding plus cross
products_added {r} laws n share u v up vp made is e =
    ap (placewise r.add share) (is ∙ ap (λ k. crosses r k u v up vp) e) ∙ each-ext (length share) _ _ (λ k h. laws.add_comm _ _)

-- some words in a row
at-some : (i m : ℕ) (xs : List ℕ) (k : ℕ) → k < m → at (take m (drop i xs)) k ≡ at xs (i + k)
at-some i m xs k h = get_or-take m (drop i xs) k 0 h ∙ get_or-drop i xs k 0

pub length-some : (i m : ℕ) (xs : List ℕ) → i + m ≤ length xs → length (take m (drop i xs)) ≡ m
length-some i m xs le = length-take-le m (drop i xs) (omega (arith, length-drop i xs))

as_chunk : (i m : ℕ) (xs ys : List ℕ) → length ys ≡ m → i + m ≤ length xs → put_mid i m xs ys ≡ put_chunk i xs ys
as_chunk i m xs ys e le = ap (λ k. take i xs ++ (ys ++ drop k (drop i xs))) (sym e) ∙ sym (put_chunk_is i xs ys (omega arith))

-- the places from i to e: what was made there, l of them, is put back
module _ (r : Ring) (i e l : ℕ) (u v previous mask before : List ℕ) (some : l ≡ e - i) (le : i ≤ e) (within : e ≤ length mask) where
  abbrev whole : ℕ → ℕ
  whole = crossed_at r u v previous mask (length mask)

  abbrev pub some_crossed : ℕ → List ℕ
  some_crossed m =
      plus r l
      (cross r l (take (e - i) (drop i u)) (take (e - i) (drop i v)) (take (e - i) (drop i previous)) (take m (drop (length mask + i) previous)))
      (take (e - i) (drop i before))

  at-some_crossed : (m k : ℕ) → m ≡ e - i → k < e - i → before ≡ edited i whole mask → at (some_crossed m) k ≡ whole (i + k)
  unfolding plus cross
  at-some_crossed m k long h was =
      let own_u = at-some i (e - i) u k h in
      let own_v = at-some i (e - i) v k h in
      let previous_u = at-some i (e - i) previous k h in
      let previous_v : at (take m (drop (length mask + i) previous)) k ≡ at previous (length mask + (i + k)) =
      at-some (length mask + i) m previous k (omega arith) ∙ ap (at previous) (omega arith) in
      at-each l _ k (omega arith)
      ∙ ap₂ r.add
      (at-each l _ k (omega arith)
      ∙ ap₂ r.add (ap₂ r.add (ap₂ r.mul own_u own_v) (ap₂ r.mul own_u previous_v)) (ap₂ r.mul previous_u own_v))
      (at-some i (e - i) before k h ∙ ap (λ w. at w (i + k)) was ∙ at-edited_beyond i whole mask (i + k) (omega arith))

  length-some_crossed : (m : ℕ) → length (some_crossed m) ≡ e - i
  unfolding plus
  length-some_crossed m = length-each l _ ∙ some

  pub crossed_more : (m : ℕ) (made : List ℕ) → m ≡ e - i → before ≡ edited i whole mask → made ≡ some_crossed m
      → put_mid i (e - i) before made ≡ edited e whole mask
  crossed_more m made long was is =
      let many : length made ≡ e - i = ap length is ∙ length-some_crossed m in
      let fits : length (edited i whole mask) ≡ length mask = length-edited i whole mask (omega arith) in
      ap (λ w. put_mid i (e - i) w made) was
      ∙ as_chunk i (e - i) (edited i whole mask) made many (omega arith)
      ∙ edited_several i (e - i) whole mask made many (omega arith) (λ k h. ap (λ w. at w k) is ∙ at-some_crossed m k long h was)
      ∙ ap (λ k. edited k whole mask) (omega arith)
