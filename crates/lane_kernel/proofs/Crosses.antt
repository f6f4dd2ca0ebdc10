-- Eight words more of the products of two miners' factors.
use Rattle.std.proofs.Common.{◌≡◌, ℕ, ◌+◌, ◌<◌, ◌≤◌, List, length, sym, ◌∙◌, ap, ap₂, arith}
use lib.Lanes.{put_chunk, chunk, zip2}
use Rattle.std.proofs.lemmas.Simd.{get_or-zip2, length-chunk, length-zip2}
use Rattle.proto_core.specs.Ring.{Ring}
use Rattle.proto_core.specs.Lists.{at}
use Rattle.lane_kernel.specs.Lanewise.{crossed}
use Rattle.proto_core.proofs.Edits.{edited}
use Rattle.lane_kernel.proofs.Several.{edited_several, at-zip2_chunks}

both_long : (f : ℕ → ℕ → ℕ) (xs ys : List ℕ) → length xs ≡ 8 → length ys ≡ 8 → length (zip2 f xs ys) ≡ 8
both_long f xs ys a b = length-zip2 f xs ys (a ∙ sym b) ∙ a

at_both : (f : ℕ → ℕ → ℕ) (xs ys : List ℕ) (k : ℕ) → length xs ≡ 8 → length ys ≡ 8 → k < 8 → at (zip2 f xs ys) k ≡ f (at xs k) (at ys k)
at_both f xs ys k a b lt = get_or-zip2 f xs ys k 0 0 0 (omega (arith, a)) (omega (arith, b))

module _ (r : Ring) (i : ℕ) (u v up vp : List ℕ) (hu : i + 8 ≤ length u) (hv : i + 8 ≤ length v) (hup : i + 8 ≤ length up) (hvp : i + 8 ≤ length vp) where
  abbrev pub part : List ℕ → List ℕ → List ℕ
  part x y = zip2 r.mul (chunk i 8 x) (chunk i 8 y)

  part_long : (x y : List ℕ) → i + 8 ≤ length x → i + 8 ≤ length y → length (part x y) ≡ 8
  part_long x y hx hy = both_long r.mul (chunk i 8 x) (chunk i 8 y) (length-chunk i 8 x hx) (length-chunk i 8 y hy)

  abbrev pub crossed_lanes : List ℕ
  crossed_lanes = zip2 r.add (zip2 r.add (part u v) (part u vp)) (part up v)

  pub crossed_more : (w before after : List ℕ) → i + 8 ≤ length w → before ≡ edited i (crossed r u v up vp) w
      → after ≡ put_chunk i before crossed_lanes → after ≡ edited (i + 8) (crossed r u v up vp) w
  crossed_more w before after le was put =
      let uv = part_long u v hu hv in
      let uvp = part_long u vp hu hvp in
      let upv = part_long up v hup hv in
      let two = both_long r.add (part u v) (part u vp) uv uvp in
      put ∙ ap (λ z. put_chunk i z crossed_lanes) was
      ∙ edited_several i 8 (crossed r u v up vp) w crossed_lanes (both_long r.add (zip2 r.add (part u v) (part u vp)) (part up v) two upv) le
      (λ k lt.
      at_both r.add (zip2 r.add (part u v) (part u vp)) (part up v) k two upv lt
      ∙ ap₂ r.add
      (at_both r.add (part u v) (part u vp) k uv uvp lt
      ∙ ap₂ r.add (at-zip2_chunks r.mul i 8 u v k hu hv lt) (at-zip2_chunks r.mul i 8 u vp k hu hvp lt))
      (at-zip2_chunks r.mul i 8 up v k hup hv lt))
