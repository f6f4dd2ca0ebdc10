-- What stays an image when bytes are given, and when they are written.
use Rattle.std.proofs.Common.{◌≡◌, ◌≤◌, ◌<◌, ◌+◌, ◌-◌, ℕ, inl, inr, List, ◌++◌, length, take, drop, get_or, replicate, max}
use Rattle.std.proofs.Common.{refl, ◌∙◌, ap, arith, length-append, length-take, length-drop}
use Rattle.std.proofs.lemmas.List.{length-replicate, get_or_append_left, get_or-append_right, get_or-take, get_or-drop}
use Rattle.kept_disk.specs.Images.{Moment, IsImage, Outside, overlaid, given_more, settled}

pub image_settled : (bytes : List ℕ) → IsImage (settled bytes) bytes
image_settled bytes = record { no_shorter = omega arith; no_longer = omega arith; same = λ i l o. refl }

-- bytes were given, and the file is as it was
pub image_given : (m : Moment) (bytes : List ℕ) (from count : ℕ) → IsImage m bytes → IsImage (given_more m from count) bytes
image_given m bytes from count im = record {
  no_shorter = im.no_shorter;
  no_longer = let a = im.no_longer in omega (arith, a);
  same = λ i l o. im.same i l o.1;
}

module _ (bytes : List ℕ) (from : ℕ) (piece : List ℕ) where
  abbrev zeros : List ℕ
  zeros = replicate (from - length bytes) 0

  abbrev left : List ℕ
  left = drop (from + length piece) bytes

  -- what comes before the piece
  front_long : length (take from bytes ++ zeros) ≡ from
  front_long =
      let a = length-append (take from bytes) zeros in
      let b = length-take from bytes in
      let z : ℕ = 0 in
      let c = length-replicate (from - length bytes) z in
      omega (arith, a, b, c)

  most_long : length ((take from bytes ++ zeros) ++ piece) ≡ from + length piece
  most_long =
      let a = length-append (take from bytes ++ zeros) piece in
      omega (arith, a, front_long)

  pub overlaid_long : length (overlaid bytes from piece) ≡ max (from + length piece) (length bytes)
  overlaid_long =
      let a = length-append ((take from bytes ++ zeros) ++ piece) left in
      let b = length-drop (from + length piece) bytes in
      omega (arith, a, b, most_long)

  before : (i : ℕ) → i < from → i < length bytes → get_or (overlaid bytes from piece) i 0 ≡ get_or bytes i 0
  before i l m =
      let a = length-take from bytes in
      get_or_append_left ((take from bytes ++ zeros) ++ piece) left 0 i (omega (arith, l, most_long))
      ∙ get_or_append_left (take from bytes ++ zeros) piece 0 i (omega (arith, l, front_long))
      ∙ get_or_append_left (take from bytes) zeros 0 i (omega (arith, a, l, m))
      ∙ get_or-take from bytes i 0 l

  behind : (i : ℕ) → from + length piece ≤ i → get_or (overlaid bytes from piece) i 0 ≡ get_or bytes i 0
  behind i l =
      get_or-append_right ((take from bytes ++ zeros) ++ piece) left (from + length piece) i 0 most_long l
      ∙ get_or-drop (from + length piece) bytes (i - (from + length piece)) 0
      ∙ ap (λ n. get_or bytes n 0) (omega (arith, l))

  -- bytes were written, and the file has them
  pub image_overlaid : (m : Moment) → IsImage m bytes → IsImage (given_more m from (length piece)) (overlaid bytes from piece)
  image_overlaid m im = record {
    no_shorter = let a = im.no_shorter in omega (arith, a, overlaid_long);
    no_longer = let a = im.no_longer in omega (arith, a, overlaid_long);
    same = λ i l o. at i l o;
  } where
    inside : (i : ℕ) → i < length m.kept → i < length bytes
    inside i l = let a = im.no_shorter in omega (arith, a, l)

    at : (i : ℕ) → i < length m.kept → Outside i (given_more m from (length piece)).given → get_or (overlaid bytes from piece) i 0 ≡ get_or m.kept i 0
    at i l (inl b, o) = before i b (inside i l) ∙ im.same i l o
    at i l (inr b, o) = behind i b ∙ im.same i l o
