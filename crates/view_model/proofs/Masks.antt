-- Masks of one value correspond one to one, and a miner's share is made of what corresponds.
use Rattle.std.proofs.Common.{◌≡◌, ℕ, zero, suc, ◌-◌, ◌*◌, ◌<◌, ◌≤◌, ◌^◌, List, [], ◌∷◌, ◌++◌, length, take, drop, refl, sym, ◌∙◌, ap, arith}
use Rattle.std.proofs.lemmas.List.{length-take-le, length-drop, length-append, take-append-drop, take-append-le, drop-append-le}
use Rattle.proto_core.specs.Ring.{Ring, RingLaws}
use Rattle.proto_core.proofs.Sums.{sub-sub}
use Rattle.proto_core.specs.declared.party.Number.{Number}
use Rattle.proto_core.specs.declared.party.Number.TheVariants.{One, Two, Three}
use Rattle.proto_core.specs.Lists.{AreWords}
use Rattle.proto_core.proofs.Parts.{AreWords-append}
use Rattle.proto_core.proofs.Beginnings.{append-none}
use Rattle.proto_core.proofs.MessageFields.{take-front, drop-front}
use Rattle.protocol_model.proofs.Sizes.{past_end, AreWords-take, AreWords-drop}
use Rattle.input_share.specs.Dealing.{left_of, first_masks, second_masks, share_of}
use Rattle.view_model.specs.Dealing.{seen_masks, made_share}

pub length_left_of : (r : Ring) (xs ds es : List ℕ) → length ds ≡ length xs → length es ≡ length xs → length (left_of r xs ds es) ≡ length xs
length_left_of r [] ds es h g = refl
length_left_of r (x ∷ xs) [] es h g = absurd (omega arith)
length_left_of r (x ∷ xs) (d ∷ ds) [] h g = absurd (omega arith)
length_left_of r (x ∷ xs) (d ∷ ds) (e ∷ es) h g = ap suc (length_left_of r xs ds es (omega arith) (omega arith))

module _ {r : Ring} (laws : RingLaws r) where
  pub left_of_words : (xs ds es : List ℕ) → AreWords (left_of r xs ds es)
  left_of_words [] ds es k = past_end k
  left_of_words (x ∷ xs) [] es k = past_end k
  left_of_words (x ∷ xs) (d ∷ ds) [] k = past_end k
  left_of_words (x ∷ xs) (d ∷ ds) (e ∷ es) zero = laws.sub_word (r.sub x d) e
  left_of_words (x ∷ xs) (d ∷ ds) (e ∷ es) (suc k) = left_of_words xs ds es k

  swap : (x y z : ℕ) → r.sub (r.sub x y) z ≡ r.sub (r.sub x z) y
  swap x y z =
      laws.sub_is (r.sub x y) z
      ∙ ap (λ v. r.add v (r.neg z)) (laws.sub_is x y)
      ∙ laws.add_assoc x (r.neg y) (r.neg z)
      ∙ ap (r.add x) (laws.add_comm (r.neg y) (r.neg z))
      ∙ sym (laws.add_assoc x (r.neg z) (r.neg y))
      ∙ ap (λ v. r.add v (r.neg y)) (sym (laws.sub_is x z))
      ∙ sym (laws.sub_is (r.sub x z) y)

  -- what both masks leave, taken as the first mask, leaves the first mask
  mask_twice : (x d e : ℕ) → d < 2 ^ 64 → r.sub (r.sub x (r.sub (r.sub x d) e)) e ≡ d
  mask_twice x d e h =
      ap (λ v. r.sub (r.sub x v) e) (swap x d e)
      ∙ swap x (r.sub (r.sub x e) d) e
      ∙ sub-sub laws (r.sub x e) d h

  left_twice : (xs ds es : List ℕ) → length ds ≡ length xs → length es ≡ length xs → AreWords ds → left_of r xs (left_of r xs ds es) es ≡ ds
  left_twice [] [] es h g words = refl
  left_twice [] (d ∷ ds) es h g words = absurd (omega arith)
  left_twice (x ∷ xs) [] es h g words = absurd (omega arith)
  left_twice (x ∷ xs) (d ∷ ds) [] h g words = absurd (omega arith)
  left_twice (x ∷ xs) (d ∷ ds) (e ∷ es) h g words =
      ap (λ v. v ∷ left_of r xs (left_of r xs ds es) es) (mask_twice x d e (words 0))
      ∙ ap (λ l. d ∷ l) (left_twice xs ds es (omega arith) (omega arith) (λ k. words (suc k)))

take_whole : (n : ℕ) (xs : List ℕ) → length xs ≡ n → take n xs ≡ xs
take_whole n xs h = ap (take n) (sym (append-none xs)) ∙ take-front n xs [] h

-- ---- masks stand in front

first_front : (n : ℕ) (xs ys : List ℕ) → 2 * n ≤ length xs → first_masks n (xs ++ ys) ≡ first_masks n xs
first_front n xs ys h = take-append-le n xs ys (omega arith)

second_front : (n : ℕ) (xs ys : List ℕ) → 2 * n ≤ length xs → second_masks n (xs ++ ys) ≡ second_masks n xs
second_front n xs ys h =
    let behind : length (drop n xs) ≡ length xs - n = length-drop n xs in
    ap (take n) (drop-append-le n xs ys (omega arith)) ∙ take-append-le n (drop n xs) ys (omega arith)

pub made_front : (i : Number) (n : ℕ) (xs ys : List ℕ) → 2 * n ≤ length xs → made_share i n (xs ++ ys) ≡ made_share i n xs
made_front One n xs ys h = first_front n xs ys h
made_front Two n xs ys h = second_front n xs ys h
made_front Three n xs ys h = first_front n xs ys h

pub share_front : (i : Number) (r : Ring) (es xs ys : List ℕ) → 2 * length es ≤ length xs → share_of i r es (xs ++ ys) ≡ share_of i r es xs
share_front One r es xs ys h = first_front (length es) xs ys h
share_front Two r es xs ys h = second_front (length es) xs ys h
share_front Three r es xs ys h =
    ap (λ ds. left_of r es ds (second_masks (length es) (xs ++ ys))) (first_front (length es) xs ys h)
    ∙ ap (left_of r es (first_masks (length es) xs)) (second_front (length es) xs ys h)

-- ---- one value, with just its words

module _ (r : Ring) (laws : RingLaws r) (es words : List ℕ) (size : length words ≡ 2 * length es) where
  abbrev firsts : List ℕ
  firsts = first_masks (length es) words

  abbrev seconds : List ℕ
  seconds = second_masks (length es) words

  behind : length (drop (length es) words) ≡ length es
  behind = let d = length-drop (length es) words in omega arith

  firsts_length : length firsts ≡ length es
  firsts_length = length-take-le (length es) words (omega arith)

  seconds_whole : seconds ≡ drop (length es) words
  seconds_whole = take_whole (length es) (drop (length es) words) behind

  seconds_length : length seconds ≡ length es
  seconds_length = ap length seconds_whole ∙ behind

  abbrev left : List ℕ
  left = left_of r es firsts seconds

  left_length : length left ≡ length es
  left_length = length_left_of r es firsts seconds firsts_length seconds_length

  pub masks_length : (i : Number) → length (seen_masks i r es words) ≡ length words
  masks_length One = refl
  masks_length Two = refl
  masks_length Three =
      let s = length-append left seconds in
      let a = left_length in
      let b = seconds_length in
      omega arith

  pub masks_words : (i : Number) → AreWords words → AreWords (seen_masks i r es words)
  masks_words One h = h
  masks_words Two h = h
  masks_words Three h =
      AreWords-append left seconds (left_of_words laws es firsts seconds) (AreWords-take (length es) _ (AreWords-drop (length es) words h))

  pub masks_made : (i : Number) → share_of i r es words ≡ made_share i (length es) (seen_masks i r es words)
  masks_made One = refl
  masks_made Two = refl
  masks_made Three = sym (take-front (length es) left seconds left_length)

  pub masks_twice : (i : Number) → AreWords words → seen_masks i r es (seen_masks i r es words) ≡ words
  masks_twice One h = refl
  masks_twice Two h = refl
  masks_twice Three h =
      let first : first_masks (length es) (left ++ seconds) ≡ left = take-front (length es) left seconds left_length in
      let second : second_masks (length es) (left ++ seconds) ≡ seconds =
      ap (take (length es)) (drop-front (length es) left seconds left_length) ∙ take_whole (length es) seconds seconds_length in
      ap (λ ds. left_of r es ds (second_masks (length es) (left ++ seconds)) ++ second_masks (length es) (left ++ seconds)) first
      ∙ ap (λ ss. left_of r es left ss ++ ss) second
      ∙ ap (λ ds. ds ++ seconds) (left_twice laws es firsts seconds firsts_length seconds_length (AreWords-take (length es) words h))
      ∙ ap (λ ss. firsts ++ ss) seconds_whole
      ∙ take-append-drop (length es) words
