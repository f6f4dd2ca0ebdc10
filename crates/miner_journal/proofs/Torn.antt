-- What one write that a crash cuts short leaves of a file.
use Rattle.std.proofs.Common.{◌≡◌, ◌≤◌, ◌<◌, ◌+◌, ℕ, zero, suc, inl, inr, List, [], ◌∷◌, ◌++◌, length, take, drop, get_or}
use Rattle.std.proofs.Common.{refl, sym, ◌∙◌, ap, arith, append_assoc, length-append, take-append-drop}
use Rattle.std.proofs.lemmas.List.{append-nil, take_at, drop_at, drop_more, drop_all}
use Rattle.std.specs.Prelude.{max, replicate, ◌-◌}
use Rattle.kept_disk.specs.Images.{IsImage, overlaid}

-- ---- lists that have the same elements

same_lists : (xs ys : List ℕ) → length xs ≡ length ys → ((i : ℕ) → i < length ys → get_or xs i 0 ≡ get_or ys i 0) → xs ≡ ys
same_lists [] [] e h = refl
same_lists [] (y ∷ ys) e h = absurd (omega arith)
same_lists (x ∷ xs) [] e h = absurd (omega arith)
same_lists (x ∷ xs) (y ∷ ys) e h =
    ap (λ v. v ∷ xs) (h 0 (omega arith)) ∙ ap (λ vs. y ∷ vs) (same_lists xs ys (omega arith) (λ i l. h (suc i) (omega arith)))

pub front_same :
    (n : ℕ) (xs ys : List ℕ) → n ≤ length ys → length ys ≤ length xs → ((i : ℕ) → i < n → get_or xs i 0 ≡ get_or ys i 0) → take n xs ≡ take n ys
front_same zero xs ys le long h = refl
front_same (suc n) [] [] le long h = absurd (omega arith)
front_same (suc n) [] (y ∷ ys) le long h = absurd (omega arith)
front_same (suc n) (x ∷ xs) [] le long h = absurd (omega arith)
front_same (suc n) (x ∷ xs) (y ∷ ys) le long h =
    ap (λ v. v ∷ take n xs) (h 0 (omega arith))
    ∙ ap (λ vs. y ∷ vs) (front_same n xs ys (omega arith) (omega arith) (λ i l. h (suc i) (omega arith)))

pub back_same :
    (n : ℕ) (xs ys : List ℕ) → length ys ≤ length xs → length xs ≤ max n (length ys)
    → ((i : ℕ) → i < length ys → n ≤ i → get_or xs i 0 ≡ get_or ys i 0) → drop n xs ≡ drop n ys
back_same zero xs ys long bound h = same_lists xs ys (omega arith) (λ i l. h i l (omega arith))
back_same (suc n) [] [] long bound h = refl
back_same (suc n) [] (y ∷ ys) long bound h = absurd (omega arith)
back_same (suc n) (x ∷ xs) [] long bound h = drop_all n xs (omega arith)
back_same (suc n) (x ∷ xs) (y ∷ ys) long bound h =
    back_same n xs ys (omega arith) (omega arith) (λ i l m. h (suc i) (omega arith) (omega arith))

-- ---- images

-- where nothing was given since the sync, a crash leaves what was there
pub image_of_kept : (kept c : List ℕ) → IsImage (record { kept = kept; given = [] }) c → c ≡ kept
image_of_kept kept c im =
    let a = im.no_shorter in
    let b = im.no_longer in
    same_lists c kept (omega arith) (λ i l. im.same i l tt)

module _ (kept : List ℕ) (from count : ℕ) (c : List ℕ) (inside : from ≤ length kept)
    (im : IsImage (record { kept = kept; given = record { from = from; count = count } ∷ [] }) c) where
  pub torn_front : take from c ≡ take from kept
  torn_front = front_same from c kept inside im.no_shorter (λ i l. let m : i < length kept = omega arith in im.same i m (inl l, tt))

  pub torn_back : drop (from + count) c ≡ drop (from + count) kept
  torn_back = back_same (from + count) c kept im.no_shorter im.no_longer (λ i l m. im.same i l (inr m, tt))

-- a piece is laid over a file from a place in it on
pub overlaid_inside : (file : List ℕ) (from : ℕ) (bytes : List ℕ) → from ≤ length file
    → overlaid file from bytes ≡ (take from file ++ bytes) ++ drop (from + length bytes) file
overlaid_inside file from bytes inside =
    let none : from - length file ≡ 0 = omega (arith, inside) in
    ap (λ n. ((take from file ++ replicate n 0) ++ bytes) ++ drop (from + length bytes) file) none
    ∙ ap (λ v. (v ++ bytes) ++ drop (from + length bytes) file) (append-nil (take from file))

-- ---- a file in two parts, written at the border

module _ (front : List ℕ) (gate : ℕ) (tail : List ℕ) (place : ℕ) (long : length front ≡ place) where
  whole : front ++ gate ∷ tail ≡ (front ++ gate ∷ []) ++ tail
  whole = sym (append_assoc front (gate ∷ []) tail)

  gate_long : length (front ++ gate ∷ []) ≡ place + 1
  gate_long = let a = length-append front (gate ∷ []) in omega (arith, a)

  whole_long : length (front ++ gate ∷ tail) ≡ place + (1 + length tail)
  whole_long = let a = length-append front (gate ∷ tail) in omega (arith, a)

  front_is : take place (front ++ gate ∷ tail) ≡ front
  front_is = take_at front (gate ∷ tail) place long

  back_is : drop (place + 1) (front ++ gate ∷ tail) ≡ tail
  back_is = ap (drop (place + 1)) whole ∙ drop_at (front ++ gate ∷ []) tail (place + 1) gate_long

  to_gate_is : take (place + 1) (front ++ gate ∷ tail) ≡ front ++ gate ∷ []
  to_gate_is = ap (take (place + 1)) whole ∙ take_at (front ++ gate ∷ []) tail (place + 1) gate_long

  -- a write after the gate: the gate and what is before it stand in each image
  pub torn_behind : (count : ℕ) (c : List ℕ)
      → IsImage (record { kept = front ++ gate ∷ tail; given = record { from = place + 1; count = count } ∷ [] }) c
      → c ≡ front ++ gate ∷ drop (place + 1) c
  torn_behind count c im =
      let inside : place + 1 ≤ length (front ++ gate ∷ tail) = omega (arith, whole_long) in
      sym (take-append-drop (place + 1) c)
      ∙ ap (λ v. v ++ drop (place + 1) c) (torn_front (front ++ gate ∷ tail) (place + 1) count c inside im ∙ to_gate_is)
      ∙ append_assoc front (gate ∷ []) (drop (place + 1) c)

  pub written_behind : (bytes : List ℕ)
      → overlaid (front ++ gate ∷ tail) (place + 1) bytes ≡ front ++ gate ∷ (bytes ++ drop (place + 1 + length bytes) (front ++ gate ∷ tail))
  written_behind bytes =
      let left = drop (place + 1 + length bytes) (front ++ gate ∷ tail) in
      overlaid_inside (front ++ gate ∷ tail) (place + 1) bytes (omega (arith, whole_long))
      ∙ ap (λ v. (v ++ bytes) ++ left) to_gate_is
      ∙ append_assoc (front ++ gate ∷ []) bytes left
      ∙ append_assoc front (gate ∷ []) (bytes ++ left)

  -- a write of the gate: all else stands in each image
  pub torn_gate : (c : List ℕ)
      → IsImage (record { kept = front ++ gate ∷ tail; given = record { from = place; count = 1 } ∷ [] }) c
      → c ≡ front ++ get_or c place 0 ∷ tail
  torn_gate c im =
      let inside : place ≤ length (front ++ gate ∷ tail) = omega (arith, whole_long) in
      let there : place < length c = omega (arith, whole_long, im.no_shorter) in
      sym (take-append-drop place c)
      ∙ ap (λ v. v ++ drop place c) (torn_front (front ++ gate ∷ tail) place 1 c inside im ∙ front_is)
      ∙ ap (λ v. front ++ v) (drop_more c place 0 there)
      ∙ ap (λ v. front ++ get_or c place 0 ∷ v) (torn_back (front ++ gate ∷ tail) place 1 c inside im ∙ back_is)

  pub written_gate : (x : ℕ) → overlaid (front ++ gate ∷ tail) place (x ∷ []) ≡ front ++ x ∷ tail
  written_gate x =
      overlaid_inside (front ++ gate ∷ tail) place (x ∷ []) (omega (arith, whole_long))
      ∙ ap (λ v. (v ++ (x ∷ [])) ++ drop (place + 1) (front ++ gate ∷ tail)) front_is
      ∙ ap (λ v. (front ++ (x ∷ [])) ++ v) back_is
      ∙ append_assoc front (x ∷ []) tail
