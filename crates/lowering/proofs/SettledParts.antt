-- Pieces that are settled one after another.
use Rattle.std.proofs.Common.{◌≡◌, ℕ, zero, suc, ◌+◌, ◌<◌, List, [], ◌∷◌, ◌++◌, length, get_or, refl, sym, ap, ◌∙◌, arith}
use Rattle.std.specs.Prelude.{map, slice_set}
use Rattle.std.proofs.lemmas.List.{length-map, get_or-map, set-get_or}
use Rattle.verified_code.specs.Steps.{Step}
use Rattle.lowered_expressions.specs.Built.{BodyPiece, whole}
use Rattle.lowering.specs.inner.Pieces.{settled, settled_front, settled_part}

module _ (x y : ℕ) where
  front_none : (ps : List BodyPiece) → settled_front x y 0 ps ≡ ps
  front_none ps = refl

  front_more : (n : ℕ) (ps : List BodyPiece) → settled_part x y n 1 (settled_front x y n ps) ≡ settled_front x y (suc n) ps
  front_more zero [] = refl
  front_more zero (p ∷ ps) = refl
  front_more (suc n) [] = refl
  front_more (suc n) (p ∷ ps) = ap (λ (z : List BodyPiece). settled x y p ∷ z) (front_more n ps)

  part_more : (from n k : ℕ) (ps : List BodyPiece) → k ≡ from + n → settled_part x y k 1 (settled_part x y from n ps) ≡ settled_part x y from (suc n) ps
  part_more zero n k ps e =
      let same : k ≡ n = omega (arith, e) in
      ap (λ (z : ℕ). settled_part x y z 1 (settled_front x y n ps)) same ∙ front_more n ps
  part_more (suc from) n k [] e =
      let same : k ≡ suc (from + n) = omega (arith, e) in
      ap (λ (z : ℕ). settled_part x y z 1 []) same
  part_more (suc from) n k (p ∷ ps) e =
      let same : k ≡ suc (from + n) = omega (arith, e) in
      ap (λ (z : ℕ). settled_part x y z 1 (p ∷ settled_part x y from n ps)) same
      ∙ ap (λ (z : List BodyPiece). p ∷ z) (part_more from n (from + n) ps refl)

  front_length : (n : ℕ) (ps : List BodyPiece) → length (settled_front x y n ps) ≡ length ps
  front_length zero ps = refl
  front_length (suc n) [] = refl
  front_length (suc n) (p ∷ ps) = ap suc (front_length n ps)

  pub part_length : (from n : ℕ) (ps : List BodyPiece) → length (settled_part x y from n ps) ≡ length ps
  part_length zero n ps = front_length n ps
  part_length (suc from) n [] = refl
  part_length (suc from) n (p ∷ ps) = ap suc (part_length from n ps)

  part_none : (from : ℕ) (ps : List BodyPiece) → settled_part x y from 0 ps ≡ ps
  part_none zero ps = refl
  part_none (suc from) [] = refl
  part_none (suc from) (p ∷ ps) = ap (λ (z : List BodyPiece). p ∷ z) (part_none from ps)

  pub part_begins : (from n : ℕ) (ps : List BodyPiece) → n ≡ 0 → ps ≡ settled_part x y from n ps
  part_begins from n ps e = sym (ap (λ (z : ℕ). settled_part x y from z ps) e ∙ part_none from ps)

  pub part_next : (from k n m : ℕ) (ps : List BodyPiece) → k ≡ from + n → m ≡ n + 1
      → settled_part x y k 1 (settled_part x y from n ps) ≡ settled_part x y from m ps
  part_next from k n m ps e f =
      let same : suc n ≡ m = omega (arith, f) in
      part_more from n k ps e ∙ ap (λ (z : ℕ). settled_part x y from z ps) same

  -- the one at a place
  pub part_at : (n : ℕ) (ps : List BodyPiece) (p d : BodyPiece) → n < length ps → get_or ps n d ≡ p → slice_set ps n (settled x y p) ≡ settled_part x y n 1 ps
  part_at n [] p d l e = absurd (omega (arith, l))
  part_at zero (q ∷ ps) p d l e = ap (λ (z : BodyPiece). settled x y z ∷ ps) (sym e)
  part_at (suc n) (q ∷ ps) p d l e =
      let within : n < length ps = omega (arith, l) in
      ap (λ (z : List BodyPiece). q ∷ z) (part_at n ps p d within e)

  front_all : (m r : List BodyPiece) → settled_front x y (length m) (m ++ r) ≡ map (settled x y) m ++ r
  front_all [] r = refl
  front_all (p ∷ m) r = ap (λ (z : List BodyPiece). settled x y p ∷ z) (front_all m r)

  part_all : (q m r : List BodyPiece) → settled_part x y (length q) (length m) (q ++ (m ++ r)) ≡ q ++ (map (settled x y) m ++ r)
  part_all [] m r = front_all m r
  part_all (p ∷ q) m r = ap (λ (z : List BodyPiece). p ∷ z) (part_all q m r)

  pub part_between : (q m r : List BodyPiece) (from n : ℕ) → from ≡ length q → n ≡ length m
      → settled_part x y from n (q ++ (m ++ r)) ≡ q ++ (map (settled x y) m ++ r)
  part_between q m r from n e f =
      ap (λ (z : ℕ). settled_part x y z n (q ++ (m ++ r))) e ∙ ap (λ (z : ℕ). settled_part x y (length q) z (q ++ (m ++ r))) f ∙ part_all q m r

-- what stands at a place, as it is seen
pub seen_at : {X : Type 0} (f : X → BodyPiece) (xs : List X) (i : ℕ) (d : X) (p : BodyPiece) → i < length (map f xs) → d ≡ get_or xs i d → f d ≡ p
    → get_or (map f xs) i p ≡ p
seen_at f xs i d p l e g =
    let within : i < length xs = omega (arith, l, length-map xs f) in
    get_or-map f xs i d p within ∙ ap f (sym e) ∙ g

-- a whole piece stays as it is
pub part_whole : (x y n : ℕ) (ps : List BodyPiece) (i : Step) → n < length ps → get_or ps n (whole i) ≡ whole i → ps ≡ settled_part x y n 1 ps
part_whole x y n ps i l e =
    sym (ap (λ (z : BodyPiece). slice_set ps n z) (sym e) ∙ set-get_or ps n (whole i)) ∙ part_at x y n ps (whole i) (whole i) l e
