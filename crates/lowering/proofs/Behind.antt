-- Pieces after others.
use Rattle.std.proofs.Common.{◌≡◌, ℕ, ◌+◌, List, [], ◌∷◌, ◌++◌, length, sym, ap, ◌∙◌, arith, append_assoc, length-append}
use Rattle.std.specs.Prelude.{slice_set}
use Rattle.std.proofs.lemmas.List.{length_push, set_at}
use Rattle.verified_code.specs.Steps.{Step}
use Rattle.lowered_expressions.specs.Built.{BodyPiece, whole, Built, with_step}
use Rattle.lowered_expressions.proofs.Building.{body_of}
use Rattle.lowering.specs.inner.Pieces.{with_pieces}

pub then_pieces : (b : Built) (p q : List BodyPiece) → with_pieces (with_pieces b p) q ≡ with_pieces b (p ++ q)
then_pieces b p q = ap body_of (append_assoc b.pieces p q)

-- where a body goes on after pieces, and after a step
pub places_behind : (b d : Built) (p : List BodyPiece) → d ≡ with_pieces b p → length d.pieces ≡ length b.pieces + length p
places_behind b d p e = ap (λ (z : Built). length z.pieces) e ∙ length-append b.pieces p

pub places_step : (b d : Built) (i : Step) → d ≡ with_step b i → length d.pieces ≡ length b.pieces + 1
places_step b d i e = ap (λ (z : Built). length z.pieces) e ∙ length_push b.pieces (whole i)

pub one_write : (c b : List BodyPiece) (x i : BodyPiece) (n : ℕ) → n ≡ length c → slice_set ((c ++ x ∷ []) ++ b) n i ≡ c ++ i ∷ b
one_write c b x i n e =
    ap (λ (z : List BodyPiece). slice_set z n i) (append_assoc c (x ∷ []) b) ∙ set_at c x b i n (sym e)

pub two_writes : (c a b : List BodyPiece) (x y i j : BodyPiece) (n m : ℕ) → n ≡ length c → m ≡ length c + 1 + length a
    → slice_set (slice_set ((((c ++ x ∷ []) ++ a) ++ y ∷ []) ++ b) n i) m j ≡ c ++ i ∷ (a ++ j ∷ b)
two_writes c a b x y i j n m e f =
    let flat : (((c ++ x ∷ []) ++ a) ++ y ∷ []) ++ b ≡ (c ++ x ∷ []) ++ (a ++ y ∷ b) = simp append_assoc in
    let second : length (c ++ i ∷ a) ≡ m = omega (arith, f, length-append c (i ∷ a)) in
    ap (λ (z : List BodyPiece). slice_set (slice_set z n i) m j) flat
    ∙ ap (λ (z : List BodyPiece). slice_set z m j) (one_write c (a ++ y ∷ b) x i n e ∙ sym (append_assoc c (i ∷ a) (y ∷ b)))
    ∙ set_at (c ++ i ∷ a) y b j m second
    ∙ append_assoc c (i ∷ a) (j ∷ b)
