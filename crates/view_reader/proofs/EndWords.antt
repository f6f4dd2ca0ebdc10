-- The words of an end by their count.
use Rattle.std.proofs.Common.{◌≡◌, ℕ, ◌<◌, ◌≤◌, true, false, if◌then◌else◌, List, [], ◌∷◌, map, length, sym, ap, arith}
use Rattle.std.specs.Prelude.{codes, bytes_eq, get_or, None}
use Rattle.std.specs.Borrow.{Bor}
use Rattle.view_text.specs.Reading.{end_in, trap_end_in, tape_end_in}

abbrev shown : List (Bor (List ℕ)) → List (List ℕ)
shown ws = map (λ word. word.now) ws

abbrev at : List (Bor (List ℕ)) → ℕ → Bor (List ℕ) → List ℕ
at ws i d = (get_or ws i d).now

pub tape_words : (ws : List (Bor (List ℕ))) (d : Bor (List ℕ)) → 8 ≤ length ws → length ws < 9 → bytes_eq (codes "tape") (at ws 0 d) ≡ true →
    tape_end_in (at ws 1 d) (at ws 2 d) (at ws 3 d) (at ws 4 d) (at ws 5 d) (at ws 6 d) (at ws 7 d) ≡ end_in (shown ws)
tape_words [] d h l e = absurd (omega (arith, h))
tape_words (w0 ∷ []) d h l e = absurd (omega (arith, h))
tape_words (w0 ∷ w1 ∷ []) d h l e = absurd (omega (arith, h))
tape_words (w0 ∷ w1 ∷ w2 ∷ []) d h l e = absurd (omega (arith, h))
tape_words (w0 ∷ w1 ∷ w2 ∷ w3 ∷ []) d h l e = absurd (omega (arith, h))
tape_words (w0 ∷ w1 ∷ w2 ∷ w3 ∷ w4 ∷ []) d h l e = absurd (omega (arith, h))
tape_words (w0 ∷ w1 ∷ w2 ∷ w3 ∷ w4 ∷ w5 ∷ []) d h l e = absurd (omega (arith, h))
tape_words (w0 ∷ w1 ∷ w2 ∷ w3 ∷ w4 ∷ w5 ∷ w6 ∷ []) d h l e = absurd (omega (arith, h))
tape_words (w0 ∷ w1 ∷ w2 ∷ w3 ∷ w4 ∷ w5 ∷ w6 ∷ w7 ∷ []) d h l e =
    sym (ap (λ b. if b then tape_end_in w1.now w2.now w3.now w4.now w5.now w6.now w7.now else None) e)
tape_words (w0 ∷ w1 ∷ w2 ∷ w3 ∷ w4 ∷ w5 ∷ w6 ∷ w7 ∷ w8 ∷ ws) d h l e = absurd (omega (arith, l))

pub no_tape_words : (ws : List (Bor (List ℕ))) (d : Bor (List ℕ)) → 8 ≤ length ws → length ws < 9 → bytes_eq (codes "tape") (at ws 0 d) ≡ false →
    None ≡ end_in (shown ws)
no_tape_words [] d h l e = absurd (omega (arith, h))
no_tape_words (w0 ∷ []) d h l e = absurd (omega (arith, h))
no_tape_words (w0 ∷ w1 ∷ []) d h l e = absurd (omega (arith, h))
no_tape_words (w0 ∷ w1 ∷ w2 ∷ []) d h l e = absurd (omega (arith, h))
no_tape_words (w0 ∷ w1 ∷ w2 ∷ w3 ∷ []) d h l e = absurd (omega (arith, h))
no_tape_words (w0 ∷ w1 ∷ w2 ∷ w3 ∷ w4 ∷ []) d h l e = absurd (omega (arith, h))
no_tape_words (w0 ∷ w1 ∷ w2 ∷ w3 ∷ w4 ∷ w5 ∷ []) d h l e = absurd (omega (arith, h))
no_tape_words (w0 ∷ w1 ∷ w2 ∷ w3 ∷ w4 ∷ w5 ∷ w6 ∷ []) d h l e = absurd (omega (arith, h))
no_tape_words (w0 ∷ w1 ∷ w2 ∷ w3 ∷ w4 ∷ w5 ∷ w6 ∷ w7 ∷ []) d h l e =
    sym (ap (λ b. if b then tape_end_in w1.now w2.now w3.now w4.now w5.now w6.now w7.now else None) e)
no_tape_words (w0 ∷ w1 ∷ w2 ∷ w3 ∷ w4 ∷ w5 ∷ w6 ∷ w7 ∷ w8 ∷ ws) d h l e = absurd (omega (arith, l))

pub no_trap_words : (ws : List (Bor (List ℕ))) (d : Bor (List ℕ)) → 6 ≤ length ws → length ws < 7 → bytes_eq (codes "trap") (at ws 0 d) ≡ false →
    None ≡ end_in (shown ws)
no_trap_words [] d h l e = absurd (omega (arith, h))
no_trap_words (w0 ∷ []) d h l e = absurd (omega (arith, h))
no_trap_words (w0 ∷ w1 ∷ []) d h l e = absurd (omega (arith, h))
no_trap_words (w0 ∷ w1 ∷ w2 ∷ []) d h l e = absurd (omega (arith, h))
no_trap_words (w0 ∷ w1 ∷ w2 ∷ w3 ∷ []) d h l e = absurd (omega (arith, h))
no_trap_words (w0 ∷ w1 ∷ w2 ∷ w3 ∷ w4 ∷ []) d h l e = absurd (omega (arith, h))
no_trap_words (w0 ∷ w1 ∷ w2 ∷ w3 ∷ w4 ∷ w5 ∷ []) d h l e = sym (ap (λ b. if b then trap_end_in w1.now w2.now w3.now w4.now w5.now else None) e)
no_trap_words (w0 ∷ w1 ∷ w2 ∷ w3 ∷ w4 ∷ w5 ∷ w6 ∷ ws) d h l e = absurd (omega (arith, l))
