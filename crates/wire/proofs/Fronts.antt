-- Bytes of which a front has been read.
use Rattle.std.proofs.Common.{◌≡◌, ℕ, ◌+◌, Bool, true, false, ltb, List, ◌++◌, length, take, drop, Result, Ok, Err, refl, ap, sym, ◌∙◌, arith, inl, inr}
use Rattle.std.proofs.Common.{if◌then◌else◌}
use Rattle.std.proofs.Math.Seq.{take-append_seam, drop-append_seam}
use Rattle.std.proofs.lemmas.List.{length-append, length-take, get_or-take, get_or-drop, get_or_past}
use Rattle.std.proofs.lemmas.Bool.{le-ltb, cases_lt}
use Rattle.served_bytes.specs.Front.{Front, Whole, Truncated}
use Rattle.wire.specs.declared.bad_frame.BadFrame.{BadFrame}
use Rattle.wire.specs.Frames.{AreBytes, wrong_at}

pub take-front : (n : ℕ) (front rest : List ℕ) → length front ≡ n → take n (front ++ rest) ≡ front
take-front n front rest e = ap (λ (k : ℕ). take k (front ++ rest)) (sym e) ∙ take-append_seam front rest

pub drop-front : (n : ℕ) (front rest : List ℕ) → length front ≡ n → drop n (front ++ rest) ≡ rest
drop-front n front rest e = ap (λ (k : ℕ). drop k (front ++ rest)) (sym e) ∙ drop-append_seam front rest

-- there are as many bytes as the front has
pub enough : (n : ℕ) (front rest : List ℕ) → length front ≡ n → ltb (length (front ++ rest)) n ≡ false
enough n front rest e = le-ltb (length (front ++ rest)) n (omega (arith, length-append front rest))

pub bytes-take : (n : ℕ) (bytes : List ℕ) → AreBytes bytes → AreBytes (take n bytes)
bytes-take n bytes small i = elim (cases_lt i n) [
  | inl below ↦ rw (get_or-take n bytes i 0 below) (small i)
  | inr above ↦ rw (get_or_past (take n bytes) i 0 (omega (arith, length-take n bytes))) (omega arith)
]

pub bytes-drop : (n : ℕ) (bytes : List ℕ) → AreBytes bytes → AreBytes (drop n bytes)
bytes-drop n bytes small i = rw (get_or-drop n bytes i 0) (small (n + i))

-- what came didn't end too early
pub cut-else : {A : Type 0} (b : Bool) (front : Front A) (value : A) (rest : List ℕ) → (if b then Truncated else front) ≡ Whole value rest
    → (b ≡ false) × (front ≡ Whole value rest)
cut-else true front value rest h = absurd cc
cut-else false front value rest h = (refl, h)

-- what was read passed its test
pub or-wrong : {A : Type 0} (b : Bool) (read : Result A BadFrame) (value : A) (place : ℕ)
    → (if b then read else Err (wrong_at place)) ≡ Ok value → (b ≡ true) × (read ≡ Ok value)
or-wrong true read value place h = (refl, h)
or-wrong false read value place h = absurd cc

pub same-front : {A : Type 0} (x y : A) (xs ys : List ℕ) → Whole x xs ≡ Whole y ys → (x ≡ y) × (xs ≡ ys)
same-front x y xs ys h = (cc, cc)
