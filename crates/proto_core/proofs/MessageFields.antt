-- When a message has the shape that is wanted.
use Rattle.std.proofs.Common.{◌≡◌, ℕ, ◌*◌, ◌==◌, Bool, true, false, ◌&&◌, List, [], ◌∷◌, ◌++◌, length, take, drop, refl, sym, ◌∙◌, ap, arith, length-append}
use Rattle.std.specs.List.{list_all}
use Rattle.std.proofs.Math.Seq.{take-append_seam, drop-append_seam}
use Rattle.std.proofs.lemmas.List.{append-nil}
use Rattle.proto_core.specs.Strand.{Field, Words, Bits, Shape, shaped, accepts, has_bits, is_bit}

pub both_true : (a b : Bool) → a ≡ true → b ≡ true → (a && b) ≡ true
both_true true true h k = refl
both_true true false h k = k
both_true false b h k = h

pub first_true : (a b : Bool) → (a && b) ≡ true → a ≡ true
first_true true b h = refl
first_true false b h = h

pub second_true : (a b : Bool) → (a && b) ≡ true → b ≡ true
second_true true b h = h
second_true false b h = cc

pub equal_test : (a b : ℕ) → a ≡ b → (a == b) ≡ true
equal_test a b h = grind arith

equal_from : (a b : ℕ) → (a == b) ≡ true → a ≡ b
equal_from a b h = grind arith

-- the length of an accepted message
pub accepted-length : (s : Shape) (m : List ℕ) → accepts s m ≡ true → length m ≡ length s.fields * s.count
accepted-length s m h = equal_from (length m) (length s.fields * s.count) (first_true _ _ h)

pub take-front : (n : ℕ) (xs ys : List ℕ) → length xs ≡ n → take n (xs ++ ys) ≡ xs
take-front n xs ys e = ap (λ k. take k (xs ++ ys)) (sym e) ∙ take-append_seam xs ys

pub drop-front : (n : ℕ) (xs ys : List ℕ) → length xs ≡ n → drop n (xs ++ ys) ≡ ys
drop-front n xs ys e = ap (λ k. drop k (xs ++ ys)) (sym e) ∙ drop-append_seam xs ys

pub accepts-none : (n : ℕ) → accepts (shaped n []) [] ≡ true
accepts-none n = both_true _ _ (equal_test 0 (0 * n) (omega arith)) refl

-- n words in front
pub accepts-words : (n : ℕ) (fields : List Field) (xs ys : List ℕ) → length xs ≡ n → accepts (shaped n fields) ys ≡ true
    → accepts (shaped n (Words ∷ fields)) (xs ++ ys) ≡ true
accepts-words n fields xs ys len rest =
    let size : length ys ≡ length fields * n = accepted-length (shaped n fields) ys rest in
    both_true _ _
    (equal_test _ _ (length-append xs ys ∙ grind arith))
    (ap (has_bits n fields) (drop-front n xs ys len) ∙ second_true _ _ rest)

-- n bits in front
pub accepts-bits : (n : ℕ) (fields : List Field) (xs ys : List ℕ) → length xs ≡ n → list_all is_bit xs ≡ true → accepts (shaped n fields) ys ≡ true
    → accepts (shaped n (Bits ∷ fields)) (xs ++ ys) ≡ true
accepts-bits n fields xs ys len bits rest =
    let size : length ys ≡ length fields * n = accepted-length (shaped n fields) ys rest in
    both_true _ _
    (equal_test _ _ (length-append xs ys ∙ grind arith))
    (both_true _ _ (ap (list_all is_bit) (take-front n xs ys len) ∙ bits) (ap (has_bits n fields) (drop-front n xs ys len) ∙ second_true _ _ rest))

-- a message of one field
pub accepts-one_words : (n : ℕ) (xs : List ℕ) → length xs ≡ n → accepts (shaped n (Words ∷ [])) xs ≡ true
accepts-one_words n xs len = ap (accepts (shaped n (Words ∷ []))) (sym (append-nil xs)) ∙ accepts-words n [] xs [] len (accepts-none n)

pub accepts-one_bits : (n : ℕ) (xs : List ℕ) → length xs ≡ n → list_all is_bit xs ≡ true → accepts (shaped n (Bits ∷ [])) xs ≡ true
accepts-one_bits n xs len bits = ap (accepts (shaped n (Bits ∷ []))) (sym (append-nil xs)) ∙ accepts-bits n [] xs [] len bits (accepts-none n)

pub accepted-one_words : (n : ℕ) (xs : List ℕ) → accepts (shaped n (Words ∷ [])) xs ≡ true → length xs ≡ n
accepted-one_words n xs h = let l : length xs ≡ 1 * n = accepted-length (shaped n (Words ∷ [])) xs h in omega arith
