-- A message has the shape that is wanted exactly where it has the length and its bit field has only bits.
use Rattle.std.proofs.Common.{◌≡◌, ℕ, zero, suc, ◌+◌, ◌*◌, ◌<◌, ◌==◌, true, List, [], ◌∷◌, length, take, drop, refl, sym, ◌∙◌, arith, inl, inr, subst}
use Rattle.std.specs.List.{list_all}
use Rattle.std.proofs.lemmas.List.{get_or-take, get_or-drop, get_or_past, length-take}
use Rattle.std.proofs.lemmas.Bool.{cases_lt}
use Rattle.proto_core.specs.declared.party.Number.TheVariants.{One, Two, Three}
use Rattle.proto_core.specs.Protocol.{Joint}
use Rattle.proto_core.specs.Lists.{at}
use Rattle.proto_core.specs.Refusals.{AreBits}
use Rattle.proto_core.specs.Strand.{accepts, is_bit}
use Rattle.proto_core.proofs.MessageFields.{accepted-length, both_true, first_true, second_true, equal_test}
use Rattle.share_convert.specs.BitLaws.{all-bits}
use Rattle.share_convert.specs.ConvStrand.{shape12, shape13, shape23, shape32, b_of, e_of, to_two, to_three}
use Rattle.share_convert.specs.Converting.{from_two, from_three}
use Rattle.share_convert.specs.ConvertingLaws.{fits12, fits13, fits23, fits32_of_three}
use Rattle.share_convert.specs.Steps.{HasBits}

bit_from : (x : ℕ) → is_bit x ≡ true → x < 2
bit_from x h = grind arith

bits_from : (xs : List ℕ) → list_all is_bit xs ≡ true → (k : ℕ) → at xs k < 2
bits_from [] h k = omega arith
bits_from (x ∷ xs) h zero = bit_from x (first_true _ _ h)
bits_from (x ∷ xs) h (suc k) = bits_from xs (second_true _ _ h) k

small : (x y : ℕ) → x ≡ y → y < 2 → x < 2
small x y e l = omega arith

-- the words of a field, where it begins
at-field : (n from : ℕ) (m : List ℕ) (k : ℕ) → k < n → at (take n (drop from m)) k ≡ at m (from + k)
at-field n from m k h = get_or-take n (drop from m) k 0 h ∙ get_or-drop from m k 0

are_bits : (n from : ℕ) (m : List ℕ) → list_all is_bit (take n (drop from m)) ≡ true → AreBits m from n
are_bits n from m h k below = small _ _ (sym (at-field n from m k below)) (bits_from _ h k)

field_bits : (n from : ℕ) (m : List ℕ) → AreBits m from n → list_all is_bit (take n (drop from m)) ≡ true
field_bits n from m h = all-bits (take n (drop from m)) each_bit
  where
    each_bit : (k : ℕ) → at (take n (drop from m)) k < 2
    each_bit k =
        elim (cases_lt k n) as (λ c. at (take n (drop from m)) k < 2) [
          | inl below ↦ small _ _ (at-field n from m k below) (h k below)
          | inr past ↦ small _ 0 (get_or_past (take n (drop from m)) k 0 (omega (arith, length-take n (drop from m)))) (omega arith)
        ]

pub accepts12 : (n : ℕ) (m : List ℕ) → HasBits m (3 * n) n n → accepts (shape12 n) m ≡ true
accepts12 n m h = both_true _ _ (equal_test _ _ h.len) (both_true _ _ (field_bits n n m h.bits) refl)

pub accepted12 : (n : ℕ) (m : List ℕ) → accepts (shape12 n) m ≡ true → HasBits m (3 * n) n n
accepted12 n m h =
    record { len = accepted-length (shape12 n) m h; bits = are_bits n n m (first_true _ _ (second_true (length m == 3 * n) _ h)) }

pub accepts13 : (n : ℕ) (m : List ℕ) → HasBits m (2 * n) n n → accepts (shape13 n) m ≡ true
accepts13 n m h = both_true _ _ (equal_test _ _ h.len) (both_true _ _ (field_bits n n m h.bits) refl)

pub accepted13 : (n : ℕ) (m : List ℕ) → accepts (shape13 n) m ≡ true → HasBits m (2 * n) n n
accepted13 n m h =
    record { len = accepted-length (shape13 n) m h; bits = are_bits n n m (first_true _ _ (second_true (length m == 2 * n) _ h)) }

pub accepts23 : (n : ℕ) (m : List ℕ) → HasBits m (2 * n) 0 n → accepts (shape23 n) m ≡ true
accepts23 n m h = both_true _ _ (equal_test _ _ h.len) (both_true _ _ (field_bits n 0 m h.bits) refl)

pub accepted23 : (n : ℕ) (m : List ℕ) → accepts (shape23 n) m ≡ true → HasBits m (2 * n) 0 n
accepted23 n m h =
    record { len = accepted-length (shape23 n) m h; bits = are_bits n 0 m (first_true _ _ (second_true (length m == 2 * n) _ h)) }

pub accepts32 : (n : ℕ) (m : List ℕ) → HasBits m n 0 n → accepts (shape32 n) m ≡ true
accepts32 n m h = both_true _ _ (equal_test (length m) (1 * n) (h.len ∙ omega arith)) (both_true _ _ (field_bits n 0 m h.bits) refl)

pub accepted32 : (n : ℕ) (m : List ℕ) → accepts (shape32 n) m ≡ true → HasBits m n 0 n
accepted32 n m h =
    record {
      len = let size : length m ≡ 1 * n = accepted-length (shape32 n) m h in omega arith;
      bits = are_bits n 0 m (first_true _ _ (second_true (length m == 1 * n) _ h));
    }

-- ---- what the protocol sends has them

pub sent-has12 : (n k : ℕ) (m w : List ℕ) → m ≡ to_two n w → k ≡ n → HasBits m (3 * k) k k
sent-has12 n k m w is e =
    subst (λ x. HasBits m (3 * x) x x) (sym e) (subst (λ x. HasBits x (3 * n) n n) (sym is) (accepted12 n (to_two n w) (fits12 n w)))

pub sent-has13 : (n k : ℕ) (m u w : List ℕ) → m ≡ to_three n u w → k ≡ n → HasBits m (2 * k) k k
sent-has13 n k m u w is e =
    subst (λ x. HasBits m (2 * x) x x) (sym e) (subst (λ x. HasBits x (2 * n) n n) (sym is) (accepted13 n (to_three n u w) (fits13 n u w)))

pub sent-has23 : (n k : ℕ) (m : List ℕ) (j : Joint) → m ≡ from_two n j → length (j.words Two) ≡ n → k ≡ n → HasBits m (2 * k) 0 k
sent-has23 n k m j is size e =
    subst (λ x. HasBits m (2 * x) 0 x) (sym e)
    (subst (λ x. HasBits x (2 * n) 0 n) (sym is) (accepted23 n (from_two n j) (fits23 n (e_of n (j.words One)) (j.u Two) (j.words Two) size)))

pub sent-has32 : (n k : ℕ) (m : List ℕ) (j : Joint) → m ≡ from_three n j → k ≡ n → HasBits m k 0 k
sent-has32 n k m j is e =
    subst (λ x. HasBits m x 0 x) (sym e)
    (subst (λ x. HasBits x n 0 n) (sym is)
    (accepted32 n (from_three n j) (fits32_of_three n (b_of n (j.words One)) (e_of n (j.words One)) (j.u Three))))
