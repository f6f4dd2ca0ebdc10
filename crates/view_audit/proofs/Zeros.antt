-- Lines of zeros are of the public part, and their sums of its types.
use Rattle.std.proofs.Common.{◌≡◌, ℕ, zero, suc, ◌+◌, ◌/◌, ◌%◌, true, if◌then◌else◌, List, [], ◌∷◌, get_or, Some, None, refl, ◌∙◌, ap}
use Rattle.std.proofs.lemmas.Nat.Bits.{bit_at-zero}
use Rattle.std.proofs.lemmas.Slice.Eq.{bytes_eq-Decides}
use Rattle.std.specs.Int.{bit_at}
use Rattle.std.specs.Prelude.{option_map}
use Rattle.value_file.specs.declared.value.DataType.{DataType}
use Rattle.value_file.specs.declared.value.DataType.TheVariants.{Uint64, Int64, Bool as Truths_}
use Rattle.value_file.specs.declared.public.PublicValue.{PublicValue}
use Rattle.value_file.specs.declared.public.PublicValue.TheVariants.{Known, Hidden}
use Rattle.value_file.specs.declared.public.PublicEntry.{PublicEntry}
use Rattle.value_file.specs.Values.{size_of}
use Rattle.input_share.specs.AddUp.{sums_of}
use Rattle.input_share.specs.Values.{ring_of, shared_size}
use Rattle.gates.specs.Bits.{bit_of, words_for}
use Rattle.gates.specs.Gathered.{packed, unpacked}
use Rattle.gates.proofs.Packing.{packed-unpacked}
use Rattle.found_inputs.specs.Found.{AreLines}
use Rattle.found_inputs.specs.Sums.{are_of_type, wrong_sums_at}
use Rattle.gate_audit.specs.Shown.{AreShareWords}
use Rattle.view_audit.specs.Found.{zero_lines, zeros}
use Rattle.view_audit.proofs.Padded.{all_words, are_words, zeros_long, zeros_words}

sums_of_zeros : (n : ℕ) → sums_of (ring_of Truths_) (zeros n) (zeros n) (zeros n) ≡ zeros n
unfolding zeros
sums_of_zeros zero = refl
sums_of_zeros (suc n) = ap (λ l. 0 ∷ l) (sums_of_zeros n)

zero_at : (n k : ℕ) → get_or (zeros n) k 0 ≡ 0
unfolding zeros
zero_at zero k = refl
zero_at (suc n) zero = refl
zero_at (suc n) (suc k) = zero_at n k

no_bit : (n k : ℕ) → bit_of (zeros n) k ≡ 0
no_bit n k = ap (λ x. bit_at x (k % 64)) (zero_at n (k / 64)) ∙ bit_at-zero (k % 64)

-- no bit is set, so none past those that stand for truth values
zeros_again : (n : ℕ) → packed (unpacked (zeros (words_for n)) n) ≡ zeros (words_for n)
zeros_again n =
    packed-unpacked (zeros (words_for n)) n (are_words (zeros (words_for n)) (zeros_words (words_for n))) (zeros_long (words_for n))
    (λ k past below. no_bit (words_for n) k)

abbrev lines_of : (kind : DataType) (n : ℕ) → List ℕ
lines_of kind n = zeros (shared_size kind n)

zeros_of_type : (kind : DataType) (n : ℕ) → are_of_type kind n (sums_of (ring_of kind) (lines_of kind n) (lines_of kind n) (lines_of kind n)) ≡ true
zeros_of_type Uint64 n = refl
zeros_of_type Int64 n = refl
zeros_of_type Truths_ n = ap (λ ws. are_of_type Truths_ n ws) (sums_of_zeros (words_for n)) ∙ (bytes_eq-Decides _ _).1 (zeros_again n)

zeros_then_right : (name : List ℕ) (v : PublicValue) (es : List PublicEntry)
    → wrong_sums_at es (zero_lines es) (zero_lines es) (zero_lines es) ≡ None
    → wrong_sums_at (record { name = name; value = v } ∷ es) (zero_lines (record { name = name; value = v } ∷ es))
    (zero_lines (record { name = name; value = v } ∷ es)) (zero_lines (record { name = name; value = v } ∷ es)) ≡ None
zeros_then_right name (Known value) es later = ap (option_map (λ k. 0 + k)) later
zeros_then_right name (Hidden kind shape) es later =
    ap (λ b. if b then option_map (λ k. 1 + k) (wrong_sums_at es (zero_lines es) (zero_lines es) (zero_lines es)) else Some 0)
    (zeros_of_type kind (size_of shape))
    ∙ ap (option_map (λ k. 1 + k)) later

pub zeros_right : (part : List PublicEntry) → wrong_sums_at part (zero_lines part) (zero_lines part) (zero_lines part) ≡ None
zeros_right [] = refl
zeros_right (e ∷ es) = zeros_then_right e.name e.value es (zeros_right es)

lines_then : (name : List ℕ) (v : PublicValue) (es : List PublicEntry) → AreLines es (zero_lines es)
    → AreLines (record { name = name; value = v } ∷ es) (zero_lines (record { name = name; value = v } ∷ es))
lines_then name (Known value) es later = later
lines_then name (Hidden kind shape) es later =
    let n : ℕ = shared_size kind (size_of shape) in ((refl, zeros_long n, all_words (zeros n) (zeros_words n)), later)

pub zeros_are : (part : List PublicEntry) → AreLines part (zero_lines part)
zeros_are [] = refl
zeros_are (e ∷ es) = lines_then e.name e.value es (zeros_are es)

words_then : (name : List ℕ) (v : PublicValue) (es : List PublicEntry) → AreShareWords (zero_lines es)
    → AreShareWords (zero_lines (record { name = name; value = v } ∷ es))
words_then name (Known value) es later = later
words_then name (Hidden kind shape) es later = (zeros_words (shared_size kind (size_of shape)), later)

pub zeros_have_words : (part : List PublicEntry) → AreShareWords (zero_lines part)
zeros_have_words [] = tt
zeros_have_words (e ∷ es) = words_then e.name e.value es (zeros_have_words es)
