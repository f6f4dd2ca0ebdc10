-- How long the lists of results are.
use Rattle.std.proofs.Common.{◌≡◌, ℕ, ◌*◌, List, [], ◌∷◌, length, refl, ◌∙◌, arith, length-append, min}
use Rattle.std.specs.Prelude.{get_or}
use Rattle.std.specs.List.{zip, flat_map}
use Rattle.std.specs.Int.{bit_at}
use Rattle.std.proofs.lemmas.List.{length-map}
use Rattle.std.proofs.lemmas.List.FromFn.{length-map-range_with_len}
use Rattle.std.proofs.lemmas.Slice.Zip.{length-zip}
use Rattle.gates.specs.Clear.{bits_of, each_two}
use Rattle.oblivious_index.specs.Lookup.{looked}

pub length_each_two : (f : ℕ → ℕ → ℕ) (xs ys : List ℕ) → length (each_two f xs ys) ≡ min (length xs) (length ys)
length_each_two f xs ys = length-map (zip xs ys) (λ (p : ℕ × ℕ). f p.0 p.1) ∙ length-zip xs ys

bits_length : (x : ℕ) → length (bits_of x) ≡ 64
unfolding bits_of
bits_length x = length-map-range_with_len (bit_at x) 0 64

pub length_bits : (xs : List ℕ) → length (flat_map bits_of xs) ≡ 64 * length xs
length_bits [] = refl
length_bits (x ∷ xs) = omega (arith, length-append (bits_of x) (flat_map bits_of xs), bits_length x, length_bits xs)

pub length_looked : (xs ks : List ℕ) → length (looked xs ks) ≡ length ks
length_looked xs ks = length-map ks (λ k. get_or xs k 0)
