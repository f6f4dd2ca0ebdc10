-- A reader's bytes, of which one more than the bound are asked for.
use Rattle.std.proofs.Common.{◌≡◌, ◌+◌, ◌<◌, ◌≤◌, ℕ, true, false, List, [], ◌++◌, length, take, min, Option, Some, None, option_map, IfSome, refl}
use Rattle.std.proofs.Common.{sym, ap, ◌∙◌, arith}
use Rattle.std.specs.Prelude.{nat_le}
use Rattle.std.proofs.lemmas.List.{length-take, take_all}
use Rattle.std.proofs.lemmas.Bool.Decides.{nat_tests}
use Rattle.real_objects.specs.Within.{bytes_within}

bytes_within-few : (most : ℕ) (xs : List ℕ) → length xs ≤ most → bytes_within most xs ≡ Some xs
unfolding bytes_within
bytes_within-few most xs few =
    let e : nat_le (length xs) most ≡ true = grind (arith, nat_tests) in
    rw e refl

bytes_within-many : (most : ℕ) (xs : List ℕ) → most < length xs → bytes_within most xs ≡ None
unfolding bytes_within
bytes_within-many most xs many =
    let e : nat_le (length xs) most ≡ false = grind (arith, nat_tests) in
    rw e refl

-- those that were asked for, where they are within the bound
few_taken : (most : ℕ) (xs : List ℕ) → length (take (most + 1) xs) ≤ most → Some (take (most + 1) xs) ≡ bytes_within most xs
few_taken most xs few =
    let cut : length (take (most + 1) xs) ≡ min (most + 1) (length xs) = length-take (most + 1) xs in
    let short : length xs ≤ most = omega (arith, cut, few) in
    ap Some (take_all (most + 1) xs (omega (arith, short))) ∙ sym (bytes_within-few most xs short)

many_taken : (most : ℕ) (xs : List ℕ) → most < length (take (most + 1) xs) → None ≡ bytes_within most xs
many_taken most xs many =
    let cut : length (take (most + 1) xs) ≡ min (most + 1) (length xs) = length-take (most + 1) xs in
    sym (bytes_within-many most xs (omega (arith, cut, many)))

-- what was read, after nothing, of a reader whose bytes are known
pub read_within_bound : (known : Option (List ℕ)) (most limit : ℕ) (old new : List ℕ) → limit ≡ most + 1 → old ≡ []
    → IfSome (option_map (take limit) known) (λ xs. new ≡ old ++ xs) → length new ≤ most → IfSome known (λ xs. Some new ≡ bytes_within most xs)
read_within_bound None most limit old new asked none read few = tt
read_within_bound (Some xs) most limit old new asked none read few =
    let same : new ≡ take (most + 1) xs = rw none at rw asked at read in
    rw same (few_taken most xs (rw same at few))

pub read_over_bound : (known : Option (List ℕ)) (most limit : ℕ) (old new : List ℕ) → limit ≡ most + 1 → old ≡ []
    → IfSome (option_map (take limit) known) (λ xs. new ≡ old ++ xs) → most < length new → IfSome known (λ xs. None ≡ bytes_within most xs)
read_over_bound None most limit old new asked none read many = tt
read_over_bound (Some xs) most limit old new asked none read many =
    let same : new ≡ take (most + 1) xs = rw none at rw asked at read in
    many_taken most xs (rw same at many)
