-- Blocks and their number.
use Rattle.std.proofs.Common.{◌≡◌, ℕ, zero, suc, ◌+◌, ◌*◌, ◌/◌, ◌%◌, ◌<◌, length, sum, refl, ap, sym, ◌∙◌, arith, length-append}
use Rattle.std.specs.Prelude.{replicate}
use Rattle.std.proofs.lemmas.List.{length-replicate}
use Rattle.std.proofs.lemmas.List.Sums.{sum_by-append}
use Rattle.std.proofs.lemmas.List.Folds.{sum_by-replicate}
use Rattle.gates.specs.Blocks.{last_block, block_sizes}

sum-last_block : (rest : ℕ) → sum (last_block rest) ≡ rest
sum-last_block zero = refl
sum-last_block (suc rest) = omega arith

-- the blocks hold all elements
pub sum-block_sizes : (n : ℕ) → sum (block_sizes n) ≡ n
sum-block_sizes n = sum_by-append (λ x. x) (replicate (n / 512) 512) (last_block (n % 512))
    ∙ ap (λ k. k + sum (last_block (n % 512))) (sum_by-replicate (λ x. x) (n / 512) 512) ∙ ap (λ k. n / 512 * 512 + k) (sum-last_block (n % 512)) ∙ omega arith

length-last_block : (rest k : ℕ) → (rest ≡ 0 → k ≡ 0) → (0 < rest → k ≡ 1) → k ≡ length (last_block rest)
length-last_block zero k none one = none refl
length-last_block (suc rest) k none one = one (omega arith)

pub block_count : (n k : ℕ) → (n % 512 ≡ 0 → k ≡ 0) → (0 < n % 512 → k ≡ 1) → n / 512 + k ≡ length (block_sizes n)
block_count n k none one =
    ap (λ m. n / 512 + m) (length-last_block (n % 512) k none one)
    ∙ sym (length-append (replicate (n / 512) 512) (last_block (n % 512)) ∙ ap (λ m. m + length (last_block (n % 512))) (length-replicate (n / 512) 512))
