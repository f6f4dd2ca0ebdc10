-- The blocks of 512 and a last one are a cut.
use Rattle.std.proofs.Common.{◌≡◌, ℕ, zero, suc, ◌+◌, ◌/◌, ◌%◌, ◌<◌, List, [], ◌∷◌, ◌++◌, sum, refl, sym, ◌∙◌, ap, arith}
use Rattle.std.specs.Prelude.{replicate}
use Rattle.std.proofs.lemmas.List.Sums.{sum_by-cons}
use Rattle.gates.specs.Blocks.{last_block, block_sizes}
use Rattle.gates.proofs.BlockSizes.{sum-block_sizes}
use Rattle.blocked_protocol.specs.Blocked.{total, IsCut}

total-sum : (sizes : List ℕ) → total sizes ≡ sum sizes
total-sum [] = refl
total-sum (m ∷ sizes) = ap (λ k. m + k) (total-sum sizes) ∙ sym (sum_by-cons (λ x. x) m sizes)

pub block_sizes-cut : IsCut block_sizes
block_sizes-cut n = total-sum (block_sizes n) ∙ sum-block_sizes n

-- ---- block by block

full_more : (k : ℕ) → replicate {A = ℕ} (suc k) 512 ≡ 512 ∷ replicate k 512
full_more k = refl

pub block_sizes-full : (n : ℕ) → block_sizes (512 + n) ≡ 512 ∷ block_sizes n
block_sizes-full n =
    let q : (512 + n) / 512 ≡ suc (n / 512) = omega arith in
    let rest : (512 + n) % 512 ≡ n % 512 = omega arith in
    ap (λ k. replicate k 512 ++ last_block ((512 + n) % 512)) q
    ∙ ap (λ k. replicate (suc (n / 512)) 512 ++ last_block k) rest
    ∙ ap (λ full. full ++ last_block (n % 512)) (full_more (n / 512))

one_block : (n : ℕ) → 0 < n → last_block n ≡ n ∷ []
one_block zero h = absurd (never h)
  where
    never : 0 < 0 → ⊥
    never l = omega arith
one_block (suc n) h = refl

pub block_sizes-last : (n : ℕ) → 0 < n → n < 512 → block_sizes n ≡ n ∷ []
block_sizes-last n some few =
    let q : n / 512 ≡ 0 = omega arith in
    let rest : n % 512 ≡ n = omega arith in
    ap (λ k. replicate k 512 ++ last_block (n % 512)) q ∙ ap last_block rest ∙ one_block n some
