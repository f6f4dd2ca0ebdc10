-- Exchanges, block by block.
use Rattle.std.proofs.Common.{◌≡◌, ℕ, ◌+◌, ◌-◌, ◌<◌, min, List, [], ◌∷◌, ◌++◌, refl, sym, ◌∙◌, ap, arith, inl, inr, append_assoc}
use Rattle.std.proofs.lemmas.Bool.{cases_lt}
use Rattle.gates.specs.Blocks.{block_sizes}
use Rattle.gates.specs.Clear.{ring_of}
use Rattle.shared_gates.specs.Blocked.{joined, Blockable}
use Rattle.shared_gates.proofs.Blockables.{mul-blockable, open-blockable, reshare-blockable, conv-blockable, split-blockable}
use Rattle.shared_gates.proofs.Sizes.{block_sizes-full, block_sizes-last}
use Rattle.gate_exchanges.specs.declared.exchange.Exchange.{Exchange}
use Rattle.gate_exchanges.specs.declared.exchange.Exchange.TheVariants.{Product, Splitting, Conversion, Opening, Resharing}
use Rattle.gate_exchanges.specs.Exchanges.{protocol_of}

pub blockable-of : (e : Exchange) → Blockable (protocol_of e)
blockable-of (Product ring) = mul-blockable (ring_of ring)
blockable-of (Splitting negated) = split-blockable negated
blockable-of Conversion = conv-blockable
blockable-of (Opening ring) = open-blockable (ring_of ring)
blockable-of (Resharing ring) = reshare-blockable (ring_of ring)

-- the first block, and those after it
pub first-block : (n : ℕ) → 0 < n → block_sizes n ≡ min n 512 ∷ block_sizes (n - min n 512)
first-block n some =
    elim (cases_lt n 512) as (λ c. block_sizes n ≡ min n 512 ∷ block_sizes (n - min n 512)) [
      | inl few ↦
          let m : min n 512 ≡ n = omega arith in
          let rest : n - min n 512 ≡ 0 = omega arith in
          block_sizes-last n some few ∙ ap (λ k. k ∷ []) (sym m) ∙ ap (λ k. min n 512 ∷ block_sizes k) (sym rest)
      | inr many ↦
          let m : min n 512 ≡ 512 = omega arith in
          let whole : n ≡ 512 + (n - min n 512) = omega arith in
          ap block_sizes whole ∙ block_sizes-full (n - min n 512) ∙ ap (λ k. k ∷ block_sizes (n - min n 512)) (sym m)
    ]

pub joined-assoc : (xs ys zs : List (List ℕ)) → joined (joined xs ys) zs ≡ joined xs (joined ys zs)
joined-assoc [] ys zs = refl
joined-assoc (x ∷ xs) [] zs = refl
joined-assoc (x ∷ xs) (y ∷ ys) [] = refl
joined-assoc (x ∷ xs) (y ∷ ys) (z ∷ zs) =
    ap (λ v. v ∷ joined (joined xs ys) zs) (append_assoc x y z) ∙ ap (λ v. (x ++ (y ++ z)) ∷ v) (joined-assoc xs ys zs)
