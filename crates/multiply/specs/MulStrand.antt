-- Multiplying, as one miner does it.
use Rattle.std.specs.Prelude.{ℕ, List, [], ◌∷◌, ◌++◌}
use Rattle.proto_core.specs.Ring.{Ring}
use Rattle.proto_core.specs.declared.party.Number.{Number}
use Rattle.proto_core.specs.Parties.{to_next, from_previous}
use Rattle.proto_core.specs.Lists.{part}
use Rattle.proto_core.specs.Elementwise.{plus, minus}
use Rattle.proto_core.specs.Strand.{Words, Shape, shaped, Strand, Ends, Acts, Waits, Sent}
use Rattle.multiply.specs.Products.{cross}

-- the factors as far as they are masked, and what masks the product
pub record Held : Type 0 where
  pub u : List ℕ
  pub v : List ℕ
  pub mask : List ℕ

-- u + a, v + b and c, of the factors and the words a, b, c drawn
abbrev pub masked : Ring → ℕ → (u v words : List ℕ) → Held
masked r n u v words =
    record { u = plus r n u (part n 0 words); v = plus r n v (part n 1 words); mask = part n 2 words }

-- without the previous miner's a, b and c
abbrev pub crossed : Ring → ℕ → Held → (got : List ℕ) → Held
crossed r n held got =
    record {
      u = minus r n held.u (part n 0 got);
      v = minus r n held.v (part n 1 got);
      mask = minus r n held.mask (part n 2 got);
    }

-- the products of its own factors and the previous miner's, and the mask
abbrev pub product : Ring → ℕ → Held → (got : List ℕ) → List ℕ
product r n held got = plus r n (cross r n held.u held.v (part n 0 got) (part n 1 got)) held.mask

abbrev pub masks_shape : ℕ → Shape
masks_shape n = shaped n (Words ∷ Words ∷ Words ∷ [])

abbrev pub factors_shape : ℕ → Shape
factors_shape n = shaped n (Words ∷ Words ∷ [])

-- the previous miner's factors came
abbrev pub mul_ends : Ring → ℕ → Held → List ℕ → Strand (List (List ℕ))
mul_ends r n held got = Ends (product r n held got ∷ [])

abbrev pub mul_crossed : Ring → ℕ → Number → Held → Strand (List (List ℕ))
mul_crossed r n i held = Waits (from_previous i) (factors_shape n) (mul_ends r n held)

-- its own factors go to the next
abbrev pub mul_passes : Ring → ℕ → Number → Held → Strand (List (List ℕ))
mul_passes r n i held = Acts (Sent (to_next i) (held.u ++ held.v)) (mul_crossed r n i held)

abbrev pub mul_masked : Ring → ℕ → Number → Held → Strand (List (List ℕ))
mul_masked r n i held = Waits (from_previous i) (masks_shape n) (λ got. mul_passes r n i (crossed r n held got))

-- the words drawn go to the next
abbrev pub mul_strand : Ring → ℕ → Number → (u v words : List ℕ) → Strand (List (List ℕ))
mul_strand r n i u v words = Acts (Sent (to_next i) words) (mul_masked r n i (masked r n u v words))
