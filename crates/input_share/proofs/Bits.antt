-- Truth values are words.
use Rattle.std.proofs.Common.{◌<◌, ◌^◌, zero, suc, List, [], ◌∷◌, map, Bool, true, false, All, arith}
use Rattle.input_share.specs.Values.{bit_word}

pub bit_small : (b : Bool) → bit_word b < 2 ^ 64
bit_small true = omega arith
bit_small false = omega arith

pub bits_small : (bs : List Bool) → All (λ n. n < 2 ^ 64) (map bit_word bs)
bits_small [] k d lt = absurd (omega arith)
bits_small (b ∷ bs) zero d lt = bit_small b
bits_small (b ∷ bs) (suc k) d lt = bits_small bs k d (omega arith)

pub one_small : (b : Bool) → All (λ n. n < 2 ^ 64) (bit_word b ∷ [])
one_small b zero d lt = bit_small b
one_small b (suc k) d lt = absurd (omega arith)
