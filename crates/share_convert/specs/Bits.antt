-- The lowest bits of words, and words chosen by a bit, element by element.
use Rattle.std.specs.Prelude.{ℕ, zero, suc, ◌%◌, bit_xor, List}
use Rattle.proto_core.specs.Rings.{add_ring}
use Rattle.proto_core.specs.Lists.{at, each}

-- the lowest bit, 0 or 1
abbrev pub bit : ℕ → ℕ
bit x = x % 2

unfoldable pub bits : ℕ → List ℕ → List ℕ
bits n x = each n (λ k. bit (at x k))

-- of x xor y, and of x xor y xor z
unfoldable pub xor_bits : ℕ → (x y : List ℕ) → List ℕ
xor_bits n x y = each n (λ k. bit (bit_xor (at x k) (at y k)))

unfoldable pub xor_bits_of_three : ℕ → (x y z : List ℕ) → List ℕ
xor_bits_of_three n x y z = each n (λ k. bit (bit_xor (bit_xor (at x k) (at y k)) (at z k)))

-- the bit of x xor y as a number, without m
unfoldable pub bits_less : ℕ → (x y m : List ℕ) → List ℕ
bits_less n x y m = each n (λ k. add_ring.sub (bit (bit_xor (at x k) (at y k))) (at m k))

-- the first of two, or the second where the bit is set
abbrev pub chosen : ℕ → ℕ → ℕ → ℕ
chosen zero x y = x
chosen (suc s) x y = y

-- m, or 1 - m where the bit is set
unfoldable pub one_less_where : ℕ → (bits m : List ℕ) → List ℕ
one_less_where n s m = each n (λ k. chosen (at s k) (at m k) (add_ring.sub 1 (at m k)))

-- f, or -f where the bit is set
unfoldable pub negative_where : ℕ → (bits f : List ℕ) → List ℕ
negative_where n s f = each n (λ k. chosen (at s k) (at f k) (add_ring.neg (at f k)))
