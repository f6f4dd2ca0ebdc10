-- How the elements of a gate are cut into blocks.
use Rattle.std.specs.Prelude.{ℕ, zero, ◌*◌, ◌/◌, ◌%◌, ◌≤◌, List, [], ◌∷◌, ◌++◌, replicate}

-- what is left after full blocks
abbrev pub last_block : ℕ → List ℕ
last_block zero = []
last_block rest = rest ∷ []

-- the sizes of the blocks of n elements, in order: full ones of 512, and then one with the rest, if there is one
abbrev pub block_sizes : ℕ → List ℕ
block_sizes n = replicate (n / 512) 512 ++ last_block (n % 512)

-- these many blocks of at most 512 hold n elements, and fewer don't
pub record IsBlockCount (n count : ℕ) : Type 0 where
  pub enough : n ≤ 512 * count
  pub fewest : (fewer : ℕ) → n ≤ 512 * fewer → count ≤ fewer
