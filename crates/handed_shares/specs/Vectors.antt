-- Worked values: two of three values that a run makes are handed over.
use Rattle.std.specs.Prelude.{◌≡◌, ℕ, zero, suc, Bool, true, false, List, [], ◌∷◌, refl}
use Rattle.gates.specs.declared.ring_kind.RingKind.TheVariants.{Arithmetic, Boolean}
use Rattle.gates.specs.declared.gate.Gate.{Gate}
use Rattle.gates.specs.declared.gate.Gate.TheVariants.{Input, Split, Result}
use Rattle.gates.specs.Clear.{Values}
use Rattle.shared_gates.specs.Shares.{Shared}
use Rattle.handed_shares.specs.Handed.{all_of, handed_values, handed_kinds, kept_from}

-- a split makes two values, so what is handed over has the numbers 3 and 4
program : List Gate
program = Input 0 ∷ Split 0 false ∷ Result Arithmetic 0 ∷ Result Boolean 2 ∷ []

values : Values
values = (9 ∷ []) ∷ (5 ∷ []) ∷ (12 ∷ []) ∷ (9 ∷ []) ∷ (12 ∷ []) ∷ []

own : Values
own = (1 ∷ []) ∷ (2 ∷ []) ∷ (3 ∷ []) ∷ (70 ∷ []) ∷ (80 ∷ []) ∷ []

all_handed : handed_values all_of 0 values program ≡ (9 ∷ []) ∷ (12 ∷ []) ∷ []
unfolding program values
all_handed = refl

all_kinds : handed_kinds all_of 0 program ≡ Shared Arithmetic ∷ Shared Boolean ∷ []
unfolding program
all_kinds = refl

-- the shares that are made anew, not those of the operands
all_kept : kept_from all_of 0 own program ≡ (70 ∷ []) ∷ (80 ∷ []) ∷ []
unfolding program own
all_kept = refl

-- of one who gets the last alone
last : ℕ → Bool
last zero = false
last (suc zero) = false
last (suc (suc zero)) = false
last (suc (suc (suc zero))) = false
last (suc (suc (suc (suc n)))) = true

last_handed : handed_values last 0 values program ≡ (12 ∷ []) ∷ []
unfolding program values last
last_handed = refl

last_kept : kept_from last 0 own program ≡ (80 ∷ []) ∷ []
unfolding program own last
last_kept = refl
