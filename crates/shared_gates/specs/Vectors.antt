-- A worked run: 6 times 7, less 1, is opened; with masks that are not 0.
use Rattle.std.specs.Prelude.{◌≡◌, ℕ, zero, suc, List, [], ◌∷◌, refl}
use Rattle.std.proofs.Common.{arith}
use Rattle.proto_core.specs.declared.party.Number.{Number}
use Rattle.proto_core.specs.declared.party.Number.TheVariants.{One, Two, Three}
use Rattle.proto_core.specs.Lists.{each, part, AreWords}
use Rattle.proto_core.specs.Resharing.{reshared, sum_of_three}
use Rattle.protocol_model.specs.Runs.{run_opened}
use Rattle.blocked_protocol.specs.Products.{cross}
use Rattle.gates.specs.declared.ring_kind.RingKind.TheVariants.{Arithmetic}
use Rattle.gates.specs.declared.gate.Gate.{Gate}
use Rattle.gates.specs.declared.gate.Gate.TheVariants.{Input, Const, Sub, Mul, Open}
use Rattle.gates.specs.Clear.{Values}
use Rattle.gates.specs.Counts.{words_of_all, Miner1}
use Rattle.shared_gates.specs.Shares.{Shared, Known}
use Rattle.shared_gates.specs.Kinds.{AllKinded}
use Rattle.shared_gates.specs.Model.{AllSizesSuit, run_gates, sizes_after}

program : List Gate
program = Input 0 ∷ Input 1 ∷ Mul 0 1 ∷ Const (1 ∷ []) ∷ Sub 2 3 ∷ Open Arithmetic 4 ∷ []

-- 6 is 1 + 2 + 3, and 7 is 0 + 5 + 2
dealt : Number → Values
dealt One = (1 ∷ []) ∷ (0 ∷ []) ∷ []
dealt Two = (2 ∷ []) ∷ (5 ∷ []) ∷ []
dealt Three = (3 ∷ []) ∷ (2 ∷ []) ∷ []

tapes : Number → List ℕ
tapes One = 10 ∷ 20 ∷ 30 ∷ 5 ∷ []
tapes Two = 1 ∷ 2 ∷ 3 ∷ 6 ∷ []
tapes Three = 7 ∷ 8 ∷ 9 ∷ 100 ∷ []

opened : run_opened (run_gates dealt (1 ∷ 1 ∷ []) [] program) (λ i. []) tapes ≡ 41 ∷ []
unfolding program dealt tapes reshared sum_of_three each part cross
opened = refl

-- three for the product and one for the opening
drawn : words_of_all (sizes_after (1 ∷ 1 ∷ []) [] program) Miner1 program ≡ 4
unfolding program
drawn = refl

suits : AllSizesSuit (1 ∷ 1 ∷ []) [] program
unfolding program
suits = (
  omega arith,
  (
    omega arith,
    (
      record { first = omega arith; second = omega arith; same_size = refl },
      (tt, (record { first = omega arith; second = omega arith; same_size = refl }, (omega arith, tt))),
    ),
  ),
)

a_word : AreWords (1 ∷ [])
a_word zero = omega arith
a_word (suc zero) = omega arith
a_word (suc (suc k)) = omega arith

-- all are shared as numbers, and the last is known
kinded :
    AllKinded (Shared Arithmetic ∷ Shared Arithmetic ∷ [])
    (Shared Arithmetic ∷ Shared Arithmetic ∷ Shared Arithmetic ∷ Shared Arithmetic ∷ Shared Arithmetic ∷ Known ∷ []) 0 program
unfolding program
kinded = (
  refl,
  (
    refl,
    (
      (refl, (refl, (refl, tt))),
      ((a_word, (Arithmetic, (refl, tt))), ((refl, (refl, (refl, tt))), (((refl, tt), refl), tt))),
    ),
  ),
)
