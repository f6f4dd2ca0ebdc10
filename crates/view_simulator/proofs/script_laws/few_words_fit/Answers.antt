use Rattle.std.proofs.Common.{ℕ, ◌+◌, ◌*◌, ◌<◌, ◌^◌, List, [], ◌∷◌, ◌++◌, arith}
use Rattle.proto_core.specs.declared.party.Number.{Number}
use Rattle.proto_core.specs.declared.party.Number.TheVariants.{One}
use Rattle.protocol_model.specs.Gates.{needed}
use Rattle.gates.specs.declared.gate.Gate.{Gate}
use Rattle.gates.specs.declared.gate.Gate.TheVariants.{Mul, And, Split, Conv, Open, Result}
use Rattle.gates.specs.Clear.{Values}
use Rattle.gates.specs.Counts.{size_of}
use Rattle.shared_gates.specs.Model.{sizes_made, run_gates}
use Rattle.view_simulator.specs.Sizes.{SizesFit}
use Rattle.view_simulator.proofs.script_laws.few_words_fit.Goals as goal

-- where a gate draws as many words as it takes elements, or more
below : (n here later : ℕ) → n < here + 1 → here + later < 2 ^ 64 → n < 2 ^ 64
below n here later most few = omega arith

behind : (here later : ℕ) → here + later < 2 ^ 64 → later < 2 ^ 64
behind here later few = omega arith

few-fit :
    (shares : Number → Values) (dealt sizes : List ℕ) (gates : List Gate) → needed (run_gates shares dealt sizes gates) One < 2 ^ 64 →
    SizesFit dealt sizes gates
few-fit shares dealt sizes [] few = tt
few-fit shares dealt sizes (Mul u v ∷ gates) few = (
  below (size_of sizes u) (3 * size_of sizes u) _ (omega arith) few,
  few-fit shares dealt (sizes ++ sizes_made dealt sizes (Mul u v)) gates (behind (3 * size_of sizes u) _ few),
)
few-fit shares dealt sizes (And u v ∷ gates) few = (
  below (size_of sizes u) (3 * size_of sizes u) _ (omega arith) few,
  few-fit shares dealt (sizes ++ sizes_made dealt sizes (And u v)) gates (behind (3 * size_of sizes u) _ few),
)
few-fit shares dealt sizes (Split u negated ∷ gates) few = (
  below (size_of sizes u) (size_of sizes u) _ (omega arith) few,
  few-fit shares dealt (sizes ++ sizes_made dealt sizes (Split u negated)) gates (behind (size_of sizes u) _ few),
)
few-fit shares dealt sizes (Conv u ∷ gates) few = (
  below (size_of sizes u) (4 * size_of sizes u) _ (omega arith) few,
  few-fit shares dealt (sizes ++ sizes_made dealt sizes (Conv u)) gates (behind (4 * size_of sizes u) _ few),
)
few-fit shares dealt sizes (Open ring u ∷ gates) few = (
  below (size_of sizes u) (size_of sizes u) _ (omega arith) few,
  few-fit shares dealt (sizes ++ sizes_made dealt sizes (Open ring u)) gates (behind (size_of sizes u) _ few),
)
few-fit shares dealt sizes (Result ring u ∷ gates) few = (
  below (size_of sizes u) (size_of sizes u) _ (omega arith) few,
  few-fit shares dealt (sizes ++ sizes_made dealt sizes (Result ring u)) gates (behind (size_of sizes u) _ few),
)
few-fit shares dealt sizes (gate ∷ gates) few = (omega arith, few-fit shares dealt (sizes ++ sizes_made dealt sizes gate) gates few)

pub returns : goal.returns
returns c = few-fit
