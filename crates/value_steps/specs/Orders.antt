-- In which order numbers are compared.
use Rattle.std.specs.Prelude.{ℕ, List}
use Rattle.gates.specs.declared.gate.Gate.{Gate}
use Rattle.gates.specs.declared.gate.Gate.TheVariants.{Pack}
use Rattle.plans.specs.Compare.{less_plan}
use Rattle.plans.specs.Signed.{signed_less_plan}
use Rattle.language_model.specs.Effects.{Effect, ◌>>=◌, gate, planned}
use Rattle.value_steps.specs.declared.gating.Order.{Order}
use Rattle.value_steps.specs.declared.gating.Order.TheVariants.{Unsigned, Signed}

abbrev pub order_plan : Order → (first left right n : ℕ) → List Gate
order_plan Unsigned first left right n = less_plan first left right n
order_plan Signed first left right n = signed_less_plan first left right n

-- whether the first of each two is less
abbrev pub less_by : Order → ℕ → ℕ → ℕ → Effect ℕ
less_by order n u v = do
  z ← planned (λ first. order_plan order first u v n)
  gate (Pack z)
