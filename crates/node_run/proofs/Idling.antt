-- A miner that runs code which does nothing ends at once.
use Rattle.std.proofs.Common.{◌≡◌, ℕ, suc, List, [], refl, ap, ◌∙◌, add-one}
use Rattle.proto_core.specs.declared.party.Number.{Number}
use Rattle.gates.specs.Clear.{Values}
use Rattle.language_model.specs.Effects.{World}
use Rattle.verified_code.specs.Settled.{settled}
use Rattle.verified_code.specs.Steps.{Function}
use Rattle.own_code.specs.OwnCode.{own_code}
use Rattle.code_machine.specs.Meaning.{fuel}
use Rattle.code_places.specs.Places.{first_place}
use Rattle.node_run.specs.Idle.{idle_code, IsOver, IdlesAtOnce}

abbrev idle : List Function
idle = settled idle_code

after_a_step : (w : World) (i : Number) (dealt : Values) (tape : List ℕ) (budget n : ℕ)
    → IsOver (own_code w idle i dealt (suc n) (first_place idle budget) [] tape)
after_a_step w i dealt tape budget n = (_, refl)

with_fuel : (w : World) (i : Number) (dealt : Values) (tape : List ℕ) (budget n k : ℕ) → k ≡ suc n
    → IsOver (own_code w idle i dealt k (first_place idle budget) [] tape)
with_fuel w i dealt tape budget n k is =
    let h = after_a_step w i dealt tape budget n in
    (h.0, ap (λ m. own_code w idle i dealt m (first_place idle budget) [] tape) is ∙ h.1)

pub idles_at_once : (w : World) (i : Number) (dealt : Values) (tape : List ℕ) (budget : ℕ) → IdlesAtOnce w i dealt tape budget
idles_at_once w i dealt tape budget = with_fuel w i dealt tape budget _ (fuel idle budget) (add-one _)
