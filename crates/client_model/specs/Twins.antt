-- Two dealings that are alike to the client: whatever is drawn, the same words are handed over; and tapes that give it the same.
use Rattle.std.specs.Prelude.{◌≡◌, ℕ, Bool, List, []}
use Rattle.proto_core.specs.declared.party.Number.{Number}
use Rattle.protocol_model.specs.Runs.{Tapes, run_opened}
use Rattle.gates.specs.declared.gate.Gate.{Gate}
use Rattle.gates.specs.Clear.{Values}
use Rattle.shared_gates.specs.Shares.{Kind}
use Rattle.shared_gates.specs.Computed.{Computed}
use Rattle.shared_gates.specs.Model.{run_gates}
use Rattle.client_model.specs.ClientMaps.{to_client, from_client}
use Rattle.handed_shares.specs.Handed.{handed_values}
use Rattle.client_model.specs.Laws.{shares_at_end, given, Runs}

-- inputs that are dealt in these shares, and gates that run on them
pub record Dealing : Type 0 where
  pub inputs : Values
  pub shares : Number → Values

module _ (mine : ℕ → Bool) (kinds : List Kind) (ds : List ℕ) (gates : List Gate) where
  -- on tapes on which the gates run the miners come to values of which these are handed over
  abbrev pub HandsOver : Dealing → (published : Values) → Type 0
  HandsOver d published =
      (tapes : Tapes) → Runs d.shares ds gates tapes
      → (run : Computed kinds d.inputs [] gates (shares_at_end d.shares ds gates tapes) (run_opened (run_gates d.shares ds [] gates) (λ i. []) tapes))
      × (handed_values mine 0 run.more gates ≡ published)

  abbrev pub twin : (first second : Dealing) → Tapes → Tapes
  twin first second tapes = from_client mine second.shares ds gates (to_client mine first.shares ds gates tapes)

  pub record IsTwin (first second : Dealing) (tapes : Tapes) : Type 0 where
    pub runs : Runs second.shares ds gates (twin first second tapes)
    pub sees : given mine second.shares ds gates (twin first second tapes) ≡ given mine first.shares ds gates tapes
    pub back : twin second first (twin first second tapes) ≡ tapes
