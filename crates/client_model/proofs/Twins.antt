-- Of dealings that are alike to the client each tape has a twin.
use Rattle.std.proofs.Common.{◌≡◌, ℕ, Bool, List, [], refl, sym, ◌∙◌, ap}
use Rattle.proto_core.proofs.Beginnings.{append-none}
use Rattle.protocol_model.specs.Runs.{Tapes}
use Rattle.protocol_model.proofs.Sizes.{ready-with}
use Rattle.gates.specs.declared.gate.Gate.{Gate}
use Rattle.gates.specs.Clear.{Values}
use Rattle.shared_gates.specs.Shares.{Kind}
use Rattle.shared_gates.specs.Kinds.{AllKinded}
use Rattle.shared_gates.specs.Model.{run_gates}
use Rattle.client_model.specs.ClientMaps.{to_client, from_client}
use Rattle.handed_shares.specs.Handed.{handed_values}
use Rattle.client_model.specs.Given.{Given, made_from}
use Rattle.client_model.specs.Laws.{given, shares_at_end, Runs}
use Rattle.client_model.specs.Twins.{Dealing, HandsOver, twin, IsTwin}
use Rattle.client_model.proofs.Corresponding.{client_tapes_correspond}
use Rattle.client_model.proofs.Given.{given-made}

module _
    (mine : ℕ → Bool) (dealt_kinds kinds : List Kind) (ds : List ℕ) (gates : List Gate) (kinded : AllKinded dealt_kinds kinds 0 gates)
    (published : Values)
  where
    made-given :
        (d : Dealing) → HandsOver mine kinds ds gates d published → (tapes : Tapes) → Runs d.shares ds gates tapes
        → made_from mine 0 ds [] gates published (to_client mine d.shares ds gates tapes) ≡ given mine d.shares ds gates tapes
    made-given d hands tapes runs =
        let c = hands tapes runs in
        let of_words : Values → List Given = λ vs. made_from mine 0 ds [] gates vs (to_client mine d.shares ds gates tapes) in
        ap of_words (sym (append-none (handed_values mine 0 c.0.more gates) ∙ c.1))
        ∙ given-made mine dealt_kinds kinds d.inputs d.shares ds c.0.more (shares_at_end d.shares ds gates tapes) c.0.held [] gates tapes runs
        kinded c.0.fit c.0.count (λ i. refl)

    -- on tapes of the same lengths the gates run whoever's inputs are dealt
    pub client_twins :
        (first second : Dealing) → HandsOver mine kinds ds gates first published → HandsOver mine kinds ds gates second published → (tapes : Tapes)
        → Runs first.shares ds gates tapes → Runs second.shares ds gates tapes → IsTwin mine kinds ds gates first second tapes
    client_twins first second one other tapes runs runs_too =
        let own = run_gates second.shares ds [] gates in
        let mapped : Tapes = to_client mine first.shares ds gates tapes in
        let there = client_tapes_correspond mine first.shares ds gates tapes runs in
        let ready : Runs second.shares ds gates mapped = ready-with own (λ i. []) tapes mapped runs_too there.kept there.words in
        let back = client_tapes_correspond mine second.shares ds gates mapped ready in
        let twinned : Tapes = twin mine kinds ds gates first second tapes in
        let ready_then : Runs second.shares ds gates twinned = ready-with own (λ i. []) mapped twinned ready back.back_kept back.back_words in
        record {
          runs = ready_then;
          sees =
              sym (made-given second other twinned ready_then)
              ∙ ap (made_from mine 0 ds [] gates published) back.back_and_there
              ∙ made-given first one tapes runs;
          back = ap (from_client mine first.shares ds gates) back.back_and_there ∙ there.there_and_back;
        }
