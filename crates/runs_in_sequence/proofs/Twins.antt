-- Of runs in sequence that are alike to a miner each list of tapes has a twin.
use Rattle.std.proofs.Common.{◌≡◌, ℕ, List, [], ◌∷◌, ◌++◌, refl, sym, ◌∙◌, ap}
use Rattle.proto_core.specs.declared.party.Number.{Number}
use Rattle.proto_core.specs.Net.{into}
use Rattle.proto_core.specs.Strand.{Mail}
use Rattle.protocol_model.specs.Gates as model
use Rattle.protocol_model.specs.Runs.{Tapes}
use Rattle.protocol_model.specs.Views.{made_messages, made_values}
use Rattle.gates.specs.Clear.{Values}
use Rattle.shared_gates.specs.Model.{run_gates}
use Rattle.handed_shares.specs.Handed.{kept_from}
use Rattle.runs_in_sequence.specs.Sequences.{chosen, Leg, Kept, RunOn, AreMappedOf, to_views, from_views, own_gates, own_then, made_all}
use Rattle.runs_in_sequence.specs.Twins.{AllFit, AreSized, redealt, DealtTheSame, Opens, AreTwins}
use Rattle.runs_in_sequence.proofs.Sequences.{there_and_back, back_and_there, are_made}
use Rattle.runs_in_sequence.proofs.Fitting.{all-run, mapped-run, fit-like, there-like, back-like}

-- the simulator reads what its own miner is dealt alone
made-same :
    (i : Number) (own : Values) (legs : List Leg) (dealt : List (Number → Values)) (os : List (List ℕ)) (ss : List Tapes) → DealtTheSame i legs dealt
    → made_all i own (redealt legs dealt) os ss ≡ made_all i own legs os ss
made-same i own [] dealt os ss h = refl
made-same i own (leg ∷ legs) [] os ss h = absurd h
made-same i own (leg ∷ legs) (d ∷ ds) [] ss h = refl
made-same i own (leg ∷ legs) (d ∷ ds) (o ∷ os) [] h = refl
made-same i own (leg ∷ legs) (d ∷ ds) (o ∷ os) (s ∷ ss) h =
    let gates_by : Values → List model.Gate = λ x. run_gates (λ k. chosen leg.takes own ++ x) leg.sizes [] leg.gates in
    let then_by : Values → Values = λ x. own ++ kept_from leg.keeps 0 (made_values i (gates_by x) [] o s) leg.gates in
    ap (λ x. into i (made_messages i (gates_by x) [] o s) ∷ made_all i (then_by x) (redealt legs ds) os ss) h.0
    ∙ ap (λ (ms : List Mail). into i (made_messages i (own_gates i leg own) [] o s) ∷ ms) (made-same i (own_then i leg own o s) legs ds os ss h.1)

pub are-twins :
    (i : Number) (sizes : List ℕ) (first second : Kept) (legs : List Leg) (dealt : List (Number → Values)) (opened : List (List ℕ)) (ts : List Tapes)
    → AreSized sizes first → AreSized sizes second → second i ≡ first i → DealtTheSame i legs dealt
    → Opens sizes first legs opened → Opens sizes second (redealt legs dealt) opened → AllFit sizes legs ts → AllFit sizes (redealt legs dealt) ts
    → AreTwins i sizes first legs second (redealt legs dealt) ts
are-twins i sizes first second legs dealt opened ts sized sized_too own same opens opens_too fit fit_too =
    let others : List Leg = redealt legs dealt in
    let runs : RunOn first legs ts = all-run sizes first sized legs ts fit in
    let mapped : List Tapes = to_views i first legs ts in
    let fit_mapped : AllFit sizes others mapped = fit-like sizes others ts mapped fit_too (there-like i first legs ts runs) in
    let mapped_of : AreMappedOf i second others mapped = mapped-run i sizes second sized_too others mapped fit_mapped in
    let twinned : List Tapes = from_views i second others mapped in
    let fit_twinned : AllFit sizes others twinned = fit-like sizes others mapped twinned fit_mapped (back-like i second others mapped mapped_of) in
    let there : to_views i second others twinned ≡ mapped = back_and_there i second others mapped mapped_of in
    record {
      fit = fit_twinned;
      sees =
          are_made i second (second i) refl others twinned (all-run sizes second sized_too others twinned fit_twinned)
          ∙ ap (λ (os : List (List ℕ)). made_all i (second i) others os (to_views i second others twinned)) (opens_too twinned fit_twinned)
          ∙ ap (λ (ss : List Tapes). made_all i (second i) others opened ss) there
          ∙ ap (λ (x : Values). made_all i x others opened mapped) own
          ∙ made-same i (first i) legs dealt opened mapped same
          ∙ ap (λ (os : List (List ℕ)). made_all i (first i) legs os mapped) (sym (opens ts fit))
          ∙ sym (are_made i first (first i) refl legs ts runs);
      back = ap (from_views i first legs) there ∙ there_and_back i first legs ts runs;
    }
