-- The client's tapes correspond one to one with the drawn ones.
use Rattle.std.proofs.Common.{◌≡◌, ℕ, ◌+◌, Bool, true, false, List, [], ◌∷◌, ◌++◌, refl, ◌∙◌, ap}
use Rattle.std.proofs.lemmas.List.{take-append-drop}
use Rattle.proto_core.specs.declared.party.Number.{Number}
use Rattle.proto_core.specs.declared.party.Number.TheVariants.{Three}
use Rattle.proto_core.specs.Protocol.{Joint}
use Rattle.protocol_model.specs.Gates.{Joined, Local, AreSound}
use Rattle.protocol_model.specs.Gates as model
use Rattle.protocol_model.specs.Runs.{Shares, Tapes, drawn, left, gate_joint, after, after_local, Ready}
use Rattle.protocol_model.specs.Views.{to_view}
use Rattle.gates.specs.declared.gate.Gate.{Gate}
use Rattle.gates.specs.declared.gate.Gate.TheVariants.{Result}
use Rattle.gates.specs.Clear.{Values}
use Rattle.gates.specs.Counts.{made_by}
use Rattle.shared_gates.specs.Model.{sizes_made, run_gates}
use Rattle.shared_gates.proofs.Models.{gates-sound}
use Rattle.client_model.specs.ClientRows.{Rows}
use Rattle.client_model.specs.ClientMaps.{with_rows, row_of, client_rows, client_gates}
use Rattle.client_model.specs.Laws.{ClientTapesCorrespond}
use Rattle.protocol_model.proofs.Walks.{to_view-length, to_view-words, from-to_view, to-from_view, from_view-length, from_view-words}
use Rattle.client_model.proofs.ClientGates.{sound-rows, ready-rows, client-correspond}

-- ---- the third miner's words stay

-- a row for each gate, which leaves them
abbrev LeaveThird : List Rows → List model.Gate → Type 0
LeaveThird [] [] = Unit {0}
LeaveThird [] (g ∷ gates) = ⊥
LeaveThird (rows ∷ more) [] = Unit {0}
LeaveThird (rows ∷ more) (g ∷ gates) = ((n : ℕ) (j : Joint) → rows.there n j Three ≡ j.words Three) × LeaveThird more gates

third-stays :
    (rows : List Rows) (gates : List model.Gate) → LeaveThird rows gates → (values : Shares) (tapes : Tapes) →
    to_view Three (with_rows rows gates) values tapes Three ≡ tapes Three
third-stays [] [] h values tapes = refl
third-stays [] (g ∷ gates) h values tapes = absurd h
third-stays (r ∷ rows) [] h values tapes = refl
third-stays (r ∷ rows) (Joined p n u v ∷ gates) h values tapes =
    let next = after p n u v values (drawn p n tapes) in
    ap (λ w. w ++ to_view Three (with_rows rows gates) next (left p n tapes) Three) (h.0 n (gate_joint u v values (drawn p n tapes)))
    ∙ ap (λ w. drawn p n tapes Three ++ w) (third-stays rows gates h.1 next (left p n tapes))
    ∙ take-append-drop (p.draws n Three) (tapes Three)
third-stays (r ∷ rows) (Local n f ∷ gates) h values tapes = third-stays rows gates h.1 (after_local f values) tapes

client-third :
    (mine : ℕ → Bool) (dealt : Number → Values) (ds sizes : List ℕ) (next : ℕ) (gates : List Gate)
    → LeaveThird (client_rows mine next gates) (run_gates dealt ds sizes gates)
client-third mine dealt ds sizes next [] = tt
client-third mine dealt ds sizes next (Result ring u ∷ gates) =
    (either (mine next), client-third mine dealt ds (sizes ++ sizes_made ds sizes (Result ring u)) (next + 1) gates)
  where
    either : (b : Bool) (n : ℕ) (j : Joint) → (row_of (Result ring u) b).there n j Three ≡ j.words Three
    either true n j = refl
    either false n j = refl
client-third mine dealt ds sizes next (gate ∷ gates) =
    (either (mine next) gate, client-third mine dealt ds (sizes ++ sizes_made ds sizes gate) (next + made_by gate) gates)
  where
    either : (b : Bool) (g : Gate) (n : ℕ) (j : Joint) → (row_of g b).there n j Three ≡ j.words Three
    either true (Result ring u) n j = refl
    either false (Result ring u) n j = refl
    either b g n j = refl

-- ---- the maps

pub client_tapes_correspond :
    (mine : ℕ → Bool) (dealt : Number → Values) (ds : List ℕ) (gates : List Gate) (tapes : Tapes) → Ready (run_gates dealt ds [] gates) (λ i. []) tapes
    → ClientTapesCorrespond mine dealt ds gates tapes
client_tapes_correspond mine dealt ds gates tapes runs =
    let rows = client_rows mine 0 gates in
    let own = run_gates dealt ds [] gates in
    let all = client_gates mine 0 dealt ds [] gates in
    let sound : AreSound all = sound-rows rows own (gates-sound dealt ds [] gates) in
    let correspond = client-correspond mine Three dealt ds [] 0 gates in
    let ready : Ready all (λ i. []) tapes = ready-rows rows own (λ i. []) tapes runs in
    record {
      there_and_back = from-to_view Three all (λ i. []) tapes sound correspond ready;
      back_and_there = to-from_view Three all (λ i. []) tapes sound correspond ready;
      kept = to_view-length Three all (λ i. []) tapes sound correspond ready;
      back_kept = from_view-length Three all (λ i. []) tapes sound correspond ready;
      third = third-stays rows own (client-third mine dealt ds [] 0 gates) (λ i. []) tapes;
      words = to_view-words Three all (λ i. []) tapes sound correspond ready;
      back_words = from_view-words Three all (λ i. []) tapes sound correspond ready;
    }
