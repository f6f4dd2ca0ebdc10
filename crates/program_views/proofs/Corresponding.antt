-- The maps of tapes of a program's run are each other's inverse.
use Rattle.std.proofs.Common.{◌≡◌, ℕ, List, sym, ap, ◌∙◌}
use Rattle.proto_core.specs.declared.party.Number.{Number}
use Rattle.gates.specs.declared.gate.Gate.{Gate}
use Rattle.program_trees.specs.Programs.{ProgramTree}
use Rattle.program_trees.specs.TypedPrograms.{TypedProgramTree}
use Rattle.reached_instances.specs.Instances.{Instance}
use Rattle.value_file.specs.declared.inputs.Entry.{Entry}
use Rattle.tape_file.specs.Tapes.{FourTapes}
use Rattle.view_model.specs.TapeMaps.{miners_of, to_simulated, from_simulated, AreTapes, Correspond}
use Rattle.view_model.proofs.Corresponding.{correspond}
use Rattle.program_views.specs.Views.{lengths_of, run_on}
use Rattle.program_views.specs.TapeMaps.{mapped, mapped_back, MapsCorrespond}
use Rattle.program_views.specs.Laws.{IsGivenTo, TapesCorrespond}
use Rattle.program_views.proofs.Simulated.{same_lengths, can_run}

module _
    (i : Number) (source : ProgramTree) (p : TypedProgramTree) (is : List Instance) (entries : List Entry) (given : IsGivenTo source p is entries)
    (budget : ℕ)
  where
    -- the gates of the run on tapes of these lengths
    abbrev gates_at : List ℕ → List Gate
    gates_at lengths = (run_on p entries lengths budget).gates

    as_gates : (t : FourTapes) → AreTapes t → Correspond i entries (gates_at (lengths_of t)) t
    as_gates t are = correspond i entries (gates_at (lengths_of t)) t are (can_run source p is entries given t are budget)

    pub maps_correspond : (t : FourTapes) → AreTapes t → MapsCorrespond i p entries t budget
    maps_correspond t are =
        let c = as_gates t are in
        let to : FourTapes = mapped i p entries t budget in
        let from : FourTapes = mapped_back i p entries t budget in
        let to_long : lengths_of to ≡ lengths_of t = same_lengths to t c.kept in
        let from_long : lengths_of from ≡ lengths_of t = same_lengths from t c.back_kept in
        let again : mapped i p entries from budget ≡ t =
        ap (λ lengths. to_simulated i entries (gates_at lengths) from) from_long ∙ c.back_and_there in
        record {
          there_and_back = ap (λ lengths. from_simulated i entries (gates_at lengths) to) to_long ∙ c.there_and_back;
          back_and_there = again;
          kept = c.kept;
          back_kept = c.back_kept;
          words = c.words;
          back_words = c.back_words;
          own = c.own;
          back_own = sym (as_gates from c.back_words).own ∙ ap (λ (v : FourTapes). miners_of v i) again;
        }

pub tapes_corresponding :
    (i : Number) (source : ProgramTree) (p : TypedProgramTree) (entries : List Entry) (t : FourTapes) (budget : ℕ)
    → TapesCorrespond i source p entries t budget
tapes_corresponding i source p entries t budget is given are = maps_correspond i source p is entries given budget t are
