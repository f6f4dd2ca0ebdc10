-- Told the public part, the opened words and the mapped tapes of a run, the simulator answers as the run does.
use Rattle.std.proofs.Common.{◌≡◌, ℕ, List, [], ◌++◌, sym, ap, ◌∙◌, subst}
use Rattle.std.specs.Prelude.{Result, Ok, Err}
use Rattle.proto_core.specs.declared.party.Number.{Number}
use Rattle.protocol_model.specs.Gates.{gates_script}
use Rattle.protocol_model.specs.Network.{Delivery, net}
use Rattle.gates.specs.declared.gate.Gate.{Gate}
use Rattle.shared_gates.specs.Model.{run_gates}
use Rattle.program_trees.specs.Programs.{ProgramTree}
use Rattle.program_trees.specs.TypedPrograms.{TypedProgramTree}
use Rattle.reached_instances.specs.Instances.{Instance}
use Rattle.value_file.specs.declared.inputs.Entry.{Entry}
use Rattle.value_file.specs.Public.{part_of}
use Rattle.tape_file.specs.Tapes.{FourTapes}
use Rattle.language_model.specs.Reports.{Report}
use Rattle.blind_evaluation.specs.Courses.{TakeSameCourse, IsEnded}
use Rattle.view_text.specs.View.{View}
use Rattle.view_model.specs.Dealing.{dealt_to, hidden_sizes, private_shares, made_entries}
use Rattle.view_model.specs.TapeMaps.{AreTapes}
use Rattle.view_model.specs.Seen.{gates_made}
use Rattle.view_model.proofs.DealtSizes.{sizes_hidden}
use Rattle.program_views.specs.Views.{lengths_of, run_on, told_run, view_of, scripts_of, net_of}
use Rattle.program_views.specs.TapeMaps.{mapped}
use Rattle.program_views.specs.Laws.{IsGivenTo}
use Rattle.program_views.specs.Simulated.{ViewIsSimulated}
use Rattle.program_views.proofs.Blind.{takes_same_course, is_ended}
use Rattle.program_views.proofs.Simulated.{same_lengths, views_simulated}
use Rattle.program_views.proofs.Corresponding.{tapes_corresponding}
use Rattle.program_views.proofs.Nets.{same_scripts}
use Rattle.view_simulator.specs.declared.errors.SimulateErr.{SimulateErr}
use Rattle.view_simulator.specs.declared.errors.SimulateErr.TheVariants.{OpenedShort, EmptyLink, Stalled, Memory}
use Rattle.view_simulator.specs.Simulating.{scripts_made, net_told, IsSimulation}
use Rattle.view_simulator.specs.Laws.{IsViewOrRefusal, NetsAreSimulated, RunsAreSimulated}

module _
    (i : Number) (source : ProgramTree) (p : TypedProgramTree) (is : List Instance) (entries : List Entry) (given : IsGivenTo source p is entries)
    (t : FourTapes) (are : AreTapes t) (budget : ℕ) (delivery : Delivery) (more : List ℕ)
  where
    abbrev real : Report
    real = run_on p entries (lengths_of t) budget

    abbrev s : FourTapes
    s = mapped i p entries t budget

    abbrev told : Report
    told = told_run p (part_of entries) (real.opened ++ more) (lengths_of s) budget

    long : lengths_of s ≡ lengths_of t
    long = same_lengths s t (tapes_corresponding i source p entries t budget is given are).kept

    course : TakeSameCourse real told
    course =
        subst (λ (lengths : List ℕ). TakeSameCourse real (told_run p (part_of entries) (real.opened ++ more) lengths budget)) (sym long)
        (takes_same_course p entries (lengths_of t) budget more)

    moves_same : (k : Number) → scripts_made i (part_of entries) s.dealer told.gates k ≡ scripts_of entries t real k
    moves_same k =
        ap (λ (gates : List Gate). gates_script k (gates_made i (part_of entries) s.dealer gates)) (sym course.gates)
        ∙ same_scripts (λ j. private_shares (made_entries i (part_of entries) s.dealer)) (dealt_to entries t.dealer) (hidden_sizes (part_of entries))
        real.gates k
        ∙ ap (λ sizes. gates_script k (run_gates (dealt_to entries t.dealer) sizes [] real.gates)) (sizes_hidden entries)

    pub net_simulated : net_told i p (part_of entries) (real.opened ++ more) s budget delivery ≡ net_of p entries t budget delivery
    net_simulated = ap (λ scripts. net scripts delivery) (λ j. λ k. moves_same k j)

    pub run_simulated :
        (result : Result View SimulateErr) → IsSimulation i p (part_of entries) (real.opened ++ more) s budget delivery result
        → IsViewOrRefusal (view_of i p entries t budget delivery) (net_of p entries t budget delivery) result
    run_simulated (Ok view) h =
        let v : ViewIsSimulated i p entries t budget delivery = views_simulated i source p entries t budget delivery is given are in
        (v.seen ∙ sym (v.made_with_more more) ∙ h.made, sym net_simulated ∙ h.accepted)
    run_simulated (Err (OpenedShort have)) h = subst IsEnded (course.stop ∙ h.short) (is_ended p entries (lengths_of t) budget)
    run_simulated (Err (EmptyLink entry link sent)) h = sym net_simulated ∙ h.refused
    run_simulated (Err (Stalled miner link)) h = sym net_simulated ∙ h.refused
    run_simulated (Err Memory) h = tt

pub nets_simulated :
    (i : Number) (source : ProgramTree) (p : TypedProgramTree) (entries : List Entry) (t : FourTapes) (budget : ℕ) (delivery : Delivery)
    → NetsAreSimulated i source p entries t budget delivery
nets_simulated i source p entries t budget delivery is given are more = net_simulated i source p is entries given t are budget delivery more

pub runs_simulated :
    (i : Number) (source : ProgramTree) (p : TypedProgramTree) (entries : List Entry) (t : FourTapes) (budget : ℕ) (delivery : Delivery)
    → RunsAreSimulated i source p entries t budget delivery
runs_simulated i source p entries t budget delivery is given are more result h =
    run_simulated i source p is entries given t are budget delivery more result h
