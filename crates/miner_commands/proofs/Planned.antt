-- What is planned of a run is what the definitions say.
use Rattle.std.proofs.Common.{◌≡◌, ℕ, List, [], ◌++◌, Option, Some, None, refl, sym, ◌∙◌, ap}
use Rattle.command_frame.specs.Answer.{Effect, Written, effect_of}
use Rattle.command_frame.specs.declared.plan.Plan.{Plan}
use Rattle.command_words.specs.Ask.{RunAsk}
use Rattle.sc_text.specs.declared.end.End.{End}
use Rattle.sc_text.specs.declared.event.Event.{Event}
use Rattle.sc_text.specs.Event.{run_text}
use Rattle.program_trees.specs.TypedPrograms.{TypedProgramTree}
use Rattle.value_file.specs.declared.inputs.Entry.{Entry}
use Rattle.tape_file.specs.Tapes.{FourTapes}
use Rattle.language_model.specs.Reports.{Report}
use Rattle.program_run.specs.Reports.{TellsAs, eval_with}
use Rattle.program_run.specs.declared.running.RunReport.{RunReport}
use Rattle.viewed_run.specs.Deliveries.{HasRunOf, delivered_of, net_of}
use Rattle.viewed_run.specs.DeliveredRun.{DeliveredRun}
use Rattle.viewed_run.specs.Views.{view_of}
use Rattle.view_text.specs.View.{View}
use Rattle.viewed_run.specs.Seen.{HasSeenRun, view_in}
use Rattle.viewed_run.specs.declared.seen.SeenRun.{SeenRun}
use Rattle.viewed_run.specs.declared.seen.Views.{Views}
use Rattle.proto_core.specs.declared.link.Link.{Link}
use Rattle.proto_core.specs.declared.party.Number.{Number}
use Rattle.proto_core.specs.declared.party.Number.TheVariants.{One, Two, Three}
use Rattle.protocol_model.specs.Network.{Delivery}
use Rattle.program_commands.specs.Ends.{ending_status}
use Rattle.program_commands.specs.Eval.{end_of, ending_of}
use Rattle.miner_commands.specs.Run.{HasRan, ran_effect, recorded_links, run_effect}
use Rattle.miner_commands.specs.Views.{view_files}

-- ---- the run of a program that was read

pub told_end : (r : Report) (told : RunReport) → TellsAs r told → end_of r ≡ told.end
told_end r told h = rw (ap ending_of h.stop, sym h.cost) refl

abbrev effect_with : RunAsk → List Written → List Event → End → List Link → Effect
effect_with ask files events end links =
    record { writes = files ++ recorded_links ask.recorded links; text = run_text events end; status = ending_status end.how }

told_so : (ask : RunAsk) (views : Number → Option View) (r : Report) (links : List Link) (files : List Written) (run : DeliveredRun)
    → files ≡ view_files ask.views views → TellsAs r run.report → run.delivered.items ≡ links
    → ran_effect ask files run ≡ run_effect ask views r links
told_so ask views r links files run same h delivered =
    sym
    (ap (λ written. effect_with ask written r.events (end_of r) links) (sym same)
    ∙ ap (λ events. effect_with ask files events (end_of r) links) (sym h.events)
    ∙ ap (λ end. effect_with ask files run.report.events.items end links) (told_end r run.report h)
    ∙ ap (effect_with ask files run.report.events.items run.report.end) (sym delivered))

views_so : (prefix : List ℕ) (views : Number → Option View) (seen : Views) → ((i : Number) → views i ≡ Some (view_in seen i))
    → view_files (Some prefix) views ≡ view_files (Some prefix) (λ i. Some (view_in seen i))
views_so prefix views seen same = rw (same One, same Two, same Three) refl

pub some_path : (o : Option (List ℕ)) (p q : List ℕ) → o ≡ Some p → q ≡ p → o ≡ Some q
some_path o p q is same = is ∙ ap (λ (x : List ℕ). Some x) (sym same)

-- what is planned of a run is what the definitions say
module _ (ask : RunAsk) (p : TypedProgramTree) (entries : List Entry) (tapes : FourTapes) (delivery : Delivery) where
  abbrev views_wanted : Number → Option View
  views_wanted i = view_of i p entries tapes ask.budget delivery

  planned_so : (run : DeliveredRun) (files : List Written) (plan : Plan) → HasRunOf p entries tapes ask.budget delivery run
      → files ≡ view_files ask.views views_wanted → effect_of plan ≡ ran_effect ask files run → HasRan ask p entries tapes delivery plan
  planned_so run files plan h same is = record {
    accepted = h.accepted;
    planned =
        is
        ∙ told_so ask views_wanted (eval_with p entries tapes ask.budget) (delivered_of p entries tapes ask.budget delivery) files run same h.told
        h.delivered;
  }

  pub planned_unseen : (run : DeliveredRun) (plan : Plan) → ask.views ≡ None → HasRunOf p entries tapes ask.budget delivery run
      → effect_of plan ≡ ran_effect ask [] run → HasRan ask p entries tapes delivery plan
  planned_unseen run plan none h is =
      let same : view_files ask.views views_wanted ≡ [] = rw none refl in
      planned_so run [] plan h (sym same) is

  pub planned_seen : (prefix : List ℕ) (seen : SeenRun) (files : List Written) (plan : Plan) → ask.views ≡ Some prefix
      → HasSeenRun p entries tapes ask.budget delivery seen → files ≡ view_files (Some prefix) (λ i. Some (view_in seen.views i))
      → effect_of plan ≡ ran_effect ask files seen.run → HasRan ask p entries tapes delivery plan
  planned_seen prefix seen files plan some h same is =
      let wanted : view_files ask.views views_wanted ≡ view_files (Some prefix) views_wanted = ap (λ views. view_files views views_wanted) some in
      planned_so seen.run files plan h.run (same ∙ sym (wanted ∙ views_so prefix views_wanted seen.views h.views)) is
