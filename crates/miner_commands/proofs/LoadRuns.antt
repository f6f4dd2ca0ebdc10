-- The run of a workload, and what is printed of it.
use Rattle.std.proofs.Common.{◌≡◌, ℕ, List, [], ◌++◌, length, Ok, Err, Result, refl, ap, subst, sym, ◌∙◌, All}
use Rattle.std.specs.Prelude.{IfErr}
use Rattle.std.specs.Result.{IsErrAnd}
use Rattle.sc_text.specs.declared.end.End.{End}
use Rattle.sc_text.specs.declared.event.Event.{Event}
use Rattle.sc_text.specs.Event.{run_text}
use Rattle.proto_core.specs.declared.link.Link.{Link}
use Rattle.protocol_model.specs.Network.{Accepted, Default, EmptyLink, Stalled}
use Rattle.input_share.specs.AddUp.{HasWords}
use Rattle.tape_file.specs.Tapes.{FourTapes}
use Rattle.value_file.specs.declared.inputs.Entry.{Entry}
use Rattle.value_file.specs.Input.{AreInputs}
use Rattle.view_model.specs.TapeMaps.{AreTapes}
use Rattle.program_trees.specs.TypedPrograms.{TypedProgramTree}
use Rattle.workload.specs.Load.{load_entries, load_program, load_seed}
use Rattle.tape_file.specs.Seeds.{seed_tapes}
use Rattle.workload.specs.LoadTree.{load_typed}
use Rattle.workload.proofs.Runnable.{load_is_runnable}
use Rattle.program_run.specs.Accepted.{IsAccepted}
use Rattle.viewed_run.specs.Deliveries.{HasRunOf, net_of}
use Rattle.viewed_run.specs.Premises.{HaveWords}
use Rattle.counted_net.specs.declared.delivery.DeliveryErr.{DeliveryErr}
use Rattle.counted_net.specs.declared.delivery.DeliveryErr.TheVariants as refusal
use Rattle.viewed_run.specs.DeliveredRun.{DeliveredRun}
use Rattle.viewed_run.proofs.Taken.{made_deliveries_are_taken}
use Rattle.command_frame.specs.declared.stop.Stop.{Stop}
use Rattle.command_frame.specs.declared.stop.Stop.TheVariants as stops
use Rattle.command_frame.specs.Answer.{Effect}
use Rattle.program_commands.specs.Ends.{ending_status}
use Rattle.program_commands.specs.Eval.{end_of}
use Rattle.program_commands.specs.Judging.{Finding}
use Rattle.miner_commands.specs.Load.{load_budget, load_effect, load_links, load_report, load_tapes, loaded_effect, messages_text}
use Rattle.program_commands.specs.OfText.{Decides, IsFoundOf, program_in}
use Rattle.miner_commands.specs.Run.{IsHeldRun}
use Rattle.program_commands.proofs.OfTexts.{only_memory}
use Rattle.miner_commands.proofs.Planned.{told_end}

-- ---- the program of a workload

abbrev load_found : Finding
load_found = record { judged = Ok load_is_runnable.tree; sized = Ok load_typed; reached = load_is_runnable.within.list }

load_is_found : IsFoundOf load_program load_found
load_is_found = record {
  judged = load_is_runnable.accepted;
  sized = (load_is_runnable.typed, load_is_runnable.within);
  reached = load_is_runnable.within.reached;
}

load_in : program_in load_found ≡ Ok load_typed
unfolding program_in
load_in = refl

-- of the text of a workload
module _ {X : Type 0} (view : X → TypedProgramTree) (text : List ℕ) (is : text ≡ load_program) (r : Result X Stop)
    (all : (found : Finding) → IsFoundOf text found → Decides view r (program_in found)) where
  decided : Decides view r (program_in load_found)
  decided = all load_found (subst (λ (x : List ℕ). IsFoundOf x load_found) (sym is) load_is_found)

pub load_is_typed : {X : Type 0} (view : X → TypedProgramTree) (text : List ℕ) → text ≡ load_program → (x : X)
    → ((found : Finding) → IsFoundOf text found → Decides view (Ok x) (program_in found)) → view x ≡ load_typed
load_is_typed view text is x all = let same : Ok load_typed ≡ Ok (view x) = sym load_in ∙ decided view text is (Ok x) all in cc

pub load_stops : {X : Type 0} (view : X → TypedProgramTree) (text : List ℕ) → text ≡ load_program → (stop : Stop)
    → ((found : Finding) → IsFoundOf text found → Decides view (Err stop) (program_in found)) → stop ≡ stops.Memory
load_stops view text is stop all = only_memory stop (program_in load_found) load_typed load_in (decided view text is (Err stop) all)

pub load_stops_on : {X Y : Type 0} (view : X → TypedProgramTree) (text : List ℕ) → text ≡ load_program → (stop : Stop)
    → ((found : Finding) → IsFoundOf text found → Decides view (Err stop) (program_in found)) → (r : Result Y Stop) → IsErrAnd r (λ given. given ≡ stop)
    → IfErr r (λ given. given ≡ stops.Memory)
load_stops_on view text is stop all (Ok y) same = tt
load_stops_on view text is stop all (Err given) same = same ∙ load_stops view text is stop all

-- want of memory, when it is handed on
pub memory_on : {Y : Type 0} (r : Result Y Stop) → IsErrAnd r (λ given. given ≡ stops.Memory) → IfErr r (λ given. given ≡ stops.Memory)
memory_on (Ok y) is = tt
memory_on (Err given) is = is

-- ---- its run

pub have_words : (entries : List Entry) (tapes : FourTapes) → AreInputs entries → All HasWords entries → AreTapes tapes → HaveWords entries tapes
have_words entries tapes form words are = record { sound = record { form = form; words = words }; dealer = are.dealer; words = are.miners }

-- no schedule is refused
module _ (p : TypedProgramTree) (entries : List Entry) (tapes : FourTapes) (accepted : IsAccepted p) (have : HaveWords entries tapes) where
  taken : net_of p entries tapes load_budget Default ≡ Accepted
  taken = made_deliveries_are_taken p entries tapes load_budget Default accepted have tt

  pub never_refused : (e : DeliveryErr) → IsHeldRun p entries tapes load_budget Default (HasRunOf p entries tapes load_budget Default) (Err e)
      → e ≡ refusal.Memory
  never_refused (refusal.EmptyLink entry link sent) is = let wrong : Accepted ≡ EmptyLink entry link sent = sym taken ∙ is in absurd cc
  never_refused (refusal.Stalled miner link) is = let wrong : Accepted ≡ Stalled miner link = sym taken ∙ is in absurd cc
  never_refused refusal.Memory is = refl

pub run_of_load : (p : TypedProgramTree) (entries : List Entry) (tapes : FourTapes) (ran : DeliveredRun) → p ≡ load_typed
    → HasRunOf p entries tapes load_budget Default ran → HasRunOf load_typed entries tapes load_budget Default ran
run_of_load p entries tapes ran is h = subst (λ (x : TypedProgramTree). HasRunOf x entries tapes load_budget Default ran) is h

-- ---- what is printed of it

abbrev effect_with : List Event → End → List Link → Effect
effect_with events end links =
    record { writes = []; text = run_text events end ++ messages_text (length links); status = ending_status end.how }

abbrev load_run : (number : ℕ) → DeliveredRun → Type 0
load_run number ran = HasRunOf load_typed (load_entries number) (load_tapes number) load_budget Default ran

loaded_so : (number : ℕ) (ran : DeliveredRun) → load_run number ran → loaded_effect ran ≡ load_effect number
unfolding load_report load_links
loaded_so number ran h =
    ap (effect_with ran.report.events.items ran.report.end) h.delivered
    ∙ ap (λ end. effect_with ran.report.events.items end (load_links number)) (sym (told_end (load_report number) ran.report h.told))
    ∙ ap (λ events. effect_with events (end_of (load_report number)) (load_links number)) h.told.events

pub loaded : (number : ℕ) (entries : List Entry) (tapes : FourTapes) (ran : DeliveredRun) → entries ≡ load_entries number
    → tapes ≡ seed_tapes (load_seed number) 131072
    → HasRunOf load_typed entries tapes load_budget Default ran → loaded_effect ran ≡ load_effect number
unfolding load_tapes
loaded number entries tapes ran same taped h =
    loaded_so number ran
    (subst (λ (t : FourTapes). HasRunOf load_typed (load_entries number) t load_budget Default ran) taped
    (subst (λ (es : List Entry). HasRunOf load_typed es tapes load_budget Default ran) same h))
