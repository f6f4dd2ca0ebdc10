-- What the simulator answers, by the run of one who is told what is opened, the net and what is made.
use Rattle.std.proofs.Common.{◌≡◌, ℕ, List, length, sym, ap, ◌∙◌, subst}
use Rattle.std.specs.Prelude.{Result, Ok, Err, Some, IfOk, IsErrAnd}
use Rattle.proto_core.specs.declared.party.Number.{Number}
use Rattle.proto_core.specs.declared.link.Link.{Link}
use Rattle.protocol_model.specs.Network.{Accepted, Delivery, net, order_of}
use Rattle.gates.specs.declared.gate.Gate.{Gate}
use Rattle.value_file.specs.declared.public.PublicEntry.{PublicEntry}
use Rattle.tape_file.specs.Tapes.{FourTapes}
use Rattle.program_trees.specs.TypedPrograms.{TypedProgramTree}
use Rattle.language_model.specs.Learned.{learned_of}
use Rattle.language_model.specs.Reports.{Report}
use Rattle.blind_evaluation.specs.Courses.{IsEnded}
use Rattle.clear_eval.specs.declared.report.Report as reported
use Rattle.clear_eval.specs.declared.blind_run.BlindErr.{BlindErr}
use Rattle.clear_eval.specs.declared.blind_run.BlindErr.TheVariants as told
use Rattle.clear_eval.specs.Reports.{report_seen, IsBlindAnswer}
use Rattle.counted_net.specs.declared.delivery.DeliveryErr.{DeliveryErr}
use Rattle.counted_net.specs.declared.delivery.DeliveryErr.TheVariants as refused
use Rattle.counted_net.specs.Answers.{IsNetAnswer}
use Rattle.view_text.specs.View.{View}
use Rattle.view_model.specs.Seen.{Seen}
use Rattle.program_views.specs.Views.{lengths_of, told_run, view_with, made_of}
use Rattle.view_simulator.specs.Refusals.{told_refusal, net_refusal}
use Rattle.view_simulator.specs.Making.{seen_in_order}
use Rattle.view_simulator.specs.Simulating.{scripts_made, IsSimulation}

-- the refusal that the exit of a `?` hands on
pub handed_on : {T E : Type 0} (r : Result T E) (e : E) → IsErrAnd r (λ given. given ≡ e) → Err e ≡ r
handed_on (Ok x) e h = absurd h
handed_on (Err given) e h = ap Err (sym h)

-- ---- THE ANSWER

module _ (i : Number) (p : TypedProgramTree) (part : List PublicEntry) (opened : List ℕ) (s : FourTapes) (budget : ℕ) (delivery : Delivery) where
  abbrev run : Report
  run = told_run p part opened (lengths_of s) budget

  pub told_short :
      (e : BlindErr) → IsBlindAnswer (Err e) run (length opened) → IsSimulation i p part opened s budget delivery (Err (told_refusal e))
  told_short (told.OpenedShort have) h = record { short = h.0; all = h.1 }
  told_short told.Memory h = tt

  -- words enough were told
  module _ (report : reported.Report) (is : report_seen report ≡ run) where
    abbrev gates : List Gate
    gates = report.gates.items

    same_net : net (scripts_made i part s.dealer run.gates) delivery ≡ net (scripts_made i part s.dealer gates) delivery
    same_net = ap (λ (r : Report). net (scripts_made i part s.dealer r.gates) delivery) (sym is)

    ended : IsEnded run.stop
    ended = subst (λ (r : Report). IsEnded r.stop) is tt

    pub net_refuses :
        (e : DeliveryErr) → IsNetAnswer (scripts_made i part s.dealer gates) delivery (Err e) →
        IsSimulation i p part opened s budget delivery (Err (net_refusal e))
    net_refuses (refused.EmptyLink entry link sent) h = record { ended = ended; refused = same_net ∙ h }
    net_refuses (refused.Stalled miner link) h = record { ended = ended; refused = same_net ∙ h }
    net_refuses refused.Memory h = tt

    pub view_made :
        (order : List Link) (seen : Seen) (view : View) → net (scripts_made i part s.dealer gates) delivery ≡ Accepted →
        order ≡ order_of (scripts_made i part s.dealer gates) delivery → seen ≡ seen_in_order i part gates (learned_of report.events.items) s order →
        view_with i seen (report_seen report) ≡ Some view → IsSimulation i p part opened s budget delivery (Ok view)
    view_made order seen view accepted ordered made shown =
        record {
          accepted = same_net ∙ accepted;
          made =
              sym
              (ap (λ x. view_with i x (report_seen report)) (made ∙ ap (λ ls. seen_in_order i part gates (learned_of report.events.items) s ls) ordered)
              ∙ ap (λ (r : Report). view_with i (made_of i part s delivery r) r) is)
              ∙ shown;
        }

-- ---- WHAT IS SURE OF THE GATES

-- what is sure of the gates of the run is sure of those of its report
pub of_report :
    (P : List Gate → Type 0) (answer : Result reported.Report BlindErr) (r : Report) (count : ℕ) → IsBlindAnswer answer r count → P r.gates →
    IfOk answer (λ report. P report.gates.items)
of_report P (Ok report) r count is sure = subst P (sym (ap (λ (q : Report). q.gates) is)) sure
of_report P (Err e) r count is sure = tt
