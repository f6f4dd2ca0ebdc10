-- Of a run whose inputs can't be dealt a miner sees the end alone.
use Rattle.std.proofs.Common.{◌≡◌, ◌<◌, ℕ, Bool, false, List, [], length, Option, Some, sym, ◌∙◌, ap, ap₂, arith}
use Rattle.std.specs.Prelude.{if◌then◌else◌, nat_le}
use Rattle.std.proofs.lemmas.Bool.Decides.{nat_tests}
use Rattle.sc_text.specs.declared.end.Ending.{Ending}
use Rattle.sc_text.specs.declared.elements.Element.{Element}
use Rattle.proto_core.specs.declared.party.Number.{Number}
use Rattle.protocol_model.specs.Network.{Delivery}
use Rattle.tape_file.specs.Tapes.{FourTapes}
use Rattle.program_trees.specs.TypedPrograms.{TypedProgramTree}
use Rattle.value_file.specs.declared.inputs.Entry.{Entry}
use Rattle.input_share.specs.Dealing.{need_of}
use Rattle.language_model.specs.Reports.{Report}
use Rattle.view_text.specs.View.{View}
use Rattle.view_model.specs.Seen.{Seen, seen_by}
use Rattle.program_views.specs.Views.{lengths_of, nothing_seen, openings, run_on, seen_of, view_at, view_of}
use Rattle.delivered_run.proofs.Told.{ended_so}
use Rattle.delivered_run.specs.declared.running.DeliveredRun.{DeliveredRun}
use Rattle.delivered_run.specs.Courses.{IsUndealtRun}
use Rattle.viewed_run.specs.Seats.{nothing_but}

too_few : (need have : ℕ) → have < need → nat_le need have ≡ false
too_few need have h = grind (arith, nat_tests)

-- a view of openings and an end alone
abbrev only_opened : Number → Ending → List (List Element) → (cost : ℕ) → Option View
only_opened i how opened cost =
    Some (record { miner = i; inputs = []; drew = []; got = []; opened = opened; end = record { how = how; cost = cost } })

module _ (p : TypedProgramTree) (entries : List Entry) (t : FourTapes) (budget : ℕ) (given : Delivery) (run : DeliveredRun)
    (h : IsUndealtRun p entries t budget given run) where
  abbrev r : Report
  r = run_on p entries (lengths_of t) budget

  nothing_so : (i : Number) → seen_of i entries t given r ≡ nothing_seen
  nothing_so i =
      ap (λ (b : Bool). if b then seen_by i entries (r).gates t given else nothing_seen) (too_few (need_of entries) (length t.dealer) h.few)

  none_opened : openings (r).events ≡ []
  none_opened = ap (λ (x : Report). openings x.events) (ended_so p entries t budget h.few)

  pub sees_the_end : (i : Number) → view_of i p entries t budget given ≡ Some (nothing_but i run.report.end)
  sees_the_end i =
      ap (λ (s : Seen). view_at i s r (r).stop) (nothing_so i)
      ∙ ap (view_at i nothing_seen r) h.ran.told.stop
      ∙ ap₂ (only_opened i run.report.end.how) none_opened (sym h.ran.told.cost)
