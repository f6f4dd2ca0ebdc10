-- Each part of a view is of its form.
use Rattle.std.proofs.Common.{◌≡◌, ℕ, ◌≤◌, ◌<◌, ◌^◌, List, [], length, map, Bool, true, false, if◌then◌else◌, Some, None, refl}
use Rattle.std.proofs.Common.{subst, arith}
use Rattle.proto_core.specs.declared.party.Number.{Number}
use Rattle.proto_core.specs.declared.party.Number.TheVariants.{One, Two, Three}
use Rattle.protocol_model.specs.Gates.{gates_script}
use Rattle.protocol_model.specs.Network.{Delivery, order_of}
use Rattle.protocol_model.specs.Runs.{run_messages}
use Rattle.protocol_model.proofs.Sizes.{AreWords-take}
use Rattle.shared_gates.proofs.Models.{gates-sound}
use Rattle.value_file.specs.declared.inputs.Entry.{Entry}
use Rattle.input_share.specs.Dealing.{need_of}
use Rattle.tape_file.specs.Tapes.{FourTapes}
use Rattle.program_trees.specs.TypedPrograms.{TypedProgramTree}
use Rattle.language_model.specs.Effects.{World, Clear, RunStop, Ended, Short}
use Rattle.language_model.specs.Reports.{Report, world_of}
use Rattle.language_model.proofs.Kept.{cost_kept}
use Rattle.clear_eval.specs.Offers.{offered}
use Rattle.view_text.specs.View.{View, Words, AreInputs, AreReceived, AreOpened, IsView}
use Rattle.view_text.proofs.Rounds.{read_again, same_texts}
use Rattle.view_model.specs.Dealing.{dealt_to, private_sizes}
use Rattle.view_model.specs.TapeMaps.{miners_of, no_values, gates_dealt, is_dealt}
use Rattle.view_model.specs.Seen.{Seen, seen_by}
use Rattle.view_model.proofs.Corresponding.{le_from, ready_with}
use Rattle.framed_runs.specs.Framing.{CanBeFramed}
use Rattle.framed_runs.proofs.FramedScripts.{run_gates-fit}
use Rattle.framed_runs.proofs.FramedMessages.{run-framed}
use Rattle.program_views.specs.Laws.{IsGivenTo}
use Rattle.program_views.specs.Views.{lengths_of, run_on, received, openings, input_shares, nothing_seen, view_at, seen_of, view_of}
use Rattle.program_views.proofs.Given.{same_need}
use Rattle.program_views.proofs.Simulated.{can_run}
use Rattle.view_laws.specs.Ends.{HasRoom, CanBeWritten}
use Rattle.view_laws.proofs.Programs.{programs_end}
use Rattle.view_laws.specs.Views.{CanBeRun, ViewsAreOfTheirForm, IsSeen, IsReadAgain, AreEqualByTheirTexts}
use Rattle.view_laws.proofs.Shares.{are_words, shares_are, need_most}
use Rattle.view_laws.proofs.Messages.{are_received}
use Rattle.view_laws.proofs.Openings.{run_openings_are}

module _ (p : TypedProgramTree) (entries : List Entry) (t : FourTapes) (budget : ℕ) (can : CanBeRun p entries t budget) where
  abbrev r : Report
  r = run_on p entries (lengths_of t) budget

  abbrev w : World
  w = world_of Clear (offered entries (lengths_of t))

  -- ---- the end

  room : HasRoom w budget
  room =
      let most = need_most [] entries can.inputs.form in
      let few = can.counted.inputs in
      let same = same_need entries in
      record {
        steps = can.counted.budget_fits;
        dealer = can.counted.dealer;
        first = can.counted.miners One;
        second = can.counted.miners Two;
        third = can.counted.miners Three;
        dealt = omega (arith, most, few, same);
      }

  pub ends : CanBeWritten r.stop
  ends =
      let a = can.program in
      programs_end a.source w budget [] a.typed a.written a.placed p a.of a.within room

  pub cost : r.cost < 2 ^ 64
  cost = let kept = cost_kept w p budget [] in let fits = can.counted.budget_fits in omega (arith, kept, fits)

  -- ---- what was opened

  opened : AreOpened (openings r.events)
  opened = run_openings_are p entries t budget can.program can.inputs can.tapes

  -- ---- the messages

  given : IsGivenTo can.program.source p can.program.within.list entries
  given =
      let a = can.program in
      record {
        program = record { typed = a.typed; written = a.written; resolved = a.of; reached = a.within.reached; within = a.within };
        inputs = can.inputs;
      }

  framed : need_of entries ≤ length t.dealer → CanBeFramed (run_messages (gates_dealt entries t.dealer r.gates) no_values (miners_of t))
  framed enough =
      let reaches = can_run can.program.source p can.program.within.list entries given t can.tapes budget enough in
      run-framed (gates_dealt entries t.dealer r.gates) no_values (miners_of t)
      (gates-sound (dealt_to entries t.dealer) (private_sizes entries) [] r.gates)
      (run_gates-fit (dealt_to entries t.dealer) (private_sizes entries) [] r.gates)
      (ready_with entries r.gates t.dealer t can.tapes.miners enough reaches)

  module _ (i : Number) (delivery : Delivery) where
    -- ---- what was seen

    record IsSeenSo (seen : Seen) : Type 0 where
      inputs : AreInputs (input_shares seen.inputs)
      drew : Words seen.drew
      got : AreReceived (map received seen.got)

    seen_so : IsSeenSo (seen_of i entries t delivery r)
    seen_so = go (is_dealt entries t) refl
      where
        go : (b : Bool) → is_dealt entries t ≡ b → IsSeenSo (if b then seen_by i entries r.gates t delivery else nothing_seen)
        go true e =
            record {
              inputs = shares_are i [] entries t.dealer can.inputs.form can.tapes.dealer;
              drew = are_words _ (AreWords-take _ (miners_of t i) (can.tapes.miners i));
              got =
                  are_received i (run_messages (gates_dealt entries t.dealer r.gates) no_values (miners_of t))
                  (order_of (λ k. gates_script k (gates_dealt entries t.dealer r.gates)) delivery) (framed (le_from _ _ e));
            }
        go false e = record { inputs = tt; drew = tt; got = tt }

    -- ---- the view

    some_is : (v view : View) → Some v ≡ Some view → v ≡ view
    some_is v view e = cc

    none_is : {X : Type 0} (view : View) → None ≡ Some view → X
    none_is view e = cc

    is_view : (view : View) → view_of i p entries t budget delivery ≡ Some view → IsView view
    is_view view = by_stop r.stop ends
      where
        by_stop : (stop : RunStop) → CanBeWritten stop → view_at i (seen_of i entries t delivery r) r stop ≡ Some view → IsView view
        by_stop (Ended ending) h e =
            subst IsView (some_is _ view e)
            (record { inputs = seen_so.inputs; drew = seen_so.drew; got = seen_so.got; opened = opened; ending = h; cost = cost })
        by_stop Short h e = none_is view e

pub views_have_their_form : (i : Number) (p : TypedProgramTree) (entries : List Entry) (t : FourTapes) (budget : ℕ) (delivery : Delivery)
    → ViewsAreOfTheirForm i p entries t budget delivery
views_have_their_form i p entries t budget delivery can view e = is_view p entries t budget can i delivery view e

-- ---- TEXTS

of_its_form : (view : View) → IsSeen view → IsView view
of_its_form view s = views_have_their_form s.miner s.program s.entries s.tapes s.budget s.delivery s.runs view s.sees

pub texts_read_again : (view : View) → IsReadAgain view
texts_read_again view s = read_again view (of_its_form view s)

pub texts_tell_views : (one other : View) → AreEqualByTheirTexts one other
texts_tell_views one other s z e = same_texts one other (of_its_form one s) (of_its_form other z) e
