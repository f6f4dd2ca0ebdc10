-- What a run tells is what three miners tell who run the program's code, each by its shares and tape alone, their messages delivered in this order.
use Rattle.std.specs.Prelude.{◌≡◌, ℕ, ◌-◌, List, Some}
use Rattle.sc_text.specs.declared.end.End.{End}
use Rattle.sc_text.specs.declared.event.Event.{Event}
use Rattle.proto_core.specs.declared.party.Number.{Number}
use Rattle.proto_core.specs.Net.{all_delivered, nothing, run_of}
use Rattle.proto_core.specs.Strand.{Ends, Ran, Strand, told_in}
use Rattle.protocol_model.specs.Network.{Accepted, Delivery}
use Rattle.gates.specs.Clear.{Values}
use Rattle.value_file.specs.declared.inputs.Entry.{Entry}
use Rattle.tape_file.specs.Tapes.{FourTapes}
use Rattle.program_trees.specs.TypedPrograms.{TypedProgramTree}
use Rattle.reached_instances.specs.Instances.{Instance}
use Rattle.reached_instances.specs.Reached.{IsReachedList}
use Rattle.language_model.specs.Effects as effects
use Rattle.language_model.specs.Reports.{Report}
use Rattle.verified_code.specs.Settled.{settled}
use Rattle.view_model.specs.TapeMaps.{miners_of}
use Rattle.driven_nodes.specs.Steps.{Stopped}
use Rattle.code_places.specs.Places.{Place}
use Rattle.code_runs.specs.ClientTold.{told_together}
use Rattle.miner_core.specs.OwnCode.{Ended, Reached}
use Rattle.miner_runs.specs.OwnRuns.{own_nodes}
use Rattle.program_run.specs.Accepted.{IsAccepted}
use Rattle.program_run.specs.Dealt.{CanBeDealt}
use Rattle.program_run.specs.Inputs.{dealt_of}
use Rattle.program_run.specs.Offers.{offered}
use Rattle.program_run.specs.RawCodes.{raw_code_of_program}
use Rattle.program_run.specs.Reports.{eval_with, lengths_of}
use Rattle.viewed_run.specs.Deliveries.{delivered_of, net_of}

module _ (p : TypedProgramTree) (entries : List Entry) (t : FourTapes) (budget : ℕ) (delivery : Delivery) where
  -- three miners with the code of these instances, each with its own shares and its own tape
  abbrev pub miners : List Instance → Number → Strand Ended
  miners is = own_nodes (offered entries (lengths_of t)) (dealt_of entries t.dealer) (settled (raw_code_of_program p is)) budget (miners_of t)

  -- what each has done once the links of the run have brought their messages
  abbrev pub has_done : List Instance → Number → Ran Ended
  has_done is = run_of (miners is) (all_delivered (miners is) nothing (delivered_of p entries t budget delivery))

  -- it has stopped, so, at this cost
  pub record HasStopped (end : End) (left : Strand Ended) : Type 0 where
    pub last : Place
    pub values : Values
    pub at_end : left ≡ Ends (Reached (Stopped last) values)
    pub how : last.ended ≡ Some end.how
    pub cost : budget - last.stage.left ≡ end.cost

  -- the three have stopped so, and what they have told, put together as the client does, are these events
  pub record AreToldByMiners (events : List Event) (end : End) : Type 0 where
    pub reached : List Instance
    pub are : IsReachedList p reached
    pub told : told_together (λ i. told_in (has_done reached i).acts) ≡ events
    pub stopped : (i : Number) → HasStopped end (has_done reached i).left

  -- the events and the end of evaluation
  pub record IsToldByMiners (r : Report) : Type 0 where
    pub end : End
    pub how : r.stop ≡ effects.Ended end.how
    pub cost : r.cost ≡ end.cost
    pub are : AreToldByMiners r.events end

  abbrev pub RunIsToldByMiners : Type 0
  RunIsToldByMiners = IsAccepted p → CanBeDealt entries t → net_of p entries t budget delivery ≡ Accepted → IsToldByMiners (eval_with p entries t budget)
