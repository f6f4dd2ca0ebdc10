-- What comes to a miner that runs a program's code, and what it has done after a delivery, beside what its view says.
use Rattle.std.specs.Prelude.{◌≡◌, ℕ, ◌-◌, List, [], ◌∷◌, map, take, Some}
use Rattle.sc_text.specs.declared.elements.Element.{Element}
use Rattle.proto_core.specs.declared.party.Number.{Number}
use Rattle.proto_core.specs.declared.link.Link.{Link}
use Rattle.proto_core.specs.Strand.{Notice, Shown, Strand, Ends, Ran, told_in, Published, Handed}
use Rattle.proto_core.specs.Net.{nothing, run_of, all_delivered}
use Rattle.protocol_model.specs.Arrivals.{arrived}
use Rattle.protocol_model.specs.Network.{Accepted, Delivery, order_of}
use Rattle.gates.specs.Clear.{Values}
use Rattle.shared_gates.specs.Model.{miner_of}
use Rattle.tape_file.specs.Tapes.{FourTapes}
use Rattle.value_file.specs.declared.inputs.Entry.{Entry}
use Rattle.program_trees.specs.TypedPrograms.{TypedProgramTree}
use Rattle.reached_instances.specs.Instances.{Instance}
use Rattle.reached_instances.specs.Reached.{IsReachedList}
use Rattle.clear_eval.specs.Offers.{offered}
use Rattle.verified_code.specs.Settled.{settled}
use Rattle.delivered_run.specs.RawCodes.{raw_code_of_program}
use Rattle.gate_laws.specs.Dealt.{drawn_by}
use Rattle.driven_nodes.specs.Steps.{Stopped}
use Rattle.delivered_run.specs.Places.{Place}
use Rattle.delivered_run.specs.Telling.{elements_told}
use Rattle.view_text.specs.View.{View}
use Rattle.view_model.specs.TapeMaps.{miners_of}
use Rattle.program_views.specs.Inputs.{dealt_of}
use Rattle.program_views.specs.Views.{lengths_of, run_on, received, view_of, scripts_of, net_of}
use Rattle.delivered_run.specs.Accepted.{IsAccepted}
use Rattle.delivered_run.specs.Dealt.{CanBeDealt}
use Rattle.delivered_run.specs.OwnCode.{Ended, Reached}
use Rattle.delivered_run.specs.OwnRuns.{own_nodes}

-- the openings among what a miner tells
abbrev pub shown_in : List Notice → List (List Element)
shown_in [] = []
shown_in (Shown form words ∷ notices) = elements_told form words ∷ shown_in notices
shown_in (Published name form words ∷ notices) = shown_in notices
shown_in (Handed name form count words ∷ notices) = shown_in notices

module _ (i : Number) (p : TypedProgramTree) (entries : List Entry) (t : FourTapes) (budget : ℕ) (delivery : Delivery) where
  -- three miners, each by its own shares and tape, with the code of these instances
  abbrev pub code_nodes : List Instance → Number → Strand Ended
  code_nodes is =
      own_nodes (offered entries (lengths_of t)) (dealt_of entries t.dealer) (settled (raw_code_of_program p is)) budget (miners_of t)

  abbrev pub order : List Link
  order = order_of (scripts_of entries t (run_on p entries (lengths_of t) budget)) delivery

  -- what this one has done after the delivery
  abbrev pub ran : List Instance → Ran Ended
  ran is = run_of (code_nodes is) (all_delivered (code_nodes is) nothing order) i

  -- it has stopped there, as its view says, and its view has the words of its tape that were drawn up to there
  pub record EndsAs (view : View) (left : Strand Ended) : Type 0 where
    pub last : Place
    pub values : Values
    pub at_end : left ≡ Ends (Reached (Stopped last) values)
    pub how : last.ended ≡ Some view.end.how
    pub cost : budget - last.stage.left ≡ view.end.cost
    pub drew : view.drew ≡ take (drawn_by last.stage.drawn (miner_of i)) (miners_of t i)

  -- there is a view: it has the miner's shares of the private inputs, the messages that come to it, in order of arrival, the openings
  -- that it tells, and its end
  pub record SeesItsView : Type 0 where
    pub reached : List Instance
    pub are : IsReachedList p reached
    pub view : View
    pub seen : view_of i p entries t budget delivery ≡ Some view
    pub inputs : map (λ share. share.words) view.inputs ≡ (dealt_of entries t.dealer).shares i
    pub got : view.got ≡ map received (arrived (code_nodes reached) i nothing order)
    pub opened : view.opened ≡ shown_in (told_in (ran reached).acts)
    pub end : EndsAs view (ran reached).left

abbrev pub CodeViewsAreViews : Number → TypedProgramTree → List Entry → FourTapes → (budget : ℕ) → Delivery → Type 0
CodeViewsAreViews i p entries t budget delivery =
    IsAccepted p → CanBeDealt entries t → net_of p entries t budget delivery ≡ Accepted → SeesItsView i p entries t budget delivery
