-- A miner's view of a program's run, and that the simulator makes it.
use Rattle.std.specs.Prelude.{◌≡◌, ℕ, List, ◌++◌, take, Some}
use Rattle.program_trees.specs.TypedPrograms.{TypedProgramTree}
use Rattle.proto_core.specs.declared.party.Number.{Number}
use Rattle.protocol_model.specs.Network.{Delivery}
use Rattle.shared_gates.specs.Model.{miner_of}
use Rattle.value_file.specs.declared.inputs.Entry.{Entry}
use Rattle.value_file.specs.Public.{part_of}
use Rattle.tape_file.specs.Tapes.{FourTapes}
use Rattle.gate_laws.specs.Dealt.{drawn_by}
use Rattle.view_text.specs.View.{View}
use Rattle.view_model.specs.TapeMaps.{miners_of}
use Rattle.program_views.specs.Views.{lengths_of, run_on, view_of, simulated}
use Rattle.program_views.specs.TapeMaps.{mapped}

-- there is a view, with as many words drawn as the report counts; and the simulator makes it of the public part of the inputs, the words
-- that were opened, also with more words after them, and the mapped tapes
pub record ViewIsSimulated (i : Number) (p : TypedProgramTree) (entries : List Entry) (t : FourTapes) (budget : ℕ) (delivery : Delivery) : Type 0 where
  pub view : View
  pub seen : view_of i p entries t budget delivery ≡ Some view
  pub drew : view.drew ≡ take (drawn_by (run_on p entries (lengths_of t) budget).drawn (miner_of i)) (miners_of t i)
  pub made :
      simulated i p (part_of entries) (run_on p entries (lengths_of t) budget).opened (mapped i p entries t budget) budget delivery ≡ Some view
  pub made_with_more :
      (more : List ℕ)
      → simulated i p (part_of entries) ((run_on p entries (lengths_of t) budget).opened ++ more) (mapped i p entries t budget) budget delivery
      ≡ Some view
