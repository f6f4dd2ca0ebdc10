-- One net: that of the run, in which views are seen, is the simulator's, and its deliveries are the order of a view's messages.
use Rattle.std.specs.Prelude.{◌≡◌, ℕ, List, ◌++◌, map, Some, filter}
use Rattle.proto_core.specs.declared.party.Number.{Number}
use Rattle.proto_core.specs.declared.link.Link.{Link}
use Rattle.proto_core.specs.Parties.{receiver_of, is_same}
use Rattle.protocol_model.specs.Network.{Accepted, Delivery}
use Rattle.value_file.specs.declared.inputs.Entry.{Entry}
use Rattle.value_file.specs.Public.{part_of}
use Rattle.tape_file.specs.Tapes.{FourTapes}
use Rattle.program_trees.specs.TypedPrograms.{TypedProgramTree}
use Rattle.view_text.specs.View.{View}
use Rattle.program_run.specs.Accepted.{IsAccepted}
use Rattle.program_views.specs.Views.{lengths_of, run_on, view_of}
use Rattle.program_views.specs.TapeMaps.{mapped}
use Rattle.view_simulator.specs.Simulating.{net_told}
use Rattle.viewed_run.specs.Premises.{HaveWords}
use Rattle.viewed_run.specs.Deliveries.{net_of, delivered_of}

-- those that lead to a miner, in their order
abbrev pub links_to : Number → List Link → List Link
links_to i links = filter (λ link. is_same (receiver_of link) i) links

-- what a delivery comes to in the run, and the links that it delivers, are the same in the simulator's net and in a view
pub record IsOneNet (i : Number) (p : TypedProgramTree) (entries : List Entry) (t : FourTapes) (budget : ℕ) (delivery : Delivery) : Type 0 where
  -- the simulator, told the public part, what the run opens, also with more words after it, and the mapped tapes, takes or refuses the delivery
  -- as the run does, with the same entry, link and miner
  pub simulator :
      (more : List ℕ)
      → net_told i p (part_of entries) ((run_on p entries (lengths_of t) budget).opened ++ more) (mapped i p entries t budget) budget delivery
      ≡ net_of p entries t budget delivery
  -- where the run takes it, the messages of the miner's view came on the delivered links that lead to it, in their order
  pub order :
      net_of p entries t budget delivery ≡ Accepted → (view : View) → view_of i p entries t budget delivery ≡ Some view
      → map (λ received. received.link) view.got ≡ links_to i (delivered_of p entries t budget delivery)

abbrev pub HaveOneNet : Number → TypedProgramTree → List Entry → FourTapes → (budget : ℕ) → Delivery → Type 0
HaveOneNet i p entries t budget delivery = IsAccepted p → HaveWords entries t → IsOneNet i p entries t budget delivery
