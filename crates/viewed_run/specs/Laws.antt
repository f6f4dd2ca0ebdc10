-- The net in which views are seen, and the net of the run.
use Rattle.std.specs.Prelude.{◌≡◌, ℕ, List}
use Rattle.protocol_model.specs.Network.{Delivery, order_of}
use Rattle.tape_file.specs.Tapes.{FourTapes}
use Rattle.program_trees.specs.TypedPrograms.{TypedProgramTree}
use Rattle.value_file.specs.declared.inputs.Entry.{Entry}
use Rattle.program_views.specs.Views as views
use Rattle.program_views.specs.Views.{lengths_of, run_on, scripts_of}
use Rattle.delivered_run.specs.Deliveries.{delivered_of, net_of}

pub record NetsAgree (p : TypedProgramTree) (entries : List Entry) (t : FourTapes) (budget : ℕ) (delivery : Delivery) : Type 0 where
  pub answers : views.net_of p entries t budget delivery ≡ net_of p entries t budget delivery
  pub orders : order_of (scripts_of entries t (run_on p entries (lengths_of t) budget)) delivery ≡ delivered_of p entries t budget delivery
