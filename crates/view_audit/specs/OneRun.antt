-- Three views that are of one run.
use Rattle.std.specs.Prelude.{◌≡◌, ℕ, List, Some}
use Rattle.proto_core.specs.declared.party.Number.{Number}
use Rattle.proto_core.specs.declared.link.Link.{Link}
use Rattle.protocol_model.specs.Network.{Accepted, Listed}
use Rattle.value_file.specs.declared.inputs.Entry.{Entry}
use Rattle.value_file.specs.declared.public.PublicEntry.{PublicEntry}
use Rattle.value_file.specs.Public.{part_of}
use Rattle.tape_file.specs.Tapes.{FourTapes}
use Rattle.program_trees.specs.TypedPrograms.{TypedProgramTree}
use Rattle.view_text.specs.View.{View}
use Rattle.view_model.specs.TapeMaps.{AreTapes}
use Rattle.program_views.specs.Inputs.{AreSound}
use Rattle.program_views.specs.Views.{lengths_of, net_of, view_of}

-- there are inputs with this public part, tapes of these lengths, and this order of deliveries is accepted, by which the miners see these views
pub record OneRun
    (p : TypedProgramTree) (part : List PublicEntry) (lengths : List ℕ) (budget : ℕ) (views : Number → View) (order : List Link) : Type 0 where
  pub entries : List Entry
  pub tapes : FourTapes
  pub sound : AreSound entries
  pub known : part_of entries ≡ part
  pub words : AreTapes tapes
  pub long : lengths_of tapes ≡ lengths
  pub accepted : net_of p entries tapes budget (Listed order) ≡ Accepted
  pub sees : (i : Number) → view_of i p entries tapes budget (Listed order) ≡ Some (views i)

abbrev pub AreOneRun : TypedProgramTree → List PublicEntry → (lengths : List ℕ) → (budget : ℕ) → (Number → View) → Type 0
AreOneRun p part lengths budget views = (order : List Link) × OneRun p part lengths budget views order
