-- Tapes that give a view, and as many that give it with other inputs.
use Rattle.std.specs.Prelude.{◌≡◌, ℕ, List, [], ◌∷◌, length, Some}
use Rattle.proto_core.specs.declared.party.Number.{Number}
use Rattle.protocol_model.specs.Network.{Delivery}
use Rattle.value_file.specs.declared.inputs.Entry.{Entry}
use Rattle.tape_file.specs.Tapes.{FourTapes}
use Rattle.program_trees.specs.TypedPrograms.{TypedProgramTree}
use Rattle.view_text.specs.View.{View}
use Rattle.view_model.specs.TapeMaps.{AreTapes}
use Rattle.view_model.specs.Counting.{AreDistinct}
use Rattle.program_views.specs.Views.{lengths_of, view_of}

-- tapes of words, as long as these, which give miner i this view
pub record GivesView (i : Number) (p : TypedProgramTree) (entries : List Entry) (lengths : List ℕ) (budget : ℕ) (delivery : Delivery) (view : View)
    (t : FourTapes) : Type 0 where
  pub words : AreTapes t
  pub long : lengths_of t ≡ lengths
  pub sees : view_of i p entries t budget delivery ≡ Some view

abbrev pub AllGive :
    (i : Number) → TypedProgramTree → List Entry → (lengths : List ℕ) → (budget : ℕ) → Delivery → View → List FourTapes → Type 0
AllGive i p entries lengths budget delivery view [] = Unit {0}
AllGive i p entries lengths budget delivery view (t ∷ ts) =
    GivesView i p entries lengths budget delivery view t × AllGive i p entries lengths budget delivery view ts

-- as many distinct tapes, which give the same view with these inputs
pub record AsMany (i : Number) (p : TypedProgramTree) (second : List Entry) (lengths : List ℕ) (budget : ℕ) (delivery : Delivery) (view : View)
    (ts twins : List FourTapes) : Type 0 where
  pub count : length twins ≡ length ts
  pub distinct : AreDistinct twins
  pub give : AllGive i p second lengths budget delivery view twins
