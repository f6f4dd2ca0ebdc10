-- What is promised of the client's view of a program's run.
use Rattle.std.specs.Prelude.{◌≡◌, ℕ, List, [], ◌∷◌, ◌++◌, length, map, Some}
use Rattle.program_trees.specs.Programs.{ProgramTree}
use Rattle.program_trees.specs.TypedPrograms.{TypedProgramTree}
use Rattle.reached_instances.specs.Instances.{Instance}
use Rattle.value_file.specs.declared.inputs.Entry.{Entry}
use Rattle.value_file.specs.Public.{part_of}
use Rattle.tape_file.specs.Tapes.{FourTapes}
use Rattle.view_model.specs.TapeMaps.{AreTapes}
use Rattle.view_model.specs.Counting.{AreDistinct}
use Rattle.program_views.specs.Views.{lengths_of, run_on}
use Rattle.program_views.specs.Laws.{IsGivenTo}
use Rattle.client_view.specs.Views.{ClientView, client_view_of, client_simulated, published_of}
use Rattle.client_view.specs.TapeMaps.{client_mapped, ClientMapsCorrespond, client_twinned, AreAlikeToClient, IsClientTwin}

-- ---- VIEWS

-- there is one; and the simulator makes it of the public part of the inputs, the words that were opened and those of what was handed over, both
-- also with more after them, and the mapped tapes
pub record ClientViewIsSimulated (p : TypedProgramTree) (entries : List Entry) (t : FourTapes) (budget : ℕ) : Type 0 where
  pub view : ClientView
  pub seen : client_view_of p entries t budget ≡ Some view
  pub made :
      (words more : List ℕ)
      → client_simulated p (part_of entries) ((run_on p entries (lengths_of t) budget).opened ++ words)
      (published_of (run_on p entries (lengths_of t) budget).events ++ more) (client_mapped p entries t budget) budget
      ≡ Some view

abbrev pub ClientViewsAreSimulated : (source : ProgramTree) (p : TypedProgramTree) → List Entry → FourTapes → (budget : ℕ) → Type 0
ClientViewsAreSimulated source p entries t budget =
    (is : List Instance) → IsGivenTo source p is entries → AreTapes t → ClientViewIsSimulated p entries t budget

-- ---- TAPES

abbrev pub ClientTapesCorrespond : (source : ProgramTree) (p : TypedProgramTree) → List Entry → FourTapes → (budget : ℕ) → Type 0
ClientTapesCorrespond source p entries t budget =
    (is : List Instance) → IsGivenTo source p is entries → AreTapes t → ClientMapsCorrespond p entries t budget

-- ---- TWINS

-- a program and two inputs, both accepted, which are alike to the client on tapes as long as these
pub record AreBothGivenTo
    (source : ProgramTree) (p : TypedProgramTree) (is : List Instance) (first second : List Entry) (lengths : List ℕ) (budget : ℕ) : Type 0 where
  pub one : IsGivenTo source p is first
  pub other : IsGivenTo source p is second
  pub alike : AreAlikeToClient p first second lengths budget

abbrev pub ClientTwinsSeeTheSame : (source : ProgramTree) (p : TypedProgramTree) → (first second : List Entry) → FourTapes → (budget : ℕ) → Type 0
ClientTwinsSeeTheSame source p first second t budget =
    (is : List Instance) → AreBothGivenTo source p is first second (lengths_of t) budget → AreTapes t
    → IsClientTwin p first second t (client_twinned p first second t budget) budget

-- ---- AS MANY

-- tapes of words, as long as these, which give the client this view
pub record GivesView (p : TypedProgramTree) (entries : List Entry) (lengths : List ℕ) (budget : ℕ) (view : ClientView) (t : FourTapes) : Type 0 where
  pub words : AreTapes t
  pub long : lengths_of t ≡ lengths
  pub sees : client_view_of p entries t budget ≡ Some view

abbrev pub AllGive : TypedProgramTree → List Entry → (lengths : List ℕ) → (budget : ℕ) → ClientView → List FourTapes → Type 0
AllGive p entries lengths budget view [] = Unit {0}
AllGive p entries lengths budget view (t ∷ ts) = GivesView p entries lengths budget view t × AllGive p entries lengths budget view ts

-- as many distinct tapes, which give the same view with these inputs
pub record AsMany (p : TypedProgramTree) (second : List Entry) (lengths : List ℕ) (budget : ℕ) (view : ClientView) (ts twins : List FourTapes) : Type 0 where
  pub count : length twins ≡ length ts
  pub distinct : AreDistinct twins
  pub give : AllGive p second lengths budget view twins

abbrev pub ClientTwinsAreAsMany :
    (source : ProgramTree) (p : TypedProgramTree) → (first second : List Entry) → (lengths : List ℕ) → (budget : ℕ) → ClientView
    → List FourTapes → Type 0
ClientTwinsAreAsMany source p first second lengths budget view ts =
    (is : List Instance) → AreBothGivenTo source p is first second lengths budget → AllGive p first lengths budget view ts
    → AreDistinct ts → AsMany p second lengths budget view ts (map (λ t. client_twinned p first second t budget) ts)
