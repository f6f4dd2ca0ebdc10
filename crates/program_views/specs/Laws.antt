-- What is promised of the views of a program's run.
use Rattle.std.specs.Prelude.{◌≡◌, ℕ, List, map}
use Rattle.program_trees.specs.Programs.{ProgramTree}
use Rattle.program_trees.specs.TypedPrograms.{TypedProgramTree}
use Rattle.reached_instances.specs.Instances.{Instance}
use Rattle.proto_core.specs.declared.party.Number.{Number}
use Rattle.proto_core.specs.Net.{nothing}
use Rattle.protocol_model.specs.Network.{Accepted, Default, Delivery, Shuffled, order_of, walked}
use Rattle.protocol_model.specs.Arrivals.{arrived}
use Rattle.protocol_model.specs.Runs.{nodes_of}
use Rattle.value_file.specs.declared.inputs.Entry.{Entry}
use Rattle.tape_file.specs.Tapes.{FourTapes}
use Rattle.language_model.specs.Reports.{Report}
use Rattle.view_text.specs.View.{View}
use Rattle.view_model.specs.TapeMaps.{miners_of, no_values, gates_dealt, AreTapes}
use Rattle.view_model.specs.Counting.{AreDistinct}
use Rattle.code_inputs.specs.Inputs.{AreSound}
use Rattle.code_inputs.specs.Laws.{IsAccepted}
use Rattle.program_views.specs.Views.{lengths_of, run_on, seen_of, scripts_of, net_of}
use Rattle.program_views.specs.TapeMaps.{MapsCorrespond, twinned, AreAlike, IsTwin}
use Rattle.program_views.specs.Counting.{AllGive, AsMany}
use Rattle.program_views.specs.Simulated.{ViewIsSimulated}

-- an accepted program, and inputs that may stand in a file
pub record IsGivenTo (source : ProgramTree) (p : TypedProgramTree) (is : List Instance) (entries : List Entry) : Type 0 where
  pub program : IsAccepted source p is
  pub inputs : AreSound entries

-- ---- VIEWS

abbrev pub ViewsAreSimulated : Number → (source : ProgramTree) (p : TypedProgramTree) → List Entry → FourTapes → (budget : ℕ) → Delivery → Type 0
ViewsAreSimulated i source p entries t budget delivery =
    (is : List Instance) → IsGivenTo source p is entries → AreTapes t → ViewIsSimulated i p entries t budget delivery

-- ---- TAPES

abbrev pub TapesCorrespond : Number → (source : ProgramTree) (p : TypedProgramTree) → List Entry → FourTapes → (budget : ℕ) → Type 0
TapesCorrespond i source p entries t budget =
    (is : List Instance) → IsGivenTo source p is entries → AreTapes t → MapsCorrespond i p entries t budget

-- ---- THE NET

module _ (p : TypedProgramTree) (entries : List Entry) (t : FourTapes) (budget : ℕ) where
  -- the report of the run in the clear, and three miners that run its gates with these tapes
  abbrev pub report : Report
  report = run_on p entries (lengths_of t) budget

  -- what a delivery comes to is said by the miners' moves alone, in the net of three miners with these tapes; that which takes
  -- always the first link, and each that words choose, is accepted; and what comes to a miner is what its view says
  pub record NetIsCounted : Type 0 where
    pub counted :
        (delivery : Delivery)
        → walked (nodes_of (gates_dealt entries t.dealer report.gates) no_values (miners_of t)) 0 nothing
        (order_of (scripts_of entries t report) delivery)
        ≡ net_of p entries t budget delivery
    pub in_order : net_of p entries t budget Default ≡ Accepted
    pub shuffled : (words : ℕ → ℕ) → net_of p entries t budget (Shuffled words) ≡ Accepted
    pub comes :
        (i : Number) (delivery : Delivery) → net_of p entries t budget delivery ≡ Accepted
        → arrived (nodes_of (gates_dealt entries t.dealer report.gates) no_values (miners_of t)) i nothing
        (order_of (scripts_of entries t report) delivery)
        ≡ (seen_of i entries t delivery report).got

abbrev pub NetsAreCounted : (source : ProgramTree) (p : TypedProgramTree) → List Entry → FourTapes → (budget : ℕ) → Type 0
NetsAreCounted source p entries t budget =
    (is : List Instance) → IsGivenTo source p is entries → AreTapes t → NetIsCounted p entries t budget

-- whatever the program and the words of the tapes
abbrev pub NetsAreAlike : TypedProgramTree → (first second : List Entry) → (t t2 : FourTapes) → (budget : ℕ) → Delivery → Type 0
NetsAreAlike p first second t t2 budget delivery =
    lengths_of t2 ≡ lengths_of t → AreAlike p first second (lengths_of t) budget
    → net_of p second t2 budget delivery ≡ net_of p first t budget delivery

-- ---- TWINS

-- a program and two inputs, both accepted, which are alike on tapes as long as these
pub record AreBothGivenTo
    (source : ProgramTree) (p : TypedProgramTree) (is : List Instance) (first second : List Entry) (lengths : List ℕ) (budget : ℕ) : Type 0 where
  pub one : IsGivenTo source p is first
  pub other : IsGivenTo source p is second
  pub alike : AreAlike p first second lengths budget

abbrev pub TwinsSeeTheSame : Number → (source : ProgramTree) (p : TypedProgramTree) → (first second : List Entry) → FourTapes → (budget : ℕ) → Type 0
TwinsSeeTheSame i source p first second t budget =
    (is : List Instance) → AreBothGivenTo source p is first second (lengths_of t) budget → AreTapes t
    → IsTwin i p first second t (twinned i p first second t budget) budget

abbrev pub TwinsAreAsMany :
    Number → (source : ProgramTree) (p : TypedProgramTree) → (first second : List Entry) → (lengths : List ℕ) → (budget : ℕ) → Delivery → View
    → List FourTapes → Type 0
TwinsAreAsMany i source p first second lengths budget delivery view ts =
    (is : List Instance) → AreBothGivenTo source p is first second lengths budget → AllGive i p first lengths budget delivery view ts
    → AreDistinct ts → AsMany i p second lengths budget delivery view ts (map (λ t. twinned i p first second t budget) ts)
