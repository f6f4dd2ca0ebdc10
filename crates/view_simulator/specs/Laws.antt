-- What is promised of the simulator.
use Rattle.std.specs.Prelude.{◌≡◌, ℕ, List, ◌++◌, All, Option, Some, Result, Ok, Err}
use Rattle.program_trees.specs.Programs.{ProgramTree}
use Rattle.program_trees.specs.TypedPrograms.{TypedProgramTree}
use Rattle.reached_instances.specs.Instances.{Instance}
use Rattle.proto_core.specs.declared.party.Number.{Number}
use Rattle.proto_core.specs.Lists.{AreWords}
use Rattle.protocol_model.specs.Network as network
use Rattle.protocol_model.specs.Network.{Delivery}
use Rattle.value_file.specs.declared.inputs.Entry.{Entry}
use Rattle.value_file.specs.declared.public.PublicEntry.{PublicEntry}
use Rattle.value_file.specs.Public.{part_of}
use Rattle.value_file.specs.PublicFile.{IsWritable}
use Rattle.tape_file.specs.Tapes.{FourTapes}
use Rattle.view_text.specs.View.{View}
use Rattle.view_model.specs.TapeMaps.{AreTapes}
use Rattle.code_inputs.specs.Laws.{IsAccepted}
use Rattle.program_views.specs.Views.{lengths_of, run_on, told_run, view_of, net_of}
use Rattle.program_views.specs.TapeMaps.{mapped}
use Rattle.program_views.specs.Laws.{IsGivenTo}
use Rattle.view_simulator.specs.declared.errors.SimulateErr.{SimulateErr}
use Rattle.view_simulator.specs.declared.errors.SimulateErr.TheVariants.{OpenedShort, EmptyLink, Stalled, Memory}
use Rattle.view_simulator.specs.Making.{IsOfWords, CanBeMade}
use Rattle.view_simulator.specs.Simulating.{net_told, IsSimulation}

-- ---- GATES

-- a public part that may stand in a file, and told words and tapes, all of words
pub record IsTold (part : List PublicEntry) (opened : List ℕ) (s : FourTapes) : Type 0 where
  pub form : IsWritable part
  pub known : All IsOfWords part
  pub opened_words : AreWords opened
  pub tapes : AreTapes s

abbrev pub ToldRunsCanBeMade :
    (source : ProgramTree) (p : TypedProgramTree) → List PublicEntry → (opened : List ℕ) → FourTapes → (budget : ℕ) → Type 0
ToldRunsCanBeMade source p part opened s budget =
    (is : List Instance) → IsAccepted source p is → IsTold part opened s → CanBeMade part (told_run p part opened (lengths_of s) budget).gates s

-- ---- RUNS

-- this view, in a net that accepts the delivery; or the refusal of the net
abbrev pub IsViewOrRefusal : Option View → network.Answer → Result View SimulateErr → Type 0
IsViewOrRefusal seen answer (Ok view) = (seen ≡ Some view) × (answer ≡ network.Accepted)
IsViewOrRefusal seen answer (Err (OpenedShort have)) = ⊥
IsViewOrRefusal seen answer (Err (EmptyLink entry link sent)) = answer ≡ network.EmptyLink entry link sent
IsViewOrRefusal seen answer (Err (Stalled miner link)) = answer ≡ network.Stalled miner link
IsViewOrRefusal seen answer (Err Memory) = Unit {0}

module _ (i : Number) (source : ProgramTree) (p : TypedProgramTree) (entries : List Entry) (t : FourTapes) (budget : ℕ) (delivery : Delivery) where
  -- the words that the run opens, with more after them
  abbrev pub opened_and : (more : List ℕ) → List ℕ
  opened_and more = (run_on p entries (lengths_of t) budget).opened ++ more

  abbrev pub NetsAreSimulated : Type 0
  NetsAreSimulated =
      (is : List Instance) → IsGivenTo source p is entries → AreTapes t → (more : List ℕ)
      → net_told i p (part_of entries) (opened_and more) (mapped i p entries t budget) budget delivery ≡ net_of p entries t budget delivery

  abbrev pub RunsAreSimulated : Type 0
  RunsAreSimulated =
      (is : List Instance) → IsGivenTo source p is entries → AreTapes t → (more : List ℕ) (result : Result View SimulateErr)
      → IsSimulation i p (part_of entries) (opened_and more) (mapped i p entries t budget) budget delivery result
      → IsViewOrRefusal (view_of i p entries t budget delivery) (net_of p entries t budget delivery) result
