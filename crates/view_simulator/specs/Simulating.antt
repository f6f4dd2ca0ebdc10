-- What the simulator of a miner's view answers.
use Rattle.std.specs.Prelude.{◌≡◌, ℕ, List, length, Some, Result, Ok, Err}
use Rattle.proto_core.specs.declared.party.Number.{Number}
use Rattle.proto_core.specs.Script.{Move}
use Rattle.protocol_model.specs.Gates.{gates_script}
use Rattle.protocol_model.specs.Network as network
use Rattle.protocol_model.specs.Network.{Delivery, net}
use Rattle.gates.specs.declared.gate.Gate.{Gate}
use Rattle.value_file.specs.declared.public.PublicEntry.{PublicEntry}
use Rattle.tape_file.specs.Tapes.{FourTapes}
use Rattle.program_trees.specs.TypedPrograms.{TypedProgramTree}
use Rattle.language_model.specs.Effects.{Short}
use Rattle.language_model.specs.Reports.{Report}
use Rattle.blind_evaluation.specs.Courses.{IsEnded}
use Rattle.view_text.specs.View.{View}
use Rattle.view_model.specs.Seen.{gates_made}
use Rattle.program_views.specs.Views.{lengths_of, told_run, simulated}
use Rattle.view_simulator.specs.declared.errors.SimulateErr.{SimulateErr}
use Rattle.view_simulator.specs.declared.errors.SimulateErr.TheVariants.{OpenedShort, EmptyLink, Stalled, Memory}

-- ---- THE NET

-- the miners' moves, by gates that are made for one of them
abbrev pub scripts_made : Number → List PublicEntry → (dealer : List ℕ) → List Gate → Number → List Move
scripts_made i part dealer gates k = gates_script k (gates_made i part dealer gates)

-- what a delivery comes to, by the gates of the run of one who is told what is opened
abbrev pub net_told : Number → TypedProgramTree → List PublicEntry → (opened : List ℕ) → FourTapes → (budget : ℕ) → Delivery → network.Answer
net_told i p part opened s budget delivery = net (scripts_made i part s.dealer (told_run p part opened (lengths_of s) budget).gates) delivery

-- ---- THE ANSWER

module _ (i : Number) (p : TypedProgramTree) (part : List PublicEntry) (opened : List ℕ) (s : FourTapes) (budget : ℕ) (delivery : Delivery) where
  abbrev pub told : Report
  told = told_run p part opened (lengths_of s) budget

  -- the simulator's view, of a delivery that is accepted
  pub record IsMadeView (view : View) : Type 0 where
    pub accepted : net_told i p part opened s budget delivery ≡ network.Accepted
    pub made : simulated i p part opened s budget delivery ≡ Some view

  -- an opened value wants more words than were told in all
  pub record IsToldShort (have : ℕ) : Type 0 where
    pub short : told.stop ≡ Short
    pub all : have ≡ length opened

  -- the words that were told suffice, and the net refuses the delivery
  pub record IsRefused (answer : network.Answer) : Type 0 where
    pub ended : IsEnded told.stop
    pub refused : net_told i p part opened s budget delivery ≡ answer

  abbrev pub IsSimulation : Result View SimulateErr → Type 0
  IsSimulation (Ok view) = IsMadeView view
  IsSimulation (Err (OpenedShort have)) = IsToldShort have
  IsSimulation (Err (EmptyLink entry link sent)) = IsRefused (network.EmptyLink entry link sent)
  IsSimulation (Err (Stalled miner link)) = IsRefused (network.Stalled miner link)
  IsSimulation (Err Memory) = Unit {0}
