-- What one command writes is what the next reads: `simulate` on what `map` has written, and a run on what `twin` has written.
use Rattle.std.specs.Prelude.{◌≡◌, ℕ, List, [], Some, Ok}
use Rattle.outside.specs.Files.{Contents, file_at}
use Rattle.command_frame.specs.declared.status.Status.TheVariants.{Schedule}
use Rattle.command_words.specs.Ask.{MapAsk, SimulateAsk, TwinAsk}
use Rattle.miner_commands.specs.Deliveries.{net_of}
use Rattle.miner_commands.specs.Premises.{IsMade}
use Rattle.protocol_model.specs.Network.{Accepted, Delivery}
use Rattle.program_trees.specs.TypedPrograms.{TypedProgramTree}
use Rattle.tape_file.specs.Tapes.{FourTapes}
use Rattle.value_file.specs.declared.inputs.Entry.{Entry}
use Rattle.value_file.specs.Public.{part_bytes, part_of}
use Rattle.program_views.specs.TapeMaps.{twinned}
use Rattle.program_views.specs.Views.{view_of}
use Rattle.program_commands.specs.Held.{HoldsTyped}
use Rattle.program_commands.specs.Reading.{delivery_at, tape_file_at}
use Rattle.tape_commands.specs.Map.{open_bytes, sim_bytes}
use Rattle.tape_commands.specs.Simulate.{simulate_effect}
use Rattle.tape_commands.specs.Twin.{twin_bytes}
use Rattle.run_engine.specs.Runs.{IsNotTaken}
use Rattle.run_engine.specs.SimulatePromises.{HoldsOfRun, IsOfRun, SimulateEffect, SimulateRefused}

-- the files that `simulate` reads hold what `map` has written of a run, for its miner and budget, beside the program and an order of delivery
pub record HoldsMapped
    (ask : SimulateAsk) (files : Contents) (program : TypedProgramTree) (entries : List Entry) (tapes : FourTapes) (delivery : Delivery)
    : Type 0 where
  pub program_held : HoldsTyped ask.program files program
  pub sim : file_at files ask.sim ≡ Some (sim_bytes ask.miner program entries tapes ask.budget)
  pub public : file_at files ask.public ≡ Some (part_bytes (part_of entries))
  pub opened : file_at files ask.opened ≡ Some (open_bytes program entries tapes ask.budget)
  pub order : delivery_at files ask.order ≡ Ok delivery

-- then they hold the public part, the opened words and the mapped tapes of that run, and `simulate` makes the miner's view of it
pub record SimulatesRun
    (ask : SimulateAsk) (files : Contents) (program : TypedProgramTree) (entries : List Entry) (tapes : FourTapes) (delivery : Delivery)
    : Type 0 where
  pub holds : HoldsOfRun ask program entries tapes [] delivery files
  pub view : IsOfRun ask program entries tapes [] delivery
  -- so where `run` takes the delivery, as it takes each that is made, `simulate` writes the view that `run` writes of the miner
  pub taken :
      net_of program entries tapes ask.budget delivery ≡ Accepted
      → SimulateEffect ask files (simulate_effect ask (view_of ask.miner program entries tapes ask.budget delivery))
  pub made : IsMade delivery → SimulateEffect ask files (simulate_effect ask (view_of ask.miner program entries tapes ask.budget delivery))
  -- and where `run` refuses it, so does `simulate`
  pub refused : IsNotTaken (net_of program entries tapes ask.budget delivery) → SimulateRefused ask files Schedule

-- whatever the files are when `simulate` is called, if they hold what this `map` writes
abbrev pub MappedIsSimulated : MapAsk → TypedProgramTree → List Entry → FourTapes → Type 0
MappedIsSimulated mapping program entries tapes =
    (ask : SimulateAsk) (files : Contents) (delivery : Delivery) → ask.miner ≡ mapping.miner → ask.budget ≡ mapping.budget
    → HoldsMapped ask files program entries tapes delivery → SimulatesRun ask files program entries tapes delivery

-- a file that holds what `twin` writes is read as the twin tapes
abbrev pub TwinIsReadAgain : TwinAsk → TypedProgramTree → (first second : List Entry) → FourTapes → Type 0
TwinIsReadAgain ask program first second tapes =
    (path : List ℕ) (files : Contents) → file_at files path ≡ Some (twin_bytes ask.miner program first second tapes ask.budget)
    → tape_file_at files path ≡ Ok (twinned ask.miner program first second tapes ask.budget)
