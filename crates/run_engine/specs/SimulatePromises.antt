-- Files of which a view is made, what `simulate` then does, and files that are refused.
use Rattle.std.specs.Prelude.{◌≡◌, ◌++◌, ℕ, List, Some, Ok, Err}
use Rattle.outside.specs.Files.{Contents, file_at}
use Rattle.command_frame.specs.declared.status.Status.{Status}
use Rattle.command_frame.specs.declared.status.Status.TheVariants.{Input, OpenedShort, Schedule, TapeFile}
use Rattle.command_frame.specs.Answer.{Effect}
use Rattle.command_words.specs.Ask.{SimulateAsk, scheduled}
use Rattle.protocol_model.specs.Network.{Accepted, Delivery}
use Rattle.schedule_file.specs.Reading.{links_of}
use Rattle.program_trees.specs.TypedPrograms.{TypedProgramTree}
use Rattle.tape_file.specs.Format.{read_of as tapes_read_of}
use Rattle.tape_file.specs.Tapes.{FourTapes}
use Rattle.value_file.specs.declared.inputs.Entry.{Entry}
use Rattle.value_file.specs.declared.public.PublicEntry.{PublicEntry}
use Rattle.value_file.specs.declared.read_err.ReadErr.{ReadErr}
use Rattle.value_file.specs.Public.{part_of}
use Rattle.value_file.specs.PublicFile.{read_public_of}
use Rattle.view_reader.specs.Opened.{opened_of}
use Rattle.language_model.specs.Effects.{Short}
use Rattle.blind_evaluation.specs.Courses.{IsEnded}
use Rattle.program_views.specs.TapeMaps.{mapped}
use Rattle.program_views.specs.Views.{lengths_of, run_on, view_of}
use Rattle.miner_commands.specs.Deliveries.{net_of}
use Rattle.program_commands.specs.Reading.{delivery_at, opened_at, public_at, tape_file_at}
use Rattle.program_commands.specs.Held.{HoldsTyped, ProgramRefused}
use Rattle.run_engine.specs.Runs.{IsNotTaken}
use Rattle.tape_commands.specs.Simulate.{net_simulated, simulate_effect, stop_told, view_simulated}

-- the files that `simulate` reads are there: a program of this typed tree, this public part, these opened words, these tapes and this order
-- of delivery
pub record HoldsSimulation
    (ask : SimulateAsk) (files : Contents) (typed : TypedProgramTree) (part : List PublicEntry) (told : List ℕ) (given : FourTapes)
    (delivery : Delivery) : Type 0 where
  pub program : HoldsTyped ask.program files typed
  pub public : public_at files ask.public ≡ Ok part
  pub opened : opened_at files ask.opened ≡ Ok told
  pub tapes : tape_file_at files ask.sim ≡ Ok given
  pub order : delivery_at files ask.order ≡ Ok delivery

-- the words suffice for a run that is told them, and its net takes the delivery
pub record IsSimulated
    (ask : SimulateAsk) (program : TypedProgramTree) (part : List PublicEntry) (opened : List ℕ) (tapes : FourTapes) (delivery : Delivery)
    : Type 0 where
  pub suffice : IsEnded (stop_told ask program part opened tapes)
  pub taken : net_simulated ask program part opened tapes delivery ≡ Accepted

-- over such files: the simulator's view
abbrev pub SimulateEffect : SimulateAsk → Contents → Effect → Type 0
SimulateEffect ask files effect =
    (program : TypedProgramTree) × (part : List PublicEntry) × (opened : List ℕ) × (tapes : FourTapes) × (delivery : Delivery)
    × HoldsSimulation ask files program part opened tapes delivery × IsSimulated ask program part opened tapes delivery
    × (effect ≡ simulate_effect ask (view_simulated ask program part opened tapes delivery))

-- why `simulate` is refused with this status: the first file that is there and not as it must be, opened words that don't suffice, or else a
-- schedule that can't be followed to the end
pub data SimulateRefused (ask : SimulateAsk) (files : Contents) (status : Status) : Type 0 where
  for_program : ProgramRefused ask.program files status → SimulateRefused ask files status
  for_public : status ≡ Input → (program : TypedProgramTree) → HoldsTyped ask.program files program
      → (bytes : List ℕ) (err : ReadErr) → file_at files ask.public ≡ Some bytes → read_public_of bytes ≡ Err err → SimulateRefused ask files status
  for_opened : status ≡ Input → (program : TypedProgramTree) → HoldsTyped ask.program files program
      → (part : List PublicEntry) → public_at files ask.public ≡ Ok part
      → (bytes : List ℕ) (line : ℕ) → file_at files ask.opened ≡ Some bytes → opened_of bytes ≡ Err line → SimulateRefused ask files status
  for_tape : status ≡ TapeFile → (program : TypedProgramTree) → HoldsTyped ask.program files program
      → (part : List PublicEntry) → public_at files ask.public ≡ Ok part → (opened : List ℕ) → opened_at files ask.opened ≡ Ok opened
      → (bytes : List ℕ) (place : ℕ) → file_at files ask.sim ≡ Some bytes → tapes_read_of bytes ≡ Err place → SimulateRefused ask files status
  for_schedule : status ≡ Schedule → (program : TypedProgramTree) → HoldsTyped ask.program files program
      → (part : List PublicEntry) → public_at files ask.public ≡ Ok part → (opened : List ℕ) → opened_at files ask.opened ≡ Ok opened
      → (tapes : FourTapes) → tape_file_at files ask.sim ≡ Ok tapes
      → (path bytes : List ℕ) (line : ℕ) → ask.order ≡ scheduled path → file_at files path ≡ Some bytes → links_of bytes ≡ Err line
      → SimulateRefused ask files status
  told_too_little : status ≡ OpenedShort
      → (program : TypedProgramTree) (part : List PublicEntry) (opened : List ℕ) (tapes : FourTapes) (delivery : Delivery)
      → HoldsSimulation ask files program part opened tapes delivery → stop_told ask program part opened tapes ≡ Short
      → SimulateRefused ask files status
  net_refuses : status ≡ Schedule
      → (program : TypedProgramTree) (part : List PublicEntry) (opened : List ℕ) (tapes : FourTapes) (delivery : Delivery)
      → HoldsSimulation ask files program part opened tapes delivery → IsEnded (stop_told ask program part opened tapes)
      → IsNotTaken (net_simulated ask program part opened tapes delivery) → SimulateRefused ask files status

-- ---- THE SIMULATOR IS TOLD OF A RUN

-- the words that a run of the program opens, with more after them
abbrev pub opened_and : SimulateAsk → TypedProgramTree → List Entry → FourTapes → (more : List ℕ) → List ℕ
opened_and ask program entries tapes more = (run_on program entries (lengths_of tapes) ask.budget).opened ++ more

-- the tapes that `map` makes of the run's
abbrev pub tapes_mapped : SimulateAsk → TypedProgramTree → List Entry → FourTapes → FourTapes
tapes_mapped ask program entries tapes = mapped ask.miner program entries tapes ask.budget

module _ (ask : SimulateAsk) (program : TypedProgramTree) (entries : List Entry) (tapes : FourTapes) (more : List ℕ) (delivery : Delivery) where
  -- the files hold no more of a run on these inputs and tapes than its public part, its opened words and the tapes mapped
  abbrev pub HoldsOfRun : Contents → Type 0
  HoldsOfRun files =
      HoldsSimulation ask files program (part_of entries) (opened_and ask program entries tapes more) (tapes_mapped ask program entries tapes) delivery

  -- the words suffice, the delivery comes to what it comes to in the run of `run`, and the view is the one that the miner has of the run
  pub record IsOfRun : Type 0 where
    pub suffice : IsEnded (stop_told ask program (part_of entries) (opened_and ask program entries tapes more) (tapes_mapped ask program entries tapes))
    pub net :
        net_simulated ask program (part_of entries) (opened_and ask program entries tapes more) (tapes_mapped ask program entries tapes) delivery
        ≡ net_of program entries tapes ask.budget delivery
    pub view :
        view_simulated ask program (part_of entries) (opened_and ask program entries tapes more) (tapes_mapped ask program entries tapes) delivery
        ≡ view_of ask.miner program entries tapes ask.budget delivery
