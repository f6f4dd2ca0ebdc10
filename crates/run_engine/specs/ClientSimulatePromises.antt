-- Files of which the client's view is made, what `client-simulate` then does, and files that are refused.
use Rattle.std.specs.Prelude.{◌≡◌, ◌++◌, ℕ, List, None, Some, Ok, Err}
use Rattle.outside.specs.Files.{Contents, file_at}
use Rattle.command_frame.specs.declared.status.Status.{Status}
use Rattle.command_frame.specs.declared.status.Status.TheVariants.{Input, OpenedShort, TapeFile}
use Rattle.command_frame.specs.Answer.{Effect}
use Rattle.command_words.specs.Ask.{ClientSimulateAsk}
use Rattle.sc_text.specs.declared.event.Event.{Event}
use Rattle.program_trees.specs.TypedPrograms.{TypedProgramTree}
use Rattle.tape_file.specs.Format.{read_of as tapes_read_of}
use Rattle.tape_file.specs.Tapes.{FourTapes}
use Rattle.value_file.specs.declared.inputs.Entry.{Entry}
use Rattle.value_file.specs.declared.public.PublicEntry.{PublicEntry}
use Rattle.value_file.specs.declared.read_err.ReadErr.{ReadErr}
use Rattle.value_file.specs.Public.{part_of}
use Rattle.value_file.specs.PublicFile.{read_public_of}
use Rattle.view_reader.specs.Opened.{opened_of}
use Rattle.view_reader.specs.Published.{published_in}
use Rattle.language_model.specs.Effects.{Short}
use Rattle.blind_evaluation.specs.Courses.{IsEnded}
use Rattle.program_views.specs.Views.{lengths_of, run_on}
use Rattle.client_view.specs.Views.{published_of, told_events, client_view_of}
use Rattle.client_view.specs.TapeMaps.{client_mapped}
use Rattle.program_commands.specs.Reading.{opened_at, public_at, published_at, tape_file_at}
use Rattle.program_commands.specs.Held.{HoldsTyped, ProgramRefused}
use Rattle.client_commands.specs.Simulate.{run_told, client_view_simulated, client_simulate_effect}

-- the files that `client-simulate` reads are there: a program of this typed tree, this public part, these opened words, these words of what is
-- handed over, and these tapes
pub record HoldsClientSimulation
    (ask : ClientSimulateAsk) (files : Contents) (typed : TypedProgramTree) (part : List PublicEntry) (told handed : List ℕ) (given : FourTapes)
    : Type 0 where
  pub program : HoldsTyped ask.program files typed
  pub public : public_at files ask.public ≡ Ok part
  pub opened : opened_at files ask.opened ≡ Ok told
  pub published : published_at files ask.published ≡ Ok handed
  pub tapes : tape_file_at files ask.sim ≡ Ok given

module _ (ask : ClientSimulateAsk) (program : TypedProgramTree) (part : List PublicEntry) (opened published : List ℕ) (tapes : FourTapes) where
  -- the words of what is handed over are too few for the run that is told what is opened, as far as it comes
  abbrev pub HandsTooMuch : Type 0
  HandsTooMuch = told_events (run_told ask program part opened tapes).events published ≡ None

  -- the words suffice for a run that is told them, of both kinds
  pub record IsClientSimulated : Type 0 where
    pub suffice : IsEnded (run_told ask program part opened tapes).stop
    pub events : List Event
    pub told : told_events (run_told ask program part opened tapes).events published ≡ Some events

  -- an opened value wants more words than are told, and what is handed over before does not
  pub record OpensTooMuch : Type 0 where
    pub short : (run_told ask program part opened tapes).stop ≡ Short
    pub events : List Event
    pub told : told_events (run_told ask program part opened tapes).events published ≡ Some events

-- over such files: the simulator's view
abbrev pub ClientSimulateEffect : ClientSimulateAsk → Contents → Effect → Type 0
ClientSimulateEffect ask files effect =
    (program : TypedProgramTree) × (part : List PublicEntry) × (opened : List ℕ) × (published : List ℕ) × (tapes : FourTapes)
    × HoldsClientSimulation ask files program part opened published tapes × IsClientSimulated ask program part opened published tapes
    × (effect ≡ client_simulate_effect ask (client_view_simulated ask program part opened tapes published))

-- why `client-simulate` is refused with this status: the first file that is there and not as it must be, or words that don't suffice
pub data ClientSimulateRefused (ask : ClientSimulateAsk) (files : Contents) (status : Status) : Type 0 where
  for_program : ProgramRefused ask.program files status → ClientSimulateRefused ask files status
  for_public : status ≡ Input → (program : TypedProgramTree) → HoldsTyped ask.program files program
      → (bytes : List ℕ) (err : ReadErr) → file_at files ask.public ≡ Some bytes → read_public_of bytes ≡ Err err → ClientSimulateRefused ask files status
  for_opened : status ≡ Input → (program : TypedProgramTree) → HoldsTyped ask.program files program
      → (part : List PublicEntry) → public_at files ask.public ≡ Ok part
      → (bytes : List ℕ) (line : ℕ) → file_at files ask.opened ≡ Some bytes → opened_of bytes ≡ Err line → ClientSimulateRefused ask files status
  for_published : status ≡ Input → (program : TypedProgramTree) → HoldsTyped ask.program files program
      → (part : List PublicEntry) → public_at files ask.public ≡ Ok part → (opened : List ℕ) → opened_at files ask.opened ≡ Ok opened
      → (bytes : List ℕ) (line : ℕ) → file_at files ask.published ≡ Some bytes → published_in bytes ≡ Err line → ClientSimulateRefused ask files status
  for_tape : status ≡ TapeFile → (program : TypedProgramTree) → HoldsTyped ask.program files program
      → (part : List PublicEntry) → public_at files ask.public ≡ Ok part → (opened : List ℕ) → opened_at files ask.opened ≡ Ok opened
      → (published : List ℕ) → published_at files ask.published ≡ Ok published
      → (bytes : List ℕ) (place : ℕ) → file_at files ask.sim ≡ Some bytes → tapes_read_of bytes ≡ Err place → ClientSimulateRefused ask files status
  handed_too_little : status ≡ OpenedShort
      → (program : TypedProgramTree) (part : List PublicEntry) (opened published : List ℕ) (tapes : FourTapes)
      → HoldsClientSimulation ask files program part opened published tapes → HandsTooMuch ask program part opened published tapes
      → ClientSimulateRefused ask files status
  told_too_little : status ≡ OpenedShort
      → (program : TypedProgramTree) (part : List PublicEntry) (opened published : List ℕ) (tapes : FourTapes)
      → HoldsClientSimulation ask files program part opened published tapes → OpensTooMuch ask program part opened published tapes
      → ClientSimulateRefused ask files status

-- ---- THE SIMULATOR IS TOLD OF A RUN

module _ (ask : ClientSimulateAsk) (program : TypedProgramTree) (entries : List Entry) (tapes : FourTapes) (more also : List ℕ) where
  -- the words that a run of the program opens, and those of what it hands over, with more after them
  abbrev pub opened_and : List ℕ
  opened_and = (run_on program entries (lengths_of tapes) ask.budget).opened ++ more

  abbrev pub published_and : List ℕ
  published_and = published_of (run_on program entries (lengths_of tapes) ask.budget).events ++ also

  -- the tapes that `client-map` makes of the run's
  abbrev pub tapes_mapped : FourTapes
  tapes_mapped = client_mapped program entries tapes ask.budget

  -- the files hold no more of a run on these inputs and tapes than its public part, its opened words, what it hands over, and the tapes mapped
  abbrev pub HoldsOfClientRun : Contents → Type 0
  HoldsOfClientRun files = HoldsClientSimulation ask files program (part_of entries) opened_and published_and tapes_mapped

  -- the words suffice, and the view is the one that the client has of the run
  pub record IsOfClientRun : Type 0 where
    pub suffice : IsClientSimulated ask program (part_of entries) opened_and published_and tapes_mapped
    pub view :
        client_view_simulated ask program (part_of entries) opened_and tapes_mapped published_and ≡ client_view_of program entries tapes ask.budget
