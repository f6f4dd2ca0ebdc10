-- The tapes that a run draws from: those of a file that was opened, or of a seed.
use Rattle.std.specs.Prelude.{◌≡◌, ℕ, List, [], ◌∷◌, length, true, Option, Some, None, IsSomeAnd}
use Rattle.outside.specs.Files.{Contents, FilesState, file_at}
use Rattle.command_frame.specs.declared.stop.Stop.{Stop}
use Rattle.command_frame.specs.Stops.{IsFileStop}
use Rattle.tape_file.specs.Format.{tapes_at}
use Rattle.tape_file.specs.Seeds.{seed_tapes}
use Rattle.tape_file.specs.Tapes.{FourTapes}
use Rattle.tape_sources.specs.declared.lengths.TapeLengths.{TapeLengths}
use Rattle.viewed_run.specs.CourseErr.{CourseErr}
use Rattle.viewed_run.specs.CourseErr.TheVariants as course
use Rattle.program_commands.specs.Schedules.{IsDeliveryStop}
use Rattle.miner_commands.specs.declared.tapes.OpenTapes.{OpenTapes}
use Rattle.miner_commands.specs.declared.tapes.OpenTapes.TheVariants.{File, Seed}

abbrev pub no_tapes : FourTapes
no_tapes = record { dealer = []; one = []; two = []; three = [] }

-- the four tapes of these lengths in a file, if it is there
abbrev pub tapes_in : Option (List ℕ) → TapeLengths → FourTapes
tapes_in None l = no_tapes
tapes_in (Some bytes) l = tapes_at l.dealer l.miner1 l.miner2 l.miner3 bytes

-- all words that are drawn from
abbrev pub tapes_seen : Contents → OpenTapes → FourTapes
tapes_seen files (File path lengths) = tapes_in (file_at files path.now) lengths
tapes_seen files (Seed seed) = seed_tapes seed.seed seed.words

-- the size of the file at this path was answered, and is its size, where the store tells
pub record IsOpen (files : FilesState) (path : List ℕ) (lengths : TapeLengths) : Type 0 where
  pub sized : files.sized path ≡ Some lengths.size
  pub whole : files.told ≡ true → IsSomeAnd (file_at files.contents path) (λ bytes. length bytes ≡ lengths.size)

abbrev pub AreOpen : FilesState → OpenTapes → Type 0
AreOpen files (File path lengths) = IsOpen files path.now lengths
AreOpen files (Seed seed) = Unit {0}

-- the path from which words are read
abbrev pub open_paths : OpenTapes → List (List ℕ)
open_paths (File path lengths) = path.now ∷ []
open_paths (Seed seed) = []

-- the stop of a run that gives nothing, whose tapes stand in the file at this path
abbrev pub IsCourseStop : (tape : List ℕ) → CourseErr → Stop → Type 0
IsCourseStop tape (course.Delivery e) stop = IsDeliveryStop e stop
IsCourseStop tape course.TapeFault stop = IsFileStop tape stop
