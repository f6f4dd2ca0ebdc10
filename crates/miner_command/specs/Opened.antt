-- The file of a miner's own tape, once it was opened.
use Rattle.std.specs.Prelude.{◌≡◌, ℕ, List, length, true, Some, IsSomeAnd}
use Rattle.outside.specs.Files.{FilesState}
use Rattle.tape_sources.specs.FileTapes.{file_in}
use Rattle.miner_command.specs.declared.opened_file.TapeFile.{TapeFile}

-- its size was answered, and is that of the file at this path, where the store tells
pub record IsOpen (files : FilesState) (path : List ℕ) (tape : TapeFile) : Type 0 where
  pub sized : files.sized path ≡ Some tape.size
  pub whole : files.told ≡ true → IsSomeAnd (file_in files path) (λ bytes. length bytes ≡ tape.size)
