-- What was read, without where it lies in memory.
use Rattle.std.specs.Prelude.{ℕ, List, Option}
use Rattle.tape_sources.specs.FileTapes.{words_in}
use Rattle.miner_command.specs.declared.code_file.CodeFile.{CodeFile}
use Rattle.miner_command.specs.declared.files.MinerFiles.{MinerFiles}
use Rattle.miner_command.specs.Files.{Given, GivenCode}

abbrev pub code_seen : CodeFile → GivenCode
code_seen file = record { digest = file.digest; code = file.code }

-- with this tape
abbrev pub given_with : MinerFiles → (tape : List ℕ) → Given
given_with files tape = record { code = code_seen files.code; share = files.share; tape = tape }

-- with the words in the file of its tape
abbrev pub given_seen : Option (List ℕ) → MinerFiles → Given
given_seen file files = given_with files (words_in file 8 files.tape.words)
