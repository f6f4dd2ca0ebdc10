-- The files that a miner reads: the code, its share file, its own tape.
use Rattle.std.specs.Prelude.{ℕ, List, [], ◌∷◌, Result, Ok, get_or}
use Rattle.outside.specs.Files.{Contents}
use Rattle.sha2.specs.Sha256.{sha256}
use Rattle.proto_core.specs.declared.party.Number.{Number}
use Rattle.proto_core.specs.Parties.{count_of}
use Rattle.command_words.specs.Ask.{MinerAsk}
use Rattle.command_frame.specs.Answer.{Cause, ◌>>=◌, bytes_at}
use Rattle.bytecode.specs.Raw.{RawCode}
use Rattle.bytecode.specs.Decoded.{decoded}
use Rattle.input_share.specs.ShareFile.{MinerFile}
use Rattle.tape_file.specs.Format.{read_own_of}
use Rattle.program_commands.specs.Codes.{judged}
use Rattle.program_commands.specs.Reading.{bad_tape, read_or, share_at}

-- ---- code

-- verified code, and the digest of the file in which it stands
pub record GivenCode : Type 0 where
  pub digest : List ℕ
  pub code : RawCode

-- the code that bytes are, if it may run
abbrev pub code_of : (bytes : List ℕ) → Result RawCode Cause
code_of bytes = judged (decoded bytes)

unfoldable pub code_at : Contents → (path : List ℕ) → Result GivenCode Cause
code_at files path = do
  bytes ← bytes_at files path
  code ← code_of bytes
  Ok (record { digest = sha256 bytes; code = code })

-- ---- tape

-- how many words a miner's own tape has: the dealer's length comes first
abbrev pub own_length : Number → (lens : List ℕ) → ℕ
own_length me lens = get_or lens (count_of me) 0

-- a tape that is to have so many words
unfoldable pub own_tape_at : Contents → (count : ℕ) → (path : List ℕ) → Result (List ℕ) Cause
own_tape_at files count path = do
  bytes ← bytes_at files path
  read_or bad_tape (read_own_of count bytes)

-- ---- all three

pub record Given : Type 0 where
  pub code : GivenCode
  pub share : MinerFile
  pub tape : List ℕ

-- they are read in this order, each checked before the next is read
unfoldable pub given_at : MinerAsk → Contents → Result Given Cause
given_at ask files = do
  code ← code_at files ask.code
  share ← share_at files ask.me ask.share
  tape ← own_tape_at files (own_length ask.me share.lens) ask.tape
  Ok (record { code = code; share = share; tape = tape })

-- the paths that are read, and the one that is written
unfoldable pub miner_paths : MinerAsk → List (List ℕ)
miner_paths ask = ask.code ∷ ask.share ∷ ask.tape ∷ []

unfoldable pub text_paths : MinerAsk → List (List ℕ)
text_paths ask = ask.out ∷ []
