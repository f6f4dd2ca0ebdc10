-- The command `deal`: it splits the inputs into three share files, and a tape file into the miners' own.
use Rattle.std.specs.Prelude.{ℕ, List, [], ◌∷◌, length, nat_lt, if◌then◌else◌, Ok, Err, codes}
use Rattle.outside.specs.Files.{Contents}
use Rattle.command_frame.specs.declared.status.Status.TheVariants.{Done, Tape}
use Rattle.command_frame.specs.Answer.{Answer, Cause, Effect, Written, ◌>>=◌}
use Rattle.command_words.specs.Ask.{DealAsk}
use Rattle.input_share.specs.Dealing.{dealt, need_of}
use Rattle.input_share.specs.Written.{file_bytes}
use Rattle.proto_core.specs.declared.party.Number.{Number}
use Rattle.proto_core.specs.declared.party.Number.TheVariants.{One, Two, Three}
use Rattle.sc_text.specs.declared.fault.Fault.TheVariants.{ShortTape}
use Rattle.sc_text.specs.Fault.{fault_line}
use Rattle.tape_file.specs.Format.{own_bytes}
use Rattle.tape_file.specs.Tapes.{FourTapes}
use Rattle.value_file.specs.declared.inputs.Entry.{Entry}
use Rattle.program_run.specs.Reports.{lengths_of}
use Rattle.program_commands.specs.Paths.{file_of, path_to}
use Rattle.program_commands.specs.Reading.{inputs_at, tape_file_at}

-- the refusal of a dealer's tape that is too short
unfoldable pub short_tape : ℕ → ℕ → Cause
short_tape need have = record { status = Tape; line = fault_line (ShortTape need have) }

-- a miner's share file
abbrev pub share_of : Number → List Entry → FourTapes → List ℕ
share_of miner entries tapes = file_bytes (dealt miner entries tapes.dealer (lengths_of tapes))

-- the share files of miners 1, 2 and 3, then their tape files
abbrev pub deal_writes : List ℕ → List Entry → FourTapes → List Written
deal_writes prefix entries tapes =
    file_of prefix (codes ".1") (share_of One entries tapes)
    ∷ file_of prefix (codes ".2") (share_of Two entries tapes)
    ∷ file_of prefix (codes ".3") (share_of Three entries tapes)
    ∷ file_of prefix (codes ".t1") (own_bytes tapes.one)
    ∷ file_of prefix (codes ".t2") (own_bytes tapes.two)
    ∷ file_of prefix (codes ".t3") (own_bytes tapes.three) ∷ []

abbrev pub deal_effect : List ℕ → List Entry → FourTapes → Effect
deal_effect prefix entries tapes = record { writes = deal_writes prefix entries tapes; text = []; status = Done }

-- the dealer's tape must have words enough
abbrev pub dealing : List ℕ → List Entry → FourTapes → Answer
dealing prefix entries tapes =
    if nat_lt (length tapes.dealer) (need_of entries)
    then Err (short_tape (need_of entries) (length tapes.dealer)) else Ok (deal_effect prefix entries tapes)

-- each file is read and then checked: the input, the tape; then the dealer's tape must have words enough
unfoldable pub deal_of : DealAsk → Contents → Answer
deal_of ask files = do
  entries ← inputs_at files ask.input
  tapes ← tape_file_at files ask.tape
  dealing ask.to entries tapes

-- the six paths that `deal` writes
abbrev pub written_paths : List ℕ → List (List ℕ)
written_paths prefix =
    path_to prefix (codes ".1") ∷ path_to prefix (codes ".2") ∷ path_to prefix (codes ".3")
    ∷ path_to prefix (codes ".t1") ∷ path_to prefix (codes ".t2") ∷ path_to prefix (codes ".t3") ∷ []

-- the paths that `deal` reads
unfoldable pub deal_paths : DealAsk → List (List ℕ)
deal_paths ask = ask.input ∷ ask.tape ∷ []
