-- Input, public, opened, tape and schedule files at their paths, as commands read them.
use Rattle.std.specs.Prelude.{ℕ, List, [], ◌∷◌, Option, Some, None, Result, Ok, Err}
use Rattle.outside.specs.Files.{Contents}
use Rattle.command_frame.specs.declared.status.Status.TheVariants.{Input, Schedule, TapeFile}
use Rattle.command_frame.specs.Answer.{Cause, ◌>>=◌, bytes_at}
use Rattle.command_words.specs.Ask.{Order, Source, file, in_turn, scheduled, seeded, shuffled}
use Rattle.input_share.specs.Reading.{read_share_of}
use Rattle.input_share.specs.ShareFile.{MinerFile}
use Rattle.proto_core.specs.Parties.{count_of as number_of}
use Rattle.proto_core.specs.declared.link.Link.{Link}
use Rattle.proto_core.specs.declared.party.Number.{Number}
use Rattle.protocol_model.specs.Network.{Delivery, Default, Listed, Shuffled}
use Rattle.schedule_file.specs.Reading.{links_of}
use Rattle.sc_text.specs.declared.fault.Fault.{Fault}
use Rattle.sc_text.specs.declared.fault.Fault.TheVariants as faults
use Rattle.sc_text.specs.declared.input_fault.EntryField.{EntryField}
use Rattle.sc_text.specs.declared.input_fault.EntryField.TheVariants as entry_fields
use Rattle.sc_text.specs.declared.input_fault.InputFault.{InputFault}
use Rattle.sc_text.specs.declared.input_fault.InputFault.TheVariants as input_faults
use Rattle.sc_text.specs.Fault.{fault_line}
use Rattle.tape_file.specs.Format.{read_of as tapes_read_of}
use Rattle.tape_file.specs.Seeds.{seed_tapes, stream_word}
use Rattle.tape_file.specs.Tapes.{FourTapes}
use Rattle.value_file.specs.declared.inputs.Entry.{Entry}
use Rattle.value_file.specs.declared.public.PublicEntry.{PublicEntry}
use Rattle.value_file.specs.declared.read_err.Field.{Field}
use Rattle.value_file.specs.declared.read_err.Field.TheVariants as fields
use Rattle.value_file.specs.declared.read_err.ReadErr.{ReadErr}
use Rattle.value_file.specs.declared.read_err.ReadErr.TheVariants as read_errs
use Rattle.value_file.specs.Input.{read_of as inputs_read_of}
use Rattle.value_file.specs.PublicFile.{read_public_of}
use Rattle.view_reader.specs.Opened.{opened_of}
use Rattle.view_reader.specs.Published.{published_in}

-- the refusal of a tape file, by the place of its first fault
unfoldable pub bad_tape : ℕ → Cause
bad_tape place = record { status = TapeFile; line = fault_line (faults.BadTape place) }

-- a field of an entry; those at top are none
abbrev pub entry_field : Field → Option EntryField
entry_field fields.Name = Some entry_fields.Name
entry_field fields.Domain = Some entry_fields.Domain
entry_field fields.Type = Some entry_fields.Type
entry_field fields.Value = Some entry_fields.Value
entry_field fields.Shape = Some entry_fields.Shape
entry_field fields.Share = Some entry_fields.Share
entry_field _ = None

-- the fault of a field at top
abbrev pub top_fault : Field → InputFault
top_fault fields.Lens = input_faults.BadLens
top_fault fields.Miner = input_faults.BadMiner
top_fault _ = input_faults.NoInputs

abbrev pub fault_in : Option ℕ → Option EntryField → Field → InputFault
fault_in (Some entry) (Some field) what = input_faults.BadField entry field
fault_in _ _ what = top_fault what

abbrev pub field_fault : Option ℕ → Field → InputFault
field_fault entry what = fault_in entry (entry_field what) what

-- the fault that a reader of inputs finds; it decides nothing of want of memory
abbrev pub input_fault : ReadErr → Fault
input_fault read_errs.Syntax = faults.Input input_faults.NotJson
input_fault (read_errs.BadField entry name) = faults.Input (field_fault entry name)
input_fault (read_errs.TooLong entry) = faults.Input (input_faults.TooMany entry)
input_fault read_errs.Memory = faults.Memory

-- the refusal of an input file
unfoldable pub bad_input : ReadErr → Cause
bad_input err = record { status = Input; line = fault_line (input_fault err) }

-- what a reader found, or its refusal as the user sees it
abbrev pub read_or : {A E : Type 0} → (E → Cause) → Result A E → Result A Cause
read_or cause (Ok x) = Ok x
read_or cause (Err e) = Err (cause e)

unfoldable pub inputs_at : Contents → List ℕ → Result (List Entry) Cause
inputs_at files path = bytes_at files path >>= λ bytes. read_or bad_input (inputs_read_of bytes)

-- the public part of inputs is refused as inputs are
unfoldable pub public_at : Contents → List ℕ → Result (List PublicEntry) Cause
public_at files path = bytes_at files path >>= λ bytes. read_or bad_input (read_public_of bytes)

-- the share file of a miner, whose number it tells, is refused as inputs are
unfoldable pub share_at : Contents → Number → List ℕ → Result MinerFile Cause
share_at files miner path = bytes_at files path >>= λ bytes. read_or bad_input (read_share_of (number_of miner) bytes)

-- the refusal of a file of opened values, by the number of its first wrong line
unfoldable pub bad_opened : ℕ → Cause
bad_opened line = record { status = Input; line = fault_line (faults.BadView line) }

-- the words of a file of opened values
unfoldable pub opened_at : Contents → List ℕ → Result (List ℕ) Cause
opened_at files path = bytes_at files path >>= λ bytes. read_or bad_opened (opened_of bytes)

-- the words of a file of what is handed over
unfoldable pub published_at : Contents → List ℕ → Result (List ℕ) Cause
published_at files path = bytes_at files path >>= λ bytes. read_or bad_opened (published_in bytes)

unfoldable pub tape_file_at : Contents → List ℕ → Result FourTapes Cause
tape_file_at files path = bytes_at files path >>= λ bytes. read_or bad_tape (tapes_read_of bytes)

-- the tapes of a file, or those that are drawn from a seed
unfoldable pub tapes_at : Contents → Source → Result FourTapes Cause
tapes_at files (file path) = tape_file_at files path
tapes_at files (seeded seed words) = Ok (seed_tapes seed words)

-- the refusal of a schedule file, by the number of its first wrong line
unfoldable pub bad_schedule : ℕ → Cause
bad_schedule line = record { status = Schedule; line = fault_line (faults.BadSchedule line) }

-- the links of a schedule file
unfoldable pub schedule_file_at : Contents → List ℕ → Result (List Link) Cause
schedule_file_at files path = bytes_at files path >>= λ bytes. read_or bad_schedule (links_of bytes)

-- in which order messages are delivered; word k of stream 4 of a seed chooses at delivery k
unfoldable pub delivery_at : Contents → Order → Result Delivery Cause
delivery_at files in_turn = Ok Default
delivery_at files (scheduled path) = schedule_file_at files path >>= λ links. Ok (Listed links)
delivery_at files (shuffled seed) = Ok (Shuffled (stream_word seed 4))

-- the paths that are read for the order
abbrev pub order_paths : Order → List (List ℕ)
order_paths (scheduled path) = path ∷ []
order_paths _ = []

-- the paths that are read for the tapes
abbrev pub source_paths : Source → List (List ℕ)
source_paths (file path) = path ∷ []
source_paths (seeded seed words) = []
