-- The file of an own tape that was opened, beside a reader of all of it.
use Rattle.std.proofs.Common.{◌≡◌, ℕ, List, length, Option, Some, None, Result, Ok, Err, IsSomeAnd, true, refl, sym, ap, ◌∙◌, subst, string_bytes}
use Rattle.outside.specs.Causes.{Rose}
use Rattle.outside.specs.Files.{Contents, FilesState, IsMissing, OnlyRead, file_at}
use Rattle.tape_file.specs.Format.{read_own_of, words_at}
use Rattle.tape_sources.specs.FileTapes.{words_in}
use Rattle.tape_sources.specs.Opening.{HasOpenCause, IsSteadyOpen, ReadsLength}
use Rattle.tape_sources.specs.declared.open_err.OpenErr.{OpenErr}
use Rattle.tape_sources.specs.declared.open_err.OpenErr.TheVariants.{BadTape, Failed}
use Rattle.command_frame.specs.declared.object.Object.TheVariants as objects
use Rattle.command_frame.specs.declared.stop.Stop.{Stop}
use Rattle.command_frame.specs.declared.stop.Stop.TheVariants as stops
use Rattle.command_frame.specs.Answer.{Cause, bytes_at, cause_of, missing}
use Rattle.command_frame.specs.Reads.{StopNames, Stops}
use Rattle.command_frame.specs.Stops.{IsFileStop, IsRefusalFor}
use Rattle.program_commands.specs.Reading.{bad_tape}
use Rattle.program_commands.proofs.Held.{read_there}
use Rattle.miner_command.specs.declared.opened_file.TapeFile.{TapeFile}
use Rattle.miner_command.specs.Files.{own_tape_at}
use Rattle.miner_command.specs.Opened.{IsOpen}

module _ (files : Contents) (count : ℕ) (path : List ℕ) where
  -- the words are those of a reader of all of it
  pub opened_so : (o : Option (List ℕ)) (size : ℕ) → file_at files path ≡ o
      → IsSomeAnd o (λ bytes. (length bytes ≡ size) × (read_own_of count bytes ≡ Ok (words_at 8 count bytes)))
      → own_tape_at files count path ≡ Ok (words_in o 8 count)
  unfolding own_tape_at
  opened_so None size there h = absurd h
  opened_so (Some bytes) size there h = rw (read_there files path bytes there, h.1) refl

  bad_so : (o : Option (List ℕ)) (place : ℕ) → file_at files path ≡ o → IsSomeAnd o (λ bytes. read_own_of count bytes ≡ Err place)
      → own_tape_at files count path ≡ Err (bad_tape place)
  unfolding own_tape_at
  bad_so None place there h = absurd h
  bad_so (Some bytes) place there h = rw (read_there files path bytes there, h) refl

  missing_so : file_at files path ≡ None → own_tape_at files count path ≡ Err (missing path)
  unfolding own_tape_at bytes_at
  missing_so none = rw none refl

module _ (f f' : FilesState) (count : ℕ) (path : List ℕ) where
  -- it is refused as a reader of all of it refuses it
  refused_by : (place : ℕ) (stop : Stop) → IsRefusalFor (bad_tape place) stop
      → (f.told ≡ true → IsSomeAnd (file_at f.contents path) (λ bytes. read_own_of count bytes ≡ Err place))
      → Stops f f' stop (own_tape_at f.contents count path)
  refused_by place stops.Memory for h = tt
  refused_by place stops.Usage for h = absurd for
  refused_by place (stops.Refused r) for h = λ told.
      bad_so f.contents count path (file_at f.contents path) place refl (h told) ∙ ap (λ (c : Cause). Err c) cc
  refused_by place (stops.Breached b) for h = absurd for
  refused_by place (stops.Failed object) for h = absurd for

  pub refused_so : (answer : Result ℕ OpenErr) (place : ℕ) → answer ≡ Err (BadTape place) → (stop : Stop) → IsRefusalFor (bad_tape place) stop
      → (f.told ≡ true → ReadsLength count (file_at f.contents path) answer) → Stops f f' stop (own_tape_at f.contents count path)
  refused_so answer place is stop for h =
      refused_by place stop for (subst (λ (r : Result ℕ OpenErr). f.told ≡ true → ReadsLength count (file_at f.contents path) r) is h)

  -- a call of the store failed
  failed_by : (stop : Stop) → IsFileStop path stop → Rose f.faults f'.faults → (f.steady ≡ true → IsMissing f path)
      → Stops f f' stop (own_tape_at f.contents count path)
  failed_by stops.Memory for rose gone = tt
  failed_by stops.Usage for rose gone = absurd for
  failed_by (stops.Refused r) for rose gone = absurd for
  failed_by (stops.Breached b) for rose gone = absurd for
  failed_by (stops.Failed (objects.File line)) for rose gone =
      record {
        rose = rose;
        missing = λ st t. missing_so f.contents count path (gone st t) ∙ ap (λ (l : List ℕ). Err (record (missing path) { line = l })) cc;
      }
  failed_by (stops.Failed objects.Output) for rose gone = absurd for
  failed_by (stops.Failed objects.Links) for rose gone = absurd for
  failed_by (stops.Failed objects.Children) for rose gone = absurd for

  pub failed_so : (answer : Result ℕ OpenErr) → answer ≡ Err Failed → (stop : Stop) → IsFileStop path stop
      → HasOpenCause f.faults f'.faults answer → (f.steady ≡ true → IsSteadyOpen f f' path answer)
      → Stops f f' stop (own_tape_at f.contents count path)
  failed_so answer is stop for cause steady =
      failed_by stop for (subst (λ (r : Result ℕ OpenErr). HasOpenCause f.faults f'.faults r) is cause).1
      (subst (λ (r : Result ℕ OpenErr). f.steady ≡ true → IsSteadyOpen f f' path r) is steady)

-- the file is open from then on
length_so : (o : Option (List ℕ)) (count size : ℕ)
    → IsSomeAnd o (λ bytes. (length bytes ≡ size) × (read_own_of count bytes ≡ Ok (words_at 8 count bytes)))
    → IsSomeAnd o (λ bytes. length bytes ≡ size)
length_so None count size h = absurd h
length_so (Some bytes) count size h = h.0

pub open_so : (f f' : FilesState) (count : ℕ) (path : List ℕ) (tape : TapeFile) → OnlyRead f f' → f'.sized path ≡ Some tape.size
    → (f.told ≡ true → IsSomeAnd (file_at f.contents path)
    (λ bytes. (length bytes ≡ tape.size) × (read_own_of count bytes ≡ Ok (words_at 8 count bytes))))
    → IsOpen f' path tape
open_so f f' count path tape only sized h =
    record {
      sized = sized;
      whole = λ told.
          subst (λ (files : Contents). IsSomeAnd (file_at files path) (λ bytes. length bytes ≡ tape.size)) (sym only.same.contents)
          (length_so (file_at f.contents path) count tape.size (h (sym only.same.told ∙ told)));
    }
