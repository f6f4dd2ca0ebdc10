-- A tape file that was opened, beside a reader of all of it.
use Rattle.std.proofs.Common.{◌≡◌, ℕ, List, length, Option, Some, None, Result, Ok, Err, IsSomeAnd, true, refl, sym, ap, ◌∙◌, subst}
use Rattle.outside.specs.Causes.{Rose}
use Rattle.outside.specs.Files.{Contents, FilesState, IsMissing, OnlyRead, file_at}
use Rattle.tape_file.specs.Format.{read_of, tapes_at}
use Rattle.tape_file.specs.Tapes.{FourTapes}
use Rattle.tape_sources.specs.Opening.{HasOpenCause, IsSteadyOpen, ReadsLengths}
use Rattle.tape_sources.specs.declared.lengths.TapeLengths.{TapeLengths}
use Rattle.tape_sources.specs.declared.open_err.OpenErr.{OpenErr}
use Rattle.tape_sources.specs.declared.open_err.OpenErr.TheVariants.{BadTape, Failed}
use Rattle.command_frame.specs.declared.object.Object.TheVariants as objects
use Rattle.command_frame.specs.declared.stop.Stop.{Stop}
use Rattle.command_frame.specs.declared.stop.Stop.TheVariants as stops
use Rattle.command_frame.specs.Answer.{Cause, bytes_at, missing}
use Rattle.command_frame.specs.Reads.{Stops}
use Rattle.command_frame.specs.Stops.{IsFileStop, IsRefusalFor}
use Rattle.program_commands.specs.Reading.{bad_tape, tape_file_at}
use Rattle.program_commands.proofs.Held.{read_there}
use Rattle.program_commands.proofs.Judged.{refused_so}
use Rattle.miner_commands.specs.Opened.{tapes_in, IsOpen}

abbrev IsReadAs : TapeLengths → List ℕ → Type 0
IsReadAs l bytes = (length bytes ≡ l.size) × (read_of bytes ≡ Ok (tapes_at l.dealer l.miner1 l.miner2 l.miner3 bytes))

module _ (files : Contents) (path : List ℕ) where
  -- the words are those of a reader of all of it
  pub opened_so : (o : Option (List ℕ)) (l : TapeLengths) → file_at files path ≡ o → IsSomeAnd o (IsReadAs l) → tape_file_at files path ≡ Ok (tapes_in o l)
  unfolding tape_file_at
  opened_so None l there h = absurd h
  opened_so (Some bytes) l there h = rw (read_there files path bytes there, h.1) refl

  bad_so : (o : Option (List ℕ)) (place : ℕ) → file_at files path ≡ o → IsSomeAnd o (λ bytes. read_of bytes ≡ Err place)
      → tape_file_at files path ≡ Err (bad_tape place)
  unfolding tape_file_at
  bad_so None place there h = absurd h
  bad_so (Some bytes) place there h = rw (read_there files path bytes there, h) refl

  missing_so : file_at files path ≡ None → tape_file_at files path ≡ Err (missing path)
  unfolding tape_file_at bytes_at
  missing_so none = rw none refl

module _ (f f' : FilesState) (path : List ℕ) where
  -- it is refused as a reader of all of it refuses it
  pub bad_file : (answer : Result TapeLengths OpenErr) (place : ℕ) → answer ≡ Err (BadTape place) → (stop : Stop) → IsRefusalFor (bad_tape place) stop
      → (f.told ≡ true → ReadsLengths (file_at f.contents path) answer) → Stops f f' stop (tape_file_at f.contents path)
  bad_file answer place is stop for h =
      let reads = subst (λ (r : Result TapeLengths OpenErr). f.told ≡ true → ReadsLengths (file_at f.contents path) r) is h in
      refused_so f f' stop (tape_file_at f.contents path) for (λ told. bad_so f.contents path (file_at f.contents path) place refl (reads told))

  -- a call of the store failed
  failed_by : (stop : Stop) → IsFileStop path stop → Rose f.faults f'.faults → (f.steady ≡ true → IsMissing f path)
      → Stops f f' stop (tape_file_at f.contents path)
  failed_by stops.Memory for rose gone = tt
  failed_by stops.Usage for rose gone = absurd for
  failed_by (stops.Refused r) for rose gone = absurd for
  failed_by (stops.Breached b) for rose gone = absurd for
  failed_by (stops.Failed (objects.File line)) for rose gone =
      record {
        rose = rose;
        missing = λ st t. missing_so f.contents path (gone st t) ∙ ap (λ (l : List ℕ). Err (record (missing path) { line = l })) (sym for);
      }
  failed_by (stops.Failed objects.Output) for rose gone = absurd for
  failed_by (stops.Failed objects.Links) for rose gone = absurd for
  failed_by (stops.Failed objects.Children) for rose gone = absurd for

  pub failed_file : (answer : Result TapeLengths OpenErr) → answer ≡ Err Failed → (stop : Stop) → IsFileStop path stop
      → HasOpenCause f.faults f'.faults answer → (f.steady ≡ true → IsSteadyOpen f f' path answer)
      → Stops f f' stop (tape_file_at f.contents path)
  failed_file answer is stop for cause steady =
      failed_by stop for (subst (λ (r : Result TapeLengths OpenErr). HasOpenCause f.faults f'.faults r) is cause).1
      (subst (λ (r : Result TapeLengths OpenErr). f.steady ≡ true → IsSteadyOpen f f' path r) is steady)

-- the file is open from then on
length_so : (o : Option (List ℕ)) (l : TapeLengths) → IsSomeAnd o (IsReadAs l) → IsSomeAnd o (λ bytes. length bytes ≡ l.size)
length_so None l h = absurd h
length_so (Some bytes) l h = h.0

pub open_so : (f f' : FilesState) (path : List ℕ) (l : TapeLengths) → OnlyRead f f' → f'.sized path ≡ Some l.size
    → (f.told ≡ true → IsSomeAnd (file_at f.contents path) (IsReadAs l)) → IsOpen f' path l
open_so f f' path l only sized h =
    record {
      sized = sized;
      whole = λ told.
          subst (λ (files : Contents). IsSomeAnd (file_at files path) (λ bytes. length bytes ≡ l.size)) (sym only.same.contents)
          (length_so (file_at f.contents path) l (h (sym only.same.told ∙ told)));
    }
