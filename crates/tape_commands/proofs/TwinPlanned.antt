-- What `twin` plans is what is decided of the files.
use Rattle.std.proofs.Common.{◌≡◌, ℕ, List, true, Some, Ok, Err, refl, sym, ap, subst}
use Rattle.outside.specs.Files.{FilesState}
use Rattle.command_frame.specs.declared.stop.Stop.{Stop}
use Rattle.command_frame.specs.Answer.{Effect}
use Rattle.command_frame.specs.Reads.{StopNames, Stops}
use Rattle.command_words.specs.Ask.{TwinAsk}
use Rattle.program_trees.specs.TypedPrograms.{TypedProgramTree}
use Rattle.value_file.specs.declared.inputs.Entry.{Entry}
use Rattle.tape_file.specs.Format.{tape_bytes}
use Rattle.tape_file.specs.Tapes.{FourTapes}
use Rattle.tape_twin.specs.TapeMaps.{AreAlike, twinned}
use Rattle.tape_twin.specs.Views.{lengths_of}
use Rattle.tape_twin.specs.Alike.{RefusesTwin}
use Rattle.tape_twin.specs.FirstDifference.{at_entry, at_word, difference}
use Rattle.tape_twin.specs.declared.twin_err.TwinErr.{TwinErr}
use Rattle.tape_twin.specs.declared.twin_err.TwinErr.TheVariants as refusal
use Rattle.tape_twin.proofs.FirstDifferences.{alike_have_none, told_at_entry, told_at_word}
use Rattle.program_commands.specs.Judging.{Finding}
use Rattle.program_commands.specs.Programs.{program_at}
use Rattle.program_commands.specs.Reading.{inputs_at, tape_file_at}
use Rattle.tape_commands.specs.Twin.{IsTwinStop, by_difference, entry_line, twin_bytes, twin_effect, twin_of, unlike}
use Rattle.tape_commands.specs.Twin.{word_line, writes_to, written_effect}
use Rattle.program_commands.proofs.Judged.{refused_so}
use Rattle.program_commands.proofs.Exits.{unnamed_memory, unnamed_refusal}

written_so : (ask : TwinAsk) (p : TypedProgramTree) (first second : List Entry) (tapes made : FourTapes)
    → made ≡ twinned ask.miner p first second tapes ask.budget → twin_effect ask p first second tapes ≡ written_effect ask.to made
unfolding twin_bytes
written_so ask p first second tapes made is = ap (λ (t : FourTapes). writes_to ask.to (tape_bytes t)) (sym is)

-- what is decided of the files that were read
module _ (found : Finding) (ask : TwinAsk) (f : FilesState) (p : TypedProgramTree) (first second : List Entry) (tapes : FourTapes)
    (program : f.told ≡ true → program_at found f.contents ask.program ≡ Ok p)
    (inputs : f.told ≡ true → inputs_at f.contents ask.input ≡ Ok first)
    (others : f.told ≡ true → inputs_at f.contents ask.second ≡ Ok second)
    (taped : f.told ≡ true → tape_file_at f.contents ask.tape ≡ Ok tapes) where
  abbrev differ : List ℕ → Type 0
  differ line = twin_of found ask f.contents ≡ Err (unlike line)

  pub twinned_so : (made : FourTapes) → AreAlike p first second (lengths_of tapes) ask.budget
      → made ≡ twinned ask.miner p first second tapes ask.budget → f.told ≡ true
      → twin_of found ask f.contents ≡ Ok (written_effect ask.to made)
  unfolding twin_of by_difference
  twinned_so made alike is t =
      rw (program t, inputs t, others t, taped t, alike_have_none p (lengths_of tapes) ask.budget first second alike)
      (ap (λ (e : Effect). Ok e) (written_so ask p first second tapes made is))

  at_some_entry : (name : List ℕ) → difference p first second (lengths_of tapes) ask.budget ≡ Some (at_entry name) → f.told ≡ true
      → differ (entry_line name)
  unfolding twin_of by_difference
  at_some_entry name is t = rw (program t, inputs t, others t, taped t, is) refl

  at_some_word : (place x y : ℕ) → difference p first second (lengths_of tapes) ask.budget ≡ Some (at_word place x y) → f.told ≡ true
      → differ (word_line place x y)
  unfolding twin_of by_difference
  at_some_word place x y is t = rw (program t, inputs t, others t, taped t, is) refl

  -- inputs that are not alike stop the command
  pub stops : (f' : FilesState) (e : TwinErr) (stop : Stop) → RefusesTwin p first second (lengths_of tapes) ask.budget e → IsTwinStop e stop
      → Stops f f' stop (twin_of found ask f.contents)
  stops f' (refusal.PublicDiffers name) stop h is =
      refused_so f f' stop (twin_of found ask f.contents) is
      (at_some_entry name (told_at_entry p (lengths_of tapes) ask.budget first second name h))
  stops f' (refusal.OpenedDiffers place x y) stop h is =
      refused_so f f' stop (twin_of found ask f.contents) is
      (at_some_word place x y (told_at_word p (lengths_of tapes) ask.budget first second place x y h.0 h.1))
  stops f' refusal.Memory stop h is = subst (λ (s : Stop). Stops f f' s (twin_of found ask f.contents)) (sym is) tt

-- inputs that are refused name no file
pub twin_stop_names : (paths : List (List ℕ)) (e : TwinErr) (stop : Stop) → IsTwinStop e stop → StopNames paths stop
twin_stop_names paths (refusal.PublicDiffers name) stop of = unnamed_refusal paths (unlike (entry_line name)) stop of
twin_stop_names paths (refusal.OpenedDiffers place first second) stop of = unnamed_refusal paths (unlike (word_line place first second)) stop of
twin_stop_names paths refusal.Memory stop of = unnamed_memory paths stop of
