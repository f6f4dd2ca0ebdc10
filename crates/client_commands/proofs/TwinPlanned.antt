-- What `client-twin` plans is what is decided of the files.
use Rattle.std.proofs.Common.{◌≡◌, ℕ, List, true, Some, Ok, Err, refl, sym, ap, subst}
use Rattle.outside.specs.Files.{FilesState}
use Rattle.command_frame.specs.declared.stop.Stop.{Stop}
use Rattle.command_frame.specs.Answer.{Effect}
use Rattle.command_frame.specs.Reads.{StopNames, Stops}
use Rattle.command_words.specs.Ask.{ClientTwinAsk}
use Rattle.program_trees.specs.TypedPrograms.{TypedProgramTree}
use Rattle.value_file.specs.declared.inputs.Entry.{Entry}
use Rattle.tape_file.specs.Format.{tape_bytes}
use Rattle.tape_file.specs.Tapes.{FourTapes}
use Rattle.client_view.specs.TapeMaps.{AreAlikeToClient, client_twinned}
use Rattle.program_views.specs.Views.{lengths_of}
use Rattle.client_runs.specs.Alike.{RefusesClientTwin}
use Rattle.tape_twin.specs.FirstDifference.{at_entry, at_word}
use Rattle.client_runs.specs.declared.twin_err.TwinErr.{TwinErr}
use Rattle.client_runs.specs.declared.twin_err.TwinErr.TheVariants as refusal
use Rattle.tape_twin.proofs.FirstDifferences.{told_at_entry, told_at_word}
use Rattle.client_commands.proofs.Differences.{none_differs, seen_first, handed_differ}
use Rattle.program_commands.specs.Judging.{Finding}
use Rattle.program_commands.specs.Programs.{program_at}
use Rattle.program_commands.specs.Reading.{inputs_at, tape_file_at}
use Rattle.tape_commands.specs.Twin.{entry_line, unlike}
use Rattle.tape_commands.specs.Twin.{word_line, writes_to, written_effect}
use Rattle.client_commands.specs.Difference.{ClientDifference, seen_by_all, at_element, client_difference}
use Rattle.client_commands.specs.Twin.{IsClientTwinStop, by_client_difference, client_twin_bytes, client_twin_effect, client_twin_of, element_line}
use Rattle.program_commands.proofs.Judged.{refused_so}
use Rattle.program_commands.proofs.Exits.{unnamed_memory, unnamed_refusal}

written_so : (ask : ClientTwinAsk) (p : TypedProgramTree) (first second : List Entry) (tapes made : FourTapes)
    → made ≡ client_twinned p first second tapes ask.budget → client_twin_effect ask p first second tapes ≡ written_effect ask.to made
unfolding client_twin_bytes
written_so ask p first second tapes made is = ap (λ (t : FourTapes). writes_to ask.to (tape_bytes t)) (sym is)

-- what is decided of the files that were read
module _ (found : Finding) (ask : ClientTwinAsk) (f : FilesState) (p : TypedProgramTree) (first second : List Entry) (tapes : FourTapes)
    (program : f.told ≡ true → program_at found f.contents ask.program ≡ Ok p)
    (inputs : f.told ≡ true → inputs_at f.contents ask.input ≡ Ok first)
    (others : f.told ≡ true → inputs_at f.contents ask.second ≡ Ok second)
    (taped : f.told ≡ true → tape_file_at f.contents ask.tape ≡ Ok tapes) where
  abbrev differ : List ℕ → Type 0
  differ line = client_twin_of found ask f.contents ≡ Err (unlike line)

  pub twinned_so : (made : FourTapes) → AreAlikeToClient p first second (lengths_of tapes) ask.budget
      → made ≡ client_twinned p first second tapes ask.budget → f.told ≡ true
      → client_twin_of found ask f.contents ≡ Ok (written_effect ask.to made)
  unfolding client_twin_of by_client_difference
  twinned_so made alike is t =
      rw (program t, inputs t, others t, taped t, none_differs p (lengths_of tapes) ask.budget first second alike)
      (ap (λ (e : Effect). Ok e) (written_so ask p first second tapes made is))

  at_some : (d : ClientDifference) (line : List ℕ) → client_difference p first second (lengths_of tapes) ask.budget ≡ Some d
      → by_client_difference (Some d) ≡ Err (unlike line) → f.told ≡ true → differ line
  unfolding client_twin_of
  at_some d line is refused t = rw (program t, inputs t, others t, taped t, is, refused) refl

  of_entry : (name : List ℕ) → by_client_difference (Some (seen_by_all (at_entry name))) ≡ Err (unlike (entry_line name))
  unfolding by_client_difference
  of_entry name = refl

  of_word : (place x y : ℕ) → by_client_difference (Some (seen_by_all (at_word place x y))) ≡ Err (unlike (word_line place x y))
  unfolding by_client_difference
  of_word place x y = refl

  of_element : (place x y : ℕ) → by_client_difference (Some (at_element place x y)) ≡ Err (unlike (element_line place x y))
  unfolding by_client_difference
  of_element place x y = refl

  -- inputs that are not alike stop the command
  pub stops : (f' : FilesState) (e : TwinErr) (stop : Stop) → RefusesClientTwin p first second (lengths_of tapes) ask.budget e → IsClientTwinStop e stop
      → Stops f f' stop (client_twin_of found ask f.contents)
  stops f' (refusal.PublicDiffers name) stop h is =
      refused_so f f' stop (client_twin_of found ask f.contents) is
      (at_some (seen_by_all (at_entry name)) (entry_line name)
      (seen_first p (lengths_of tapes) ask.budget first second (at_entry name) (told_at_entry p (lengths_of tapes) ask.budget first second name h))
      (of_entry name))
  stops f' (refusal.OpenedDiffers place x y) stop h is =
      refused_so f f' stop (client_twin_of found ask f.contents) is
      (at_some (seen_by_all (at_word place x y)) (word_line place x y)
      (seen_first p (lengths_of tapes) ask.budget first second (at_word place x y)
      (told_at_word p (lengths_of tapes) ask.budget first second place x y h.0 h.1))
      (of_word place x y))
  stops f' (refusal.PublishedDiffers place x y) stop h is =
      refused_so f f' stop (client_twin_of found ask f.contents) is
      (at_some (at_element place x y) (element_line place x y)
      (handed_differ p (lengths_of tapes) ask.budget first second place x y h)
      (of_element place x y))
  stops f' refusal.Memory stop h is = subst (λ (s : Stop). Stops f f' s (client_twin_of found ask f.contents)) (sym is) tt

-- inputs that are refused name no file
pub twin_stop_names : (paths : List (List ℕ)) (e : TwinErr) (stop : Stop) → IsClientTwinStop e stop → StopNames paths stop
twin_stop_names paths (refusal.PublicDiffers name) stop of = unnamed_refusal paths (unlike (entry_line name)) stop of
twin_stop_names paths (refusal.OpenedDiffers place first second) stop of = unnamed_refusal paths (unlike (word_line place first second)) stop of
twin_stop_names paths (refusal.PublishedDiffers place first second) stop of = unnamed_refusal paths (unlike (element_line place first second)) stop of
twin_stop_names paths refusal.Memory stop of = unnamed_memory paths stop of
