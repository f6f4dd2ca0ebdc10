-- Inputs that are alike to the client have no difference, and others have the first that is told.
use Rattle.std.proofs.Common.{◌≡◌, ℕ, List, Option, Some, None, option_map, refl, sym, ◌∙◌, ap}
use Rattle.std.specs.Option.{option_or}
use Rattle.program_trees.specs.TypedPrograms.{TypedProgramTree}
use Rattle.value_file.specs.declared.inputs.Entry.{Entry}
use Rattle.program_views.specs.Views.{run_on}
use Rattle.program_views.specs.TapeMaps.{AreAlike}
use Rattle.tape_twin.specs.FirstDifference.{Difference, at_entry, at_word, other_word, difference}
use Rattle.tape_twin.proofs.FirstDifferences.{alike_have_none, none_are_alike as alike_without, words-begin, words-itself, words-told}
use Rattle.client_view.specs.Views.{published_of}
use Rattle.client_view.specs.TapeMaps.{AreAlikeToClient}
use Rattle.client_runs.specs.Alike.{PublishedDiffer}
use Rattle.client_runs.proofs.AlikeRuns.{alike-to-client}
use Rattle.client_commands.specs.Difference.{ClientDifference, seen_by_all, at_element, handed_at, client_difference}

abbrev beside : Option Difference → Option Difference → Option ClientDifference
beside seen handed = option_or (option_map seen_by_all seen) (option_map handed_at handed)

none_beside : (seen handed : Option Difference) → beside seen handed ≡ None → (seen ≡ None) × (handed ≡ None)
none_beside None None h = (refl, refl)
none_beside None (Some (at_entry name)) h = absurd cc
none_beside None (Some (at_word place x y)) h = absurd cc
none_beside (Some d) handed h = absurd cc

module _ (p : TypedProgramTree) (lengths : List ℕ) (budget : ℕ) (first second : List Entry) where
  abbrev handed : List Entry → List ℕ
  handed entries = published_of (run_on p entries lengths budget).events

  pub none_differs : AreAlikeToClient p first second lengths budget → client_difference p first second lengths budget ≡ None
  unfolding client_difference
  none_differs alike =
      let seen : AreAlike p first second lengths budget = record { known = alike.known; opened = alike.opened } in
      ap (λ (d : Option Difference). beside d (other_word 0 (handed first) (handed second))) (alike_have_none p lengths budget first second seen)
      ∙ ap (λ (words : List ℕ). beside None (other_word 0 (handed first) words)) (sym alike.published)
      ∙ ap (beside None) (words-itself 0 (handed first))

  -- what differs to a miner comes first
  pub seen_first : (d : Difference) → difference p first second lengths budget ≡ Some d → client_difference p first second lengths budget ≡ Some (seen_by_all d)
  unfolding client_difference
  seen_first d is = ap (λ (s : Option Difference). beside s (other_word 0 (handed first) (handed second))) is

  pub handed_differ : (place x y : ℕ) → PublishedDiffer p first second lengths budget place x y
      → client_difference p first second lengths budget ≡ Some (at_element place x y)
  unfolding client_difference
  handed_differ place x y h =
      let seen : AreAlike p first second lengths budget = record { known = h.known; opened = h.opened } in
      ap (λ (d : Option Difference). beside d (other_word 0 (handed first) (handed second))) (alike_have_none p lengths budget first second seen)
      ∙ ap (beside None) (words-told (handed first) (handed second) place x y h.published)

  -- and without difference they are alike
  pub none_are_alike : client_difference p first second lengths budget ≡ None → AreAlikeToClient p first second lengths budget
  unfolding client_difference
  none_are_alike none =
      let both = none_beside (difference p first second lengths budget) (other_word 0 (handed first) (handed second)) none in
      alike-to-client p lengths budget first second (alike_without p lengths budget first second both.0)
      (words-begin 0 (handed first) (handed second) both.1)
