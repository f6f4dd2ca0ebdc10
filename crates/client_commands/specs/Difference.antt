-- The first difference of two inputs to the client, found entry by entry, and then word by word.
use Rattle.std.specs.Prelude.{ℕ, List, Option, option_map}
use Rattle.std.specs.Option.{option_or}
use Rattle.program_trees.specs.TypedPrograms.{TypedProgramTree}
use Rattle.value_file.specs.declared.inputs.Entry.{Entry}
use Rattle.program_views.specs.Views.{run_on}
use Rattle.client_view.specs.Views.{published_of}
use Rattle.tape_twin.specs.FirstDifference.{Difference, at_entry, at_word, other_word, difference}

-- as to a miner, or the words that two runs hand over at this place
pub data ClientDifference : Type 0 where
  seen_by_all : Difference → ClientDifference
  at_element : (place first second : ℕ) → ClientDifference

abbrev pub handed_at : Difference → ClientDifference
handed_at (at_entry name) = seen_by_all (at_entry name)
handed_at (at_word place x y) = at_element place x y

-- of the public parts, then of the words that are opened, then of what is handed over, on tapes as long as these
unfoldable pub client_difference : TypedProgramTree → (first second : List Entry) → (lengths : List ℕ) → (budget : ℕ) → Option ClientDifference
client_difference p first second lengths budget =
    option_or (option_map seen_by_all (difference p first second lengths budget))
    (option_map handed_at (other_word 0 (published_of (run_on p first lengths budget).events) (published_of (run_on p second lengths budget).events)))
