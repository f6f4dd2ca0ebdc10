-- The first difference of two inputs of a program, found entry by entry and then word by word.
use Rattle.std.specs.Prelude.{ℕ, ◌+◌, ◌==◌, ◌&&◌, Bool, if◌then◌else◌, List, [], ◌∷◌, bytes_eq, Option, Some, None, option_map}
use Rattle.std.specs.Option.{option_or}
use Rattle.value_file.specs.declared.public.PublicEntry.{PublicEntry}
use Rattle.value_file.specs.declared.inputs.Entry.{Entry}
use Rattle.value_file.specs.Public.{part_of}
use Rattle.program_trees.specs.TypedPrograms.{TypedProgramTree}
use Rattle.language_model.specs.Effects.{GivenInput}
use Rattle.language_model.specs.Evaluation.{same_truth, same_shape}
use Rattle.clear_eval.specs.Offers.{part_given}
use Rattle.program_views.specs.Views.{run_on}

-- ---- WHETHER TWO ENTRIES OF A PUBLIC PART ARE THE SAME TO A RUN

abbrev pub same_input : (x y : GivenInput) → Bool
same_input x y =
    bytes_eq x.text y.text && (same_truth x.secret y.secret && (same_shape x.shape y.shape && bytes_eq x.words y.words))

unfoldable pub same_entry : PublicEntry → PublicEntry → Bool
same_entry d e = same_input (part_given d) (part_given e)

-- ---- THE FIRST DIFFERENCE

-- the name of the first entry that isn't the same in both parts: the first part's, or the second one's where the first ends
abbrev pub other_entry : (first second : List PublicEntry) → Option (List ℕ)
other_entry [] [] = None
other_entry [] (e ∷ es) = Some e.name
other_entry (d ∷ ds) [] = Some d.name
other_entry (d ∷ ds) (e ∷ es) = if same_entry d e then other_entry ds es else Some d.name

-- an entry of this name, or the words that two runs open at this place
pub data Difference : Type 0 where
  at_entry : (name : List ℕ) → Difference
  at_word : (place first second : ℕ) → Difference

-- the first word that isn't the same, counted on from k; none where one list ends before
abbrev pub other_word : (k : ℕ) → (first second : List ℕ) → Option Difference
other_word k [] ys = None
other_word k (x ∷ xs) [] = None
other_word k (x ∷ xs) (y ∷ ys) = if x == y then other_word (k + 1) xs ys else Some (at_word k x y)

-- a difference of the public parts comes first
abbrev pub entry_first : Option (List ℕ) → Option Difference → Option Difference
entry_first name word = option_or (option_map at_entry name) word

-- of the public parts, then of the words that are opened on tapes as long as these
unfoldable pub difference : TypedProgramTree → (first second : List Entry) → (lengths : List ℕ) → (budget : ℕ) → Option Difference
difference p first second lengths budget =
    entry_first (other_entry (part_of first) (part_of second))
    (other_word 0 (run_on p first lengths budget).opened (run_on p second lengths budget).opened)
