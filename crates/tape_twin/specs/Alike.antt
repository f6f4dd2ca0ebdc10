-- The first difference of two inputs' public parts, and of two lists of words.
use Rattle.std.specs.Prelude.{◌≡◌, ℕ, List, [], ◌∷◌, ◌++◌, ◌⊎◌, length}
use Rattle.program_trees.specs.TypedPrograms.{TypedProgramTree}
use Rattle.value_file.specs.declared.inputs.Entry.{Entry}
use Rattle.value_file.specs.declared.public.PublicEntry.{PublicEntry}
use Rattle.value_file.specs.Public.{part_of}
use Rattle.program_views.specs.Views.{run_on}
use Rattle.tape_twin.specs.declared.twin_err.TwinErr.{TwinErr}
use Rattle.tape_twin.specs.declared.twin_err.TwinErr.TheVariants.{PublicDiffers, OpenedDiffers, Memory}

-- after what two public parts have in common: the first entries are not the same, or one part ends; the name is the first part's, or the
-- second one's where the first ends
abbrev pub DifferHere : (rest other : List PublicEntry) → (name : List ℕ) → Type 0
DifferHere [] [] name = ⊥
DifferHere [] (e ∷ es) name = name ≡ e.name
DifferHere (d ∷ ds) [] name = name ≡ d.name
DifferHere (d ∷ ds) (e ∷ es) name = (name ≡ d.name) × (d ≡ e → ⊥)

pub record PartsDiffer (first second : List PublicEntry) (name : List ℕ) : Type 0 where
  pub common : List PublicEntry
  pub rest : List PublicEntry
  pub other : List PublicEntry
  pub first_is : first ≡ common ++ rest
  pub second_is : second ≡ common ++ other
  pub here : DifferHere rest other name

-- after so many that they have in common, two lists have these
pub record ListsDiffer {A : Type 0} (first second : List A) (place : ℕ) (x y : A) : Type 0 where
  pub common : List A
  pub rest : List A
  pub other : List A
  pub count : length common ≡ place
  pub first_is : first ≡ common ++ x ∷ rest
  pub second_is : second ≡ common ++ y ∷ other
  pub differ : x ≡ y → ⊥

abbrev pub WordsDiffer : (first second : List ℕ) (place x y : ℕ) → Type 0
WordsDiffer first second place x y = ListsDiffer first second place x y

-- one list begins with the other
pub record BeginsWith {A : Type 0} (xs front : List A) : Type 0 where
  pub more : List A
  pub is : xs ≡ front ++ more

abbrev pub OneBegins : {A : Type 0} → (xs ys : List A) → Type 0
OneBegins xs ys = BeginsWith xs ys ⊎ BeginsWith ys xs

-- why there is no twin: the public parts differ, or they are the same and the opened words differ
abbrev pub RefusesTwin : TypedProgramTree → (first second : List Entry) → (lengths : List ℕ) → (budget : ℕ) → TwinErr → Type 0
RefusesTwin p first second lengths budget (PublicDiffers name) = PartsDiffer (part_of first) (part_of second) name
RefusesTwin p first second lengths budget (OpenedDiffers place x y) =
    (part_of first ≡ part_of second)
    × WordsDiffer (run_on p first lengths budget).opened (run_on p second lengths budget).opened place x y
RefusesTwin p first second lengths budget Memory = Unit {0}
