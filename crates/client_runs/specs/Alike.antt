-- The first difference of two inputs to the client: of their public parts, of what is opened, or of what is handed over.
use Rattle.std.specs.Prelude.{◌≡◌, ℕ, List}
use Rattle.program_trees.specs.TypedPrograms.{TypedProgramTree}
use Rattle.value_file.specs.declared.inputs.Entry.{Entry}
use Rattle.value_file.specs.Public.{part_of}
use Rattle.program_views.specs.Views.{run_on}
use Rattle.tape_twin.specs.Alike.{PartsDiffer, WordsDiffer}
use Rattle.client_view.specs.Views.{published_of}
use Rattle.client_runs.specs.declared.twin_err.TwinErr.{TwinErr}
use Rattle.client_runs.specs.declared.twin_err.TwinErr.TheVariants.{PublicDiffers, OpenedDiffers, PublishedDiffers, Memory}

module _ (p : TypedProgramTree) (first second : List Entry) (lengths : List ℕ) (budget : ℕ) where
  abbrev pub opened_with : List Entry → List ℕ
  opened_with entries = (run_on p entries lengths budget).opened

  abbrev pub published_with : List Entry → List ℕ
  published_with entries = published_of (run_on p entries lengths budget).events

  -- the public parts are the same and so are the opened words, and what is handed over differs here
  pub record PublishedDiffer (place x y : ℕ) : Type 0 where
    pub known : part_of first ≡ part_of second
    pub opened : opened_with first ≡ opened_with second
    pub published : WordsDiffer (published_with first) (published_with second) place x y

  -- why there is no twin
  abbrev pub RefusesClientTwin : TwinErr → Type 0
  RefusesClientTwin (PublicDiffers name) = PartsDiffer (part_of first) (part_of second) name
  RefusesClientTwin (OpenedDiffers place x y) = (part_of first ≡ part_of second) × WordsDiffer (opened_with first) (opened_with second) place x y
  RefusesClientTwin (PublishedDiffers place x y) = PublishedDiffer place x y
  RefusesClientTwin Memory = Unit {0}
