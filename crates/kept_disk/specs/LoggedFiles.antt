-- What files in memory mean.
use Rattle.std.specs.Prelude.{◌≢◌, ◌≡◌, List, ℕ, [], Option, Some, None, String}
use Rattle.std.specs.BTreeMap.{BTreeMap, get_by_text}
use Rattle.std.specs.declared.alloc.Global.{Global}
use Rattle.kept_disk.specs.Images.{DiskFile, file_with}
use Rattle.kept_disk.specs.LoggedFile.{file_of}
use Rattle.kept_disk.specs.declared.disk_call.DiskCall.{DiskCall}
use Rattle.kept_disk.specs.declared.logged_file.LoggedFile.{LoggedFile}

-- from the bytes of a path to the file
abbrev pub LoggedFiles : Type 0
LoggedFiles = BTreeMap (String Global) LoggedFile

-- one that isn't there counts as empty
abbrev pub file_or_empty : Option LoggedFile → DiskFile
file_or_empty None = file_with []
file_or_empty (Some f) = file_of f

abbrev pub file_in : LoggedFiles → List ℕ → DiskFile
file_in files path = file_or_empty (get_by_text files path)

-- its calls that changed what a crash may leave, in order
abbrev pub calls_of : Option LoggedFile → List DiskCall
calls_of None = []
calls_of (Some f) = f.log.items

abbrev pub calls_in : LoggedFiles → List ℕ → List DiskCall
calls_in files path = calls_of (get_by_text files path)

-- a file stands at this path
abbrev pub IsThere : LoggedFiles → List ℕ → Type 0
IsThere files path = get_by_text files path ≢ None

-- all files but that at this path are as they were
abbrev pub OthersStay : (old new : LoggedFiles) (path : List ℕ) → Type 0
OthersStay old new path = (q : List ℕ) → q ≢ path → file_in new q ≡ file_in old q

abbrev pub AllStay : (old new : LoggedFiles) → Type 0
AllStay old new = (q : List ℕ) → file_in new q ≡ file_in old q
