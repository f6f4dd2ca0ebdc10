-- Of the real disk only faults are counted, and it is known which file is attached and which size was answered.
use Rattle.std.specs.Prelude.{ℕ, List, [], Bool, true, false, Option, Some, None, string_bytes}
use Rattle.kept_disk.specs.Disk.{DiskState}
use Rattle.kept_disk.specs.Images.{file_with}
use Rattle.real_disk.specs.declared.real_disk.Held.{Held}

abbrev pub is_attached : Option Held → Bool
is_attached None = false
is_attached (Some held) = true

abbrev pub path_of : Option Held → List ℕ
path_of None = []
path_of (Some held) = string_bytes held.path

abbrev pub untold_disk : (held : Option Held) (size : Option ℕ) (faults : ℕ) → DiskState
untold_disk held size faults = record {
  told = false;
  attached = is_attached held;
  path = path_of held;
  files = λ _. file_with [];
  size = size;
  faults = faults;
  steady = false;
}
