-- What a file in memory means: its calls that changed what a crash may leave are kept in order, and each moment is read off them.
use Rattle.std.specs.Prelude.{[]}
use Rattle.kept_disk.specs.Images.{DiskFile, settled}
use Rattle.kept_disk.specs.Calls.{now_after, past_after}
use Rattle.kept_disk.specs.declared.logged_file.LoggedFile.{LoggedFile}

abbrev pub file_of : LoggedFile → DiskFile
file_of f = record {
  seen = f.bytes.items;
  now = now_after (settled f.first.items) f.log.items;
  past = past_after (settled f.first.items) [] f.log.items;
}
