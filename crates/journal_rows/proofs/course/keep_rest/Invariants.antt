use Rattle.std.proofs.Common.{◌≡◌, true}
use Rattle.kept_disk.specs.MemDisk.{disk_state}
use Rattle.journal_rows.proofs.course.keep_rest.Given as goal

abbrev pub invariant-loop-number : goal.invariant-loop-number
invariant-loop-number l = (disk_state l.disk).attached ≡ true
