-- What a disk in memory means.
use Rattle.std.specs.Prelude.{true, string_bytes}
use Rattle.kept_disk.specs.Disk.{DiskState}
use Rattle.kept_disk.specs.LoggedFiles.{file_in}
use Rattle.kept_disk.specs.Plan.{is_steady}
use Rattle.kept_disk.specs.declared.mem_disk.MemDisk.{MemDisk}

abbrev pub disk_state : MemDisk → DiskState
disk_state d = record {
  told = true;
  attached = d.attached;
  path = string_bytes d.path;
  files = file_in d.files;
  size = d.sized;
  faults = d.plan.faults;
  steady = is_steady d.plan;
}
