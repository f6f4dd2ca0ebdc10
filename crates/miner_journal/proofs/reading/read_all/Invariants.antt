use Rattle.std.proofs.Common.{length, ◌-◌, ◌≡◌, ◌≤◌, take, drop, true}
use Rattle.kept_disk.specs.Disk.{SameDisk, held}
use Rattle.miner_journal.proofs.reading.read_all.Given as goal

abbrev pub invariant-loop-done : goal.invariant-loop-done
invariant-loop-done g l =
    let state = g.D.Disk.state in
    record {
      within : l.done ≤ length l.into;
      size : length l.into ≡ length l.fn.into;
      filled : (state l.fn.disk).told ≡ true → take l.done l.into ≡ take l.done (drop l.from (held (state l.fn.disk)).seen);
      same : SameDisk (state l.fn.disk) (state l.disk);
      later : (state l.fn.disk).faults ≤ (state l.disk).faults;
    }

abbrev pub decreases-loop-done : goal.decreases-loop-done
decreases-loop-done g l = length l.into - l.done
