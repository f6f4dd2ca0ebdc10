use Rattle.std.proofs.Common.{◌≡◌, ◌+◌, drop}
use Rattle.gather_command.specs.Gathering.{lens_from}
use Rattle.gather_command.proofs.gathering.all_lens.Given as goal

abbrev pub invariant-loop-place : goal.invariant-loop-place
invariant-loop-place l = lens_from (l.place + 1) l.all (drop l.place l.more) ≡ lens_from 1 l.fn.lens l.more
