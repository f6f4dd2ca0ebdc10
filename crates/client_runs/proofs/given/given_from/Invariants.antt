use Rattle.std.proofs.Common.{◌≡◌, ◌≤◌, ◌*◌, ◌++◌, drop}
use Rattle.joint_run.specs.Three.{values_of}
use Rattle.handed_shares.specs.Handed.{all_of}
use Rattle.client_model.specs.Given.{given_from}
use Rattle.client_runs.proofs.given.given_from.Given as goal

abbrev pub invariant-loop-place : goal.invariant-loop-place
invariant-loop-place l =
    (l.next ≤ 2 * l.place)
    × (l.given.items ++ given_from all_of l.next (values_of l.shares) (drop l.place l.gates) ≡ given_from all_of 0 (values_of l.shares) l.gates)
