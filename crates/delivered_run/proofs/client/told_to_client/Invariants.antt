use Rattle.std.proofs.Common.{◌≡◌, ◌++◌, drop, map}
use Rattle.code_runs.specs.ClientTold.{told_beside}
use Rattle.miner_core.specs.Views.{notice_seen}
use Rattle.delivered_run.proofs.client.told_to_client.Given as goal

abbrev pub invariant-loop-place : goal.invariant-loop-place
invariant-loop-place l =
    l.events.items
    ++ told_beside (drop l.place (map notice_seen l.first)) (drop l.place (map notice_seen l.second)) (drop l.place (map notice_seen l.third))
    ≡ told_beside (map notice_seen l.first) (map notice_seen l.second) (map notice_seen l.third)
