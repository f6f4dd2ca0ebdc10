use Rattle.std.proofs.Common.{◌+◌, length, ◌∙◌, subst}
use Rattle.kept_disk.specs.Images.{given_more, overlaid, settled}
use Rattle.kept_disk.specs.Disk.{held}
use Rattle.miner_journal.specs.Calls.{Gains, IsOnDisk}
use Rattle.miner_journal.proofs.Holding.{only_more}
use Rattle.miner_journal.proofs.KeptRecords.{body_each, gate_each, gate_there}
use Rattle.miner_journal.proofs.WriteSyncs.{through}
use Rattle.miner_journal.proofs.keeping.keep_body.Goals as goal

pub returns-in_err-write_synced-clause-each : goal.returns-in_err-write_synced-clause-each
returns-in_err-write_synced-clause-each g c = λ told sums rs a one is s.
    let f0 = (held (g.D.Disk.state c.args.disk.now)) in
    let f1 = (held (g.D.Disk.state c.write_synced.new.disk)) in
    let place = c.args.place in
    body_each sums rs a one place f0 s f1
    (subst (λ v. Gains (given_more f0.now (place + 1) (length v)) (settled (overlaid f0.seen (place + 1) v)) f0 f1) is
    (c.in_err-write_synced.ensures.gains told))

pub returns-clause-each : goal.returns-clause-each
returns-clause-each g c = λ told sums rs a one is s.
    let f0 = (held (g.D.Disk.state c.args.disk.now)) in
    let f1 = (held (g.D.Disk.state c.write_synced.new.disk)) in
    let f2 = (held (g.D.Disk.state c.write_synced-2.new.disk)) in
    let place = c.args.place in
    let w = c.in_ok-write_synced.ensures in
    gate_each sums rs a one place f0 s f1 (subst (λ v. IsOnDisk (overlaid f0.seen (place + 1) v) f1) is (w.ok told)) f2
    (subst (λ v. Gains (given_more f0.now (place + 1) (length v)) (settled (overlaid f0.seen (place + 1) v)) f0 f1) is (w.gains told))
    (c.write_synced-2.ensures.gains (w.only.told ∙ told))

pub returns-clause-ok : goal.returns-clause-ok
returns-clause-ok g c =
    let f0 = (held (g.D.Disk.state c.args.disk.now)) in
    let f1 = (held (g.D.Disk.state c.write_synced.new.disk)) in
    let f2 = (held (g.D.Disk.state c.write_synced-2.new.disk)) in
    let place = c.args.place in
    let w = c.in_ok-write_synced.ensures in
    through c.write_synced-2.result
    (λ h told sums rs a one is s.
    gate_there sums rs a one place f0 s f1 (subst (λ v. IsOnDisk (overlaid f0.seen (place + 1) v) f1) is (w.ok told)) f2 (h (w.only.told ∙ told)))
    c.write_synced-2.ensures.ok

pub returns-clause-only : goal.returns-clause-only
returns-clause-only g c = only_more c.in_ok-write_synced.ensures.only c.write_synced-2.ensures.only
