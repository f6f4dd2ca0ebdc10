use Rattle.kept_disk.specs.Disk.{held}
use Rattle.miner_journal.proofs.Beginnings.{cleared, clears}
use Rattle.miner_journal.proofs.WriteSyncs.{through}
use Rattle.miner_journal.proofs.beginning.clear.Goals as goal

pub returns-clause-each : goal.returns-clause-each
returns-clause-each g c = λ told short synced.
    clears (held (g.D.Disk.state c.args.disk.now)) short synced (held (g.D.Disk.state c.write_synced.new.disk)) (c.write_synced.ensures.gains told)

pub returns-clause-ok : goal.returns-clause-ok
returns-clause-ok g c =
    through c.write_synced.result
    (λ h told short synced. cleared (held (g.D.Disk.state c.args.disk.now)) short synced (held (g.D.Disk.state c.write_synced.new.disk)) (h told))
    c.write_synced.ensures.ok
