use Rattle.std.proofs.lemmas.Result.{err_from_is_err_and}
use Rattle.miner_journal.proofs.WriteSyncs.{stops_unwritten, syncs}
use Rattle.miner_journal.proofs.synced.write_synced.Goals as goal

pub returns-in_err-write_at : goal.returns-in_err-write_at
returns-in_err-write_at g c =
    let state = g.D.Disk.state in
    let p = err_from_is_err_and c.from_residual.result c.from_residual.ensures.1 in
    let h = c.in_err-write_at.ensures in
    rw (p.1, p.2)
    (stops_unwritten (state c.args.disk.now) c.args.from c.args.bytes.now (state c.write_at.new.self) c.in_err-write_at.field-0.0
    h.failed h.memory h.only h.cause)

pub returns : goal.returns
returns g c =
    let state = g.D.Disk.state in
    let h = c.in_ok-write_at.ensures in
    let k = c.sync.ensures in
    syncs (state c.args.disk.now) c.args.from c.args.bytes.now (state c.write_at.new.self) h.only h.ok (state c.sync.new.self) k.only h.cause.later
    c.sync.result k.ok k.failed k.memory k.cause
