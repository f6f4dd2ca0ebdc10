use Rattle.std.proofs.Common.{◌∙◌, []}
use Rattle.kept_disk.specs.Disk.{held}
use Rattle.miner_journal.specs.Format.{StandsFor}
use Rattle.miner_journal.proofs.Holding.{only_more}
use Rattle.miner_journal.proofs.Moments.{joined}
use Rattle.miner_journal.proofs.Openings.{shorter, to_empty}
use Rattle.miner_journal.proofs.opening.begin_anew.Goals as goal

pub returns-in_err-clear-clause-each : goal.returns-in_err-clear-clause-each
returns-in_err-clear-clause-each g c = λ told w.
    let f0 = (held (g.D.Disk.state c.args.disk.now)) in
    to_empty c.args.sums.now f0 (held (g.D.Disk.state c.clear.new.disk)) (c.in_err-clear.ensures.each told (shorter c.args.short f0 w c.if-short.true) w.now)

pub returns-then-short-clause-each : goal.returns-then-short-clause-each
returns-then-short-clause-each g c = λ told w.
    let f0 = (held (g.D.Disk.state c.args.disk.now)) in
    let f1 = (held (g.D.Disk.state c.clear.new.disk)) in
    let h = c.in_ok-clear.ensures in
    let short = shorter c.args.short f0 w c.if-short.true in
    joined f0 f1 (held (g.D.Disk.state c.fill.new.disk)) (StandsFor c.args.sums.now []) (to_empty c.args.sums.now f0 f1 (h.each told short w.now))
    (c.fill.ensures.each (h.only.told ∙ told) (h.ok told short w.now))

pub returns-then-short-clause-only : goal.returns-then-short-clause-only
returns-then-short-clause-only g c = only_more c.in_ok-clear.ensures.only c.fill.ensures.only
