use Rattle.std.proofs.Common.{◌∙◌}
use Rattle.miner_journal.proofs.Looks.{none_changed, not_synced, on_ok, on_ok_map, only_there, still_held, synced_at}
use Rattle.miner_journal.proofs.looking.settle.Goals as goal

pub returns-in_err-attach-clause-only : goal.returns-in_err-attach-clause-only
returns-in_err-attach-clause-only g c = none_changed c.args.path.now c.in_err-attach.ensures.kept

pub returns-clause-only : goal.returns-clause-only
returns-clause-only g c =
    let state = g.D.Disk.state in
    let h = c.in_ok-attach.ensures in
    only_there (state c.args.disk.now) (state c.attach.new.self) c.args.path.now h.kept h.ok.path_is (state c.sync.new.self) c.sync.ensures.only

pub returns-clause-holds : goal.returns-clause-holds
returns-clause-holds g c =
    let state = g.D.Disk.state in
    let h = c.in_ok-attach.ensures in
    on_ok c.sync.result
    (still_held (state c.args.disk.now) (state c.attach.new.self) c.args.path.now h.kept h.ok.path_is (state c.sync.new.self) c.sync.ensures.only h.ok.attached)

pub returns-clause-ok : goal.returns-clause-ok
returns-clause-ok g c =
    let state = g.D.Disk.state in
    let h = c.in_ok-attach.ensures in
    on_ok_map c.sync.result
    (λ s told. synced_at (state c.args.disk.now) (state c.attach.new.self) c.args.path.now h.kept h.ok.path_is (state c.sync.new.self) c.sync.ensures.only
    (s (h.kept.told ∙ told)))
    c.sync.ensures.ok

pub returns-clause-err : goal.returns-clause-err
returns-clause-err g c =
    let state = g.D.Disk.state in
    let h = c.in_ok-attach.ensures in
    let k = c.sync.ensures in
    not_synced (state c.args.disk.now) (state c.attach.new.self) c.args.path.now h.kept h.ok.path_is (state c.sync.new.self) k.only
    c.sync.result k.failed k.memory
