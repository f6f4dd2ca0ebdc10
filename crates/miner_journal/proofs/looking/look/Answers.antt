use Rattle.std.proofs.Common.{◌∙◌, inl, inr}
use Rattle.miner_journal.proofs.Holding.{at_more}
use Rattle.miner_journal.proofs.Looks.{holds_on, if_ok_map, on_ok, only_surveyed, surveyed_there, synced_there}
use Rattle.miner_journal.proofs.looking.look.Goals as goal

pub returns-in_err-settle-clause-once : goal.returns-in_err-settle-clause-once
returns-in_err-settle-clause-once g c = λ told. inl (c.in_err-settle.ensures.err told)

pub returns-clause-only : goal.returns-clause-only
returns-clause-only g c =
    let state = g.D.Disk.state in
    let h = c.in_ok-settle.ensures in
    at_more c.args.path.now h.only (only_surveyed (state c.settle.new.disk) (state c.survey.new.disk) c.args.path.now h.holds c.survey.ensures.same)

pub returns-clause-holds : goal.returns-clause-holds
returns-clause-holds g c =
    let state = g.D.Disk.state in
    on_ok c.survey.result
    (holds_on (state c.settle.new.disk) (state c.survey.new.disk) c.args.path.now c.in_ok-settle.ensures.holds c.survey.ensures.same)

pub returns-clause-once : goal.returns-clause-once
returns-clause-once g c = λ told.
    let state = g.D.Disk.state in
    let h = c.in_ok-settle.ensures in
    inr (synced_there (state c.settle.new.disk) (state c.survey.new.disk) c.args.path.now h.holds c.survey.ensures.same
    ((state c.args.disk.now).files c.args.path.now) (h.ok told))

pub returns-clause-synced : goal.returns-clause-synced
returns-clause-synced g c =
    let state = g.D.Disk.state in
    let h = c.in_ok-settle.ensures in
    on_ok c.survey.result
    (λ told. synced_there (state c.settle.new.disk) (state c.survey.new.disk) c.args.path.now h.holds c.survey.ensures.same
    ((state c.args.disk.now).files c.args.path.now) (h.ok told))

pub returns-clause-found : goal.returns-clause-found
returns-clause-found g c =
    let state = g.D.Disk.state in
    let h = c.in_ok-settle.ensures in
    if_ok_map c.survey.result
    (λ found v told. surveyed_there (state c.settle.new.disk) (state c.survey.new.disk) c.args.path.now h.holds c.survey.ensures.same
    ((state c.args.disk.now).files c.args.path.now) (h.ok told) found (v (h.only.told ∙ told)))
    c.survey.ensures.ok
