use Rattle.std.proofs.Common.{◌≡◌, length, sym, subst}
use Rattle.std.specs.Prelude.{IfOk}
use Rattle.gate_exchanges.specs.Exchanges.{protocol_of}
use Rattle.block_steps.specs.Outcomes.{outcome_of}
use Rattle.block_steps.specs.Pendings.{pending_left, progress_left}
use Rattle.block_steps.proofs.beginning.begin.Goals as goal

pub returns-in-Opening-clause-same : goal.returns-in-Opening-clause-same
returns-in-Opening-clause-same g c =
    let i = g.P.Party.me in
    let a = c.args in
    subst (λ e. IfOk c.begin_opening.result (λ to. outcome_of i c.begin_opening.new.links (progress_left (pending_left i) to)
    ≡ outcome_of i a.links.now ((protocol_of e).strand (length a.u.now) i a.u.now a.v.now a.words.now))) (sym c.in-Opening.is)
    c.begin_opening.ensures.same
