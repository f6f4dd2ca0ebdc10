use Rattle.std.proofs.Common.{subst}
use Rattle.gate_node.specs.Nodes as node
use Rattle.miner_core.specs.Engines.{Rests, behind_node, with_words}
use Rattle.miner_core.proofs.Stories.{goes, end_is, through_ends, unfit_ends, wants_ends}
use Rattle.miner_core.proofs.engine.Engine.is_ended.Goals as goal

pub returns-in-Waits-clause-going : goal.returns-in-Waits-clause-going
returns-in-Waits-clause-going g c =
    λ no more rests.
    let i = g.P.Party.me in
    let e = with_words c.args.self.now more in
    let h = subst (λ s. node.EngineStands i (node.settled s) e.node) c.in-Waits.is rests.node in
    goes i e.node.links c.in-Waits.field-0 (behind_node i e e.at) c.in-Waits.field-1 (node.engine_left i e.node) h

pub returns-in-Through-clause-ended : goal.returns-in-Through-clause-ended
returns-in-Through-clause-ended g c =
    λ yes more rests.
    let i = g.P.Party.me in
    let e = with_words c.args.self.now more in
    let last = through_ends i e (subst (λ s. Rests i s e) c.in-Through.is rests) in
    end_is i e last.0 last.1

pub returns-in-Unfit-clause-ended : goal.returns-in-Unfit-clause-ended
returns-in-Unfit-clause-ended g c =
    λ yes more rests.
    let i = g.P.Party.me in
    let e = with_words c.args.self.now more in
    end_is i e _ (unfit_ends i e (subst (λ s. Rests i s e) c.in-Unfit.is rests))

pub returns-in-Wants-clause-ended : goal.returns-in-Wants-clause-ended
returns-in-Wants-clause-ended g c =
    λ yes more rests.
    let i = g.P.Party.me in
    let e = with_words c.args.self.now more in
    end_is i e _ (wants_ends i e c.in-Wants.field-0 (subst (λ s. Rests i s e) c.in-Wants.is rests))
