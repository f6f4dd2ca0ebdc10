use Rattle.std.proofs.Common.{sym, ◌∙◌, ap, subst}
use Rattle.gate_node.specs.declared.standing.Standing.TheVariants.{Waits}
use Rattle.gate_node.specs.Nodes as node
use Rattle.miner_core.specs.Engines.{Rests, behind_node, engine_left, with_words}
use Rattle.miner_core.specs.Story.{HasEnded}
use Rattle.miner_core.specs.declared.answer.End.TheVariants as end
use Rattle.miner_core.proofs.Stories.{waits_is, refuses_is, unfit_ends, wants_ends, through_has_ended}
use Rattle.miner_core.proofs.engine.Engine.answer.Goals as goal

pub returns-in-Through-clause-stands : goal.returns-in-Through-clause-stands
returns-in-Through-clause-stands g c =
    λ more rests.
    let i = g.P.Party.me in
    let e = with_words c.args.self.now more in
    subst (λ last. HasEnded (engine_left i e) last) (sym c.end-end.ensures) (through_has_ended i e (subst (λ s. Rests i s e) c.in-Through.is rests))

pub returns-in-Unfit-clause-stands : goal.returns-in-Unfit-clause-stands
returns-in-Unfit-clause-stands g c =
    λ more rests.
    let i = g.P.Party.me in
    let e = with_words c.args.self.now more in
    subst (λ s. HasEnded s end.Unfit) (sym (unfit_ends i e (subst (λ s. Rests i s e) c.in-Unfit.is rests))) tt

pub returns-in-Wants-clause-stands : goal.returns-in-Wants-clause-stands
returns-in-Wants-clause-stands g c =
    λ more rests.
    let i = g.P.Party.me in
    let e = with_words c.args.self.now more in
    subst (λ s. HasEnded s end.Unfit) (sym (wants_ends i e c.in-Wants.field-0 (subst (λ s. Rests i s e) c.in-Wants.is rests))) tt

pub returns-in-None-clause-stands : goal.returns-in-None-clause-stands
returns-in-None-clause-stands g c =
    λ more rests.
    let i = g.P.Party.me in
    let e = with_words c.args.self.now more in
    let h = subst (λ s. node.EngineStands i (node.settled s) e.node) (c.in-Waits.is ∙ ap (Waits c.in-Waits.link) c.in-None.is) rests.node in
    waits_is i e.node.links c.in-Waits.link (behind_node i e e.at) (node.engine_left i e.node) h

pub returns-in-Some-clause-stands : goal.returns-in-Some-clause-stands
returns-in-Some-clause-stands g c =
    λ more rests.
    let i = g.P.Party.me in
    let e = with_words c.args.self.now more in
    let h = subst (λ s. node.EngineStands i (node.settled s) e.node) (c.in-Waits.is ∙ ap (Waits c.in-Waits.link) c.in-Some.is) rests.node in
    refuses_is i e.node.links c.in-Waits.link (behind_node i e e.at) c.in-Some.cause (node.engine_left i e.node) h
