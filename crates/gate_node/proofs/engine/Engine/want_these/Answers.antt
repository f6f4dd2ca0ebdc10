use Rattle.std.proofs.Common.{sym, ◌∙◌}
use Rattle.std.proofs.lemmas.Bool.{eqb-true}
use Rattle.gate_node.proofs.Plans.{becomes-plan, counted-can}
use Rattle.gate_node.proofs.engine.Engine.want_these.Goals as goal

pub returns-clause-exactly : goal.returns-clause-exactly
returns-clause-exactly g c =
    counted-can g.P.Party.me c.args.count c.args.self.now (c.is_idle.ensures.idle c.if-not-is_idle.false) (c.is_all.ensures.all c.if-not-is_all.false)
    c.counts_to.result c.counts_to.ensures c.if-not-counts_to.false

pub returns-clause-plan : goal.returns-clause-plan
returns-clause-plan g c = λ told.
    becomes-plan g.P.Party.me c.args.self.now c.args.numbers c.args.count c.new-later.result (c.is_idle.ensures.idle c.if-not-is_idle.false)
    (c.is_all.ensures.all c.if-not-is_all.false) c.new-later.ensures.items (eqb-true _ _ (sym c.counts_to.ensures ∙ c.if-not-counts_to.false))
