use Rattle.std.proofs.Common.{◌<◌, sym, ◌∙◌, ap, subst}
use Rattle.miner_core.specs.declared.engine.At.TheVariants.{Again, Acts, Over, Short}
use Rattle.miner_core.specs.Engines.{all_shown, measure}
use Rattle.miner_core.proofs.Further.{put_same_with, put_told_with, beside_same_with, beside_told_with}
use Rattle.miner_core.proofs.Turns.{put_measure, holds_links}
use Rattle.miner_core.proofs.engine.Engine.turn.Goals as goal

pub returns-in_ok-more-in-Ready-clause-same : goal.returns-in_ok-more-in-Ready-clause-same
returns-in_ok-more-in-Ready-clause-same g c =
    c.in_ok-more-in-Ready.ensures.same
    ∙ ap all_shown (put_same_with g.P.Party.me c.args.self.now c.replace.new.dest (sym c.replace.ensures.value ∙ c.in-Ready.is ∙ sym c.replace.ensures.after))

pub returns-in_ok-more-in-Ready-clause-told : goal.returns-in_ok-more-in-Ready-clause-told
returns-in_ok-more-in-Ready-clause-told g c =
    c.in_ok-more-in-Ready.ensures.told
    ∙ put_told_with g.P.Party.me c.args.self.now c.replace.new.dest (sym c.replace.ensures.value ∙ c.in-Ready.is ∙ sym c.replace.ensures.after)

pub returns-in_ok-again-in-Again-clause-same : goal.returns-in_ok-again-in-Again-clause-same
returns-in_ok-again-in-Again-clause-same g c =
    ap all_shown
    (beside_same_with g.P.Party.me c.args.self.now Again (sym c.replace.ensures.value ∙ c.in-Again.is) c.again.new.self c.in_ok-again-in-Again.ensures.left
    c.in_ok-again-in-Again.ensures.kept)

pub returns-in_ok-again-in-Again-clause-told : goal.returns-in_ok-again-in-Again-clause-told
returns-in_ok-again-in-Again-clause-told g c =
    beside_told_with g.P.Party.me c.args.self.now Again (sym c.replace.ensures.value ∙ c.in-Again.is) c.again.new.self c.in_ok-again-in-Again.ensures.left
    c.in_ok-again-in-Again.ensures.kept

pub returns-in_ok-again-in-Again-clause-kept : goal.returns-in_ok-again-in-Again-clause-kept
returns-in_ok-again-in-Again-clause-kept g c =
    let k = holds_links (record c.args.self.now { at = Again }) c.again.new.self c.in_ok-again-in-Again.ensures.kept in
    record { links = k.links; task = k.task; dealt = k.dealt; tape = k.tape }

pub returns-in_ok-goes_on-in-Acts-clause-same : goal.returns-in_ok-goes_on-in-Acts-clause-same
returns-in_ok-goes_on-in-Acts-clause-same g c =
    let a = c.in-Acts in
    ap all_shown
    (c.in_ok-goes_on-in-Acts.ensures.same ∙ put_same_with g.P.Party.me c.args.self.now (Acts a.turned a.speech a.before) (sym c.replace.ensures.value ∙ a.is))

pub returns-in_ok-goes_on-in-Acts-clause-told : goal.returns-in_ok-goes_on-in-Acts-clause-told
returns-in_ok-goes_on-in-Acts-clause-told g c =
    let a = c.in-Acts in
    c.in_ok-goes_on-in-Acts.ensures.told ∙ put_told_with g.P.Party.me c.args.self.now (Acts a.turned a.speech a.before) (sym c.replace.ensures.value ∙ a.is)

pub returns-in-Over-clause-same : goal.returns-in-Over-clause-same
returns-in-Over-clause-same g c = ap all_shown (put_same_with g.P.Party.me c.args.self.now (Over c.in-Over.ending) (sym c.replace.ensures.value ∙ c.in-Over.is))

pub returns-in-Over-clause-told : goal.returns-in-Over-clause-told
returns-in-Over-clause-told g c = put_told_with g.P.Party.me c.args.self.now (Over c.in-Over.ending) (sym c.replace.ensures.value ∙ c.in-Over.is)

pub returns-in-Short-clause-same : goal.returns-in-Short-clause-same
returns-in-Short-clause-same g c = ap all_shown (put_same_with g.P.Party.me c.args.self.now Short (sym c.replace.ensures.value ∙ c.in-Short.is))

pub returns-in-Short-clause-told : goal.returns-in-Short-clause-told
returns-in-Short-clause-told g c = put_told_with g.P.Party.me c.args.self.now Short (sym c.replace.ensures.value ∙ c.in-Short.is)

pub returns-in_ok-more-in-Ready-clause-falls : goal.returns-in_ok-more-in-Ready-clause-falls
returns-in_ok-more-in-Ready-clause-falls g c =
    λ more. subst (λ n. measure c.ready.new.self < n)
    (put_measure g.P.Party.me c.args.self.now c.replace.new.dest (sym c.replace.ensures.value ∙ c.in-Ready.is ∙ sym c.replace.ensures.after))
    (c.in_ok-more-in-Ready.ensures.falls more)

pub returns-in_ok-again-in-Again-clause-falls : goal.returns-in_ok-again-in-Again-clause-falls
returns-in_ok-again-in-Again-clause-falls g c =
    λ more. subst (λ n. measure c.again.new.self < n) (put_measure g.P.Party.me c.args.self.now Again (sym c.replace.ensures.value ∙ c.in-Again.is))
    c.in_ok-again-in-Again.ensures.falls

pub returns-in_ok-goes_on-in-Acts-clause-falls : goal.returns-in_ok-goes_on-in-Acts-clause-falls
returns-in_ok-goes_on-in-Acts-clause-falls g c =
    let a = c.in-Acts in
    λ more.
    subst (λ n. measure c.goes_on.new.self < n)
    (put_measure g.P.Party.me c.args.self.now (Acts a.turned a.speech a.before) (sym c.replace.ensures.value ∙ a.is)) c.in_ok-goes_on-in-Acts.ensures.falls
