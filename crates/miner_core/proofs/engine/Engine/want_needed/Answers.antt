use Rattle.miner_core.proofs.Plans.{needed_left, needed_kept, needed_quiet}
use Rattle.miner_core.proofs.engine.Engine.want_needed.Goals as goal

pub returns-clause-left : goal.returns-clause-left
returns-clause-left g c =
    let own = c.in_ok-numbers in
    needed_left g.P.Party.me c.args.self.now c.want_these.new.self own.numbers (c.plans.ensures.leads c.if-not-plans.false) own.ensures.named own.ensures.last
    c.want_these.result c.want_these.ensures.plan c.want_these.ensures.same

pub returns-clause-kept : goal.returns-clause-kept
returns-clause-kept g c =
    needed_kept g.P.Party.me c.args.self.now c.want_these.new.self c.in_ok-numbers.numbers c.want_these.result c.want_these.ensures.plan
    c.want_these.ensures.same

pub returns-clause-sound : goal.returns-clause-sound
returns-clause-sound g c =
    record {
      stands = c.requires.sound.stands;
      quiet =
          needed_quiet g.P.Party.me c.args.self.now c.want_these.new.self c.in_ok-numbers.numbers c.requires.sound.quiet c.want_these.result
          c.want_these.ensures.plan c.want_these.ensures.same;
    }
