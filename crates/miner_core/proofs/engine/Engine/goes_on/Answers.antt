use Rattle.std.proofs.Common.{◌∙◌, ◌++◌, map, ap}
use Rattle.driven_nodes.specs.Steps.{last_of}
use Rattle.miner_core.specs.Views.{notice_seen, told_since}
use Rattle.miner_core.specs.Engines.{with_words}
use Rattle.miner_core.proofs.Turns.{goes_on_same, goes_on_told}
use Rattle.miner_core.proofs.engine.Engine.goes_on.Goals as goal

pub returns-clause-same : goal.returns-clause-same
returns-clause-same g c =
    λ d. λ more.
    goes_on_same g.P.Party.me (with_words c.args.self.now more) (c.requires.through more) c.args.turned c.args.speech.now c.args.before
    c.led_to.result c.tell.new.notices
    c.led_to.ensures d

pub returns-clause-told : goal.returns-clause-told
returns-clause-told g c =
    λ d. λ more.
    goes_on_told g.P.Party.me (with_words c.args.self.now more) (c.requires.through more) c.args.turned c.args.speech.now c.args.before
    c.led_to.result c.tell.new.notices
    c.led_to.ensures
    (c.in_ok-tell.ensures
    ∙ ap (λ ws. map notice_seen c.args.self.now.notices.items ++ told_since c.args.speech.now c.args.before c.args.self.now.stage ws)
    (c.last_words-last.ensures ∙ ap last_of c.values.ensures)) d
