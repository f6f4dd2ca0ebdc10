use Rattle.std.proofs.Common.{◌∙◌, ap}
use Rattle.code_machine.specs.Views.{machine_seen}
use Rattle.driven_nodes.specs.Steps.{last_of}
use Rattle.own_code.specs.Places.{told_by}
use Rattle.miner_core.specs.Engines.{with_words}
use Rattle.miner_core.proofs.Begins.{acts_again, comes_next}
use Rattle.miner_core.proofs.engine.Engine.again.Goals as goal

pub returns-clause-left : goal.returns-clause-left
returns-clause-left g c =
    let e = c.args.self.now in
    λ d. λ more.
    acts_again g.P.Party.me (with_words e more) c.step_told.new.machine c.step_told.new.stage c.in_ok-turned.turned c.in_ok-speech.speech
    c.told_yet-before.result
    c.last_words.result.now c.requires.again (c.requires.through more) (c.last_words.ensures ∙ ap last_of c.values.ensures) c.in_ok-turned.ensures.step
    c.told_yet-before.ensures.events c.told_yet-before.ensures.opened
    (λ words. λ last. c.in_ok-speech.ensures e.task.code words last
    ∙ ap (λ o. told_by o (machine_seen e.task.code e.machine) words last) (c.coming_step-coming.ensures.step ∙ comes_next e.task.code e.machine)) d
