use Rattle.std.proofs.Common.{rules, ◌≡◌, ◌∙◌, ◌-◌, suc, length, drop, ap, arith}
use Rattle.code_machine.specs.Views.{machine_seen}
use Rattle.own_code.specs.Places.{told_by}
use Rattle.gate_node.specs.Nodes.{filled}
use Rattle.miner_core.proofs.Begins.{begins_acts, begins_again, comes_next, done_left, gates_quiet}
use Rattle.miner_core.specs.Engines.{with_words}
use Rattle.miner_core.proofs.engine.Engine.begin.Goals as goal

pub returns-then-is_done-clause-left : goal.returns-then-is_done-clause-left
returns-then-is_done-clause-left g c =
    let e = c.args.self.now in
    let fuel : e.fuel ≡ suc (e.fuel - 1) = omega (arith, c.requires.fuel) in
    let from : c.len-from.result ≡ length e.stage.gates.items = search rules in
    λ d. λ more.
    done_left g.P.Party.me (with_words e more) c.step_alone.new.machine c.step_alone.new.stage (e.fuel - 1) c.in_ok-turned.turned
    c.len-from.result c.told_yet-before.result c.requires.ready (c.requires.through more) fuel c.in_ok-turned.ensures.step
    from c.told_yet-before.ensures.events (c.is_done.ensures c.if-is_done.true) d

pub returns-then-wants_words-clause-left : goal.returns-then-wants_words-clause-left
returns-then-wants_words-clause-left g c =
    let e = c.args.self.now in
    let fuel : e.fuel ≡ suc (e.fuel - 1) = omega (arith, c.requires.fuel) in
    let from : c.len-from.result ≡ length e.stage.gates.items = search rules in
    let made = c.in_ok-gates.ensures ∙ ap (λ gates. drop c.len-from.result gates) c.deref.ensures.value
    ∙ ap (λ n. drop n c.step_alone.new.stage.gates.items) from in
    λ d. λ more.
    begins_again g.P.Party.me (with_words e more) c.step_alone.new.machine c.step_alone.new.stage (e.fuel - 1) (filled c.add.new.self more)
    c.in_ok-turned.turned c.in_ok-gates.gates.items
    c.requires.ready (c.requires.through more) (c.in_ok-add.ensures.left more) c.add.ensures.kept.dealt fuel c.in_ok-turned.ensures.step made
    c.rewind.new.stage (c.wants_words.ensures.wants c.if-wants_words.true) (λ gained. c.rewind.ensures.again _ c.marked-mark.ensures gained) d

pub returns-clause-left : goal.returns-clause-left
returns-clause-left g c =
    let e = c.args.self.now in
    let fuel : e.fuel ≡ suc (e.fuel - 1) = omega (arith, c.requires.fuel) in
    let from : c.len-from.result ≡ length e.stage.gates.items = search rules in
    let made = c.in_ok-gates.ensures ∙ ap (λ gates. drop c.len-from.result gates) c.deref.ensures.value
    ∙ ap (λ n. drop n c.step_alone.new.stage.gates.items) from in
    λ d. λ more.
    begins_acts g.P.Party.me (with_words e more) c.step_alone.new.machine c.step_alone.new.stage (e.fuel - 1) (filled c.add.new.self more)
    c.in_ok-turned.turned c.in_ok-gates.gates.items
    c.requires.ready (c.requires.through more) (c.in_ok-add.ensures.left more) c.add.ensures.kept.dealt fuel c.in_ok-turned.ensures.step made
    c.in_ok-speech.speech c.told_yet-before.result (c.wants_words.ensures.goes_on c.if-wants_words.false) c.told_yet-before.ensures.events
    c.told_yet-before.ensures.opened
    (λ words. λ last. c.in_ok-speech.ensures e.task.code words last
    ∙ ap (λ o. told_by o (machine_seen e.task.code e.machine) words last) (c.coming_step-coming.ensures.step ∙ comes_next e.task.code e.machine)) d

pub returns-then-wants_words-clause-sound : goal.returns-then-wants_words-clause-sound
returns-then-wants_words-clause-sound g c =
    let e = c.args.self.now in
    let fuel : e.fuel ≡ suc (e.fuel - 1) = omega (arith, c.requires.fuel) in
    let from : c.len-from.result ≡ length e.stage.gates.items = search rules in
    let made = c.in_ok-gates.ensures ∙ ap (λ gates. drop c.len-from.result gates) c.deref.ensures.value
    ∙ ap (λ n. drop n c.step_alone.new.stage.gates.items) from in
    record {
      stands = c.in_ok-turned.ensures.stands;
      quiet =
          λ more.
          gates_quiet g.P.Party.me (with_words e more) c.step_alone.new.machine c.step_alone.new.stage (e.fuel - 1) (filled c.add.new.self more)
          c.in_ok-turned.turned c.in_ok-gates.gates.items
          c.requires.ready (c.requires.through more) (c.in_ok-add.ensures.left more) c.add.ensures.kept.dealt fuel c.in_ok-turned.ensures.step made;
    }

pub returns-clause-sound : goal.returns-clause-sound
returns-clause-sound g c =
    let e = c.args.self.now in
    let fuel : e.fuel ≡ suc (e.fuel - 1) = omega (arith, c.requires.fuel) in
    let from : c.len-from.result ≡ length e.stage.gates.items = search rules in
    let made = c.in_ok-gates.ensures ∙ ap (λ gates. drop c.len-from.result gates) c.deref.ensures.value
    ∙ ap (λ n. drop n c.step_alone.new.stage.gates.items) from in
    record {
      stands = c.in_ok-turned.ensures.stands;
      quiet =
          λ more.
          gates_quiet g.P.Party.me (with_words e more) c.step_alone.new.machine c.step_alone.new.stage (e.fuel - 1) (filled c.add.new.self more)
          c.in_ok-turned.turned c.in_ok-gates.gates.items
          c.requires.ready (c.requires.through more) (c.in_ok-add.ensures.left more) c.add.ensures.kept.dealt fuel c.in_ok-turned.ensures.step made;
    }
