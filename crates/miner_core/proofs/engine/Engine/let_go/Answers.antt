use Rattle.std.proofs.Common.{rules, ◌≡◌, length, ap}
use Rattle.std.specs.Prelude.{IsTrue}
use Rattle.std.specs.BTreeSet.{contains}
use Rattle.std.specs.Ordering.{nat_cmp}
use Rattle.value_steps.specs.Views.{stage_seen}
use Rattle.code_machine.specs.Besides.{with_gates}
use Rattle.gate_node.specs.Nodes.{filled}
use Rattle.miner_core.specs.Engines.{place_at, with_words}
use Rattle.miner_core.proofs.Forgetting.{is_held, let_go_left}
use Rattle.miner_core.proofs.Further.{same_but_values_with, through_quiet_with}
use Rattle.miner_core.proofs.engine.Engine.let_go.Goals as goal

pub returns-clause-left : goal.returns-clause-left
returns-clause-left g c =
    let i = g.P.Party.me in
    let e = c.args.self.now in
    let n = c.keep_only.new.self in
    let k = c.keep_only.ensures in
    let needed = c.in_ok-numbers in
    let counted : e.stage.made ≡ length e.node.values = search rules in
    λ d. λ more.
    let_go_left i (with_words e more) (filled n more) (record e.stage { gates = c.clear.new.self }) (record {
      done = c.len-done.result;
      next =
          c.saturating_add-next.result;
    })
    c.requires.ready (c.requires.through more) (k.through more (c.requires.through more)) (same_but_values_with e.node n more k.same)
    (ap (λ gates. with_gates gates (stage_seen e.stage)) c.clear.ensures.items)
    (is_held (place_at i e) (λ number. IsTrue (contains nat_cmp needed.numbers number)) e.node.values n.values k.as_many counted
    (needed.ensures.named e.task.code) needed.ensures.last k.kept) d

pub returns-clause-through : goal.returns-clause-through
returns-clause-through g c =
    λ more. c.keep_only.ensures.through more (c.requires.through more)

pub returns-clause-sound : goal.returns-clause-sound
returns-clause-sound g c =
    let i = g.P.Party.me in
    let n = c.keep_only.new.self in
    record {
      stands = c.requires.sound.stands;
      quiet = through_quiet_with i n (λ more. c.keep_only.ensures.through more (c.requires.through more));
    }
