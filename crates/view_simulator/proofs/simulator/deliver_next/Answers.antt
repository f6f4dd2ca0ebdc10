use Rattle.std.proofs.Common.{◌<◌, length, sym, ◌∙◌, arith}
use Rattle.view_simulator.proofs.Receiving.{next-comes, never-none}
use Rattle.view_simulator.proofs.simulator.deliver_next.Goals as goal
use Rattle.view_simulator.proofs.simulator.deliver_next.Goals.{in-Some+in_ok-receive_from_next, in_default}

pub loop-at-preserved : goal.loop-at-preserved
loop-at-preserved g c =
    elim c.match-get.branch [
      | in-Some+in_ok-receive_from_next w ↦
          next-comes c.args.node.now c.loop-at.node c.match-get.node c.args.messages.now c.args.from c.loop-at.at w.in-Some.message
          (sym c.get.ensures ∙ w.in-Some.is) (w.node-is ∙ w.in_ok-receive_from_next.ensures.ok) c.loop-at.invariant
      | in_default w ↦
          let h : c.loop-at.at < length c.args.messages.now = omega (arith, c.len-at-end.ensures, c.loop-at-test.true) in
          never-none c.loop-at.at c.args.messages.now h (sym c.get.ensures ∙ w.in_default.is)
    ]
