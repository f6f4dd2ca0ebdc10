use Rattle.std.proofs.Common.{sym, ◌∙◌}
use Rattle.counted_net.proofs.Made.{in_turn_all, making_more, making_none}
use Rattle.counted_net.proofs.answer.in_turn.Goals as goal

pub loop-link-init : goal.loop-link-init
loop-link-init c = making_none c.args.scripts.now (λ k. 0) c.new-net.result c.new-net.ensures

pub loop-link-preserved : goal.loop-link-preserved
loop-link-preserved c =
    making_more c.args.scripts.now (λ k. 0) c.loop-link.net c.loop-link.invariant c.in-Some.link c.give.new.self (sym c.chosen.ensures ∙ c.in-Some.is)
    c.in_ok-give.ensures.after

pub returns : goal.returns
returns c =
    in_turn_all c.args.scripts.now c.loop-link.net c.into_delivered.result c.loop-link.invariant (sym c.chosen.ensures ∙ c.in_default.is)
    c.into_delivered.ensures
