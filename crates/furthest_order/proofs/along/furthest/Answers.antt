use Rattle.std.proofs.Common.{sym, subst, ◌∙◌}
use Rattle.merged_orders.specs.Merging.{Stuck}
use Rattle.furthest_order.specs.Orders.{orders_of, place_of}
use Rattle.std.proofs.Common.{drop}
use Rattle.std.proofs.lemmas.Bool.{true≢false}
use Rattle.furthest_order.proofs.Entries.{far_end, far_none, far_step, blocked_step}
use Rattle.furthest_order.proofs.LowestFirst.{first_end, first_none, first_step}
use Rattle.furthest_order.proofs.along.furthest.Goals as goal

pub loop-goes-init : goal.loop-goes-init
loop-goes-init c =
    let orders = orders_of c.args.orders.now in
    record {
      far = far_none c.args.scripts.now orders c.new-net.result c.new-net.ensures;
      first = first_none c.args.scripts.now orders c.new-net.result c.new-net.ensures;
      blocked = λ e. absurd (true≢false e);
    }

pub loop-goes-preserved : goal.loop-goes-preserved
loop-goes-preserved c =
    let orders = orders_of c.args.orders.now in
    record {
      far = far_step c.args.scripts.now orders c.requires c.loop-goes.places c.loop-goes.net c.loop-goes.invariant.far c.step_on.new.places c.step_on.new.net
          c.in_ok-goes.goes c.in_ok-goes.ensures;
      first = first_step c.args.scripts.now orders c.loop-goes.places c.loop-goes.net c.loop-goes.invariant.far c.loop-goes.invariant.first
          c.step_on.new.places c.step_on.new.net c.in_ok-goes.goes c.in_ok-goes.ensures;
      blocked = blocked_step orders c.loop-goes.net c.step_on.new.net c.loop-goes.places c.step_on.new.places c.in_ok-goes.goes c.in_ok-goes.ensures;
    }

pub returns-clause-far : goal.returns-clause-far
returns-clause-far c =
    λ moves are.
    let orders = orders_of c.args.orders.now in
    subst (λ ls. Stuck moves orders ls (λ i. drop (place_of c.loop-goes.places i) (orders i))) (sym c.into_links.ensures)
    (far_end c.args.scripts.now orders c.loop-goes.places c.loop-goes.net c.loop-goes.invariant.far (c.loop-goes.invariant.blocked c.loop-goes-test.false)
    moves are)

pub returns-clause-lowest : goal.returns-clause-lowest
returns-clause-lowest c =
    λ moves are.
    c.into_links.ensures
    ∙ first_end c.args.scripts.now (orders_of c.args.orders.now) c.loop-goes.places c.loop-goes.net c.loop-goes.invariant.far c.loop-goes.invariant.first
    (c.loop-goes.invariant.blocked c.loop-goes-test.false) moves are
