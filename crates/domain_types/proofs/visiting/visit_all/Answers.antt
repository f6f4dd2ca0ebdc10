use Rattle.std.proofs.Common.{◌≡◌, [], arith, refl, sym, ap, ◌∙◌, subst, Some}
use Rattle.std.specs.Prelude.{map, ◌||◌}
use Rattle.std.specs.List.{slice_get}
use Rattle.std.specs.BTreeSet.{contains}
use Rattle.std.specs.Ordering.{nat_cmp}
use Rattle.declarations.specs.Views.{declared, tree_at}
use Rattle.domain_types.specs.Views.{calls_seen}
use Rattle.domain_types.specs.Instances.{instance_seen}
use Rattle.domain_types.specs.inner.WorkList.{with_calls, with_plain, plain_instances, instance_calls, is_called, AreVisited}
use Rattle.domain_types.proofs.WorkList.{begun, plain_once, next_visited, next_least, next_called}
use Rattle.domain_types.proofs.visiting.visit_all.Goals as goal

pub loop-next-init : goal.loop-next-init
loop-next-init c =
    let d = declared c.args.declarations.now in
    let same : c.in_ok-list.list ≡ plain_instances d = c.in_ok-list.ensures ∙ ap (λ fs. with_plain [] 0 (map tree_at fs)) c.deref.ensures.value in
    record {
      least_fault = refl;
      visited = subst (AreVisited d (plain_instances d) []) (sym same) (begun d (plain_instances d) (plain_once d));
      called = λ k. let e = c.new-called.ensures.empty in grind arith;
    }

pub loop-next-preserved : goal.loop-next-preserved
loop-next-preserved c =
    let d = declared c.args.declarations.now in
    let i = instance_seen c.instance.result.now in
    let n = c.loop-next.next in
    let is = c.loop-next.list in
    let js = c.in_ok-list-2.list in
    let made : calls_seen c.deref-in-loop-next.result.now ≡ instance_calls d i =
    ap calls_seen c.deref-in-loop-next.ensures.value ∙ c.in_ok-calls.ensures.calls in
    let grown : js ≡ with_calls is (instance_calls d i) = c.in_ok-list-2.ensures.list ∙ ap (with_calls is) made in
    let there : slice_get is n ≡ Some i = c.instance.ensures in
    record {
      least_fault = next_least d n is js i c.args.least_fault.now c.loop-next.least_fault c.visit.new.least_fault there grown
          c.loop-next.invariant.least_fault c.in_ok-calls.ensures.least_fault;
      visited = next_visited d (plain_instances d) n is js i there grown c.loop-next.invariant.visited;
      called =
          λ k. next_called d n is js i k (contains nat_cmp c.loop-next.called k) (contains nat_cmp c.with_calls.new.called k) there grown
          (c.loop-next.invariant.called k)
          (c.in_ok-list-2.ensures.called k ∙ ap (λ cs. contains nat_cmp c.loop-next.called k || is_called k cs) made);
    }
