use Rattle.std.proofs.Common.{◌≡◌, ◌≤◌, [], length, refl, sym, ap, ◌∙◌, arith}
use Rattle.std.specs.Prelude.{fold}
use Rattle.std.specs.List.{slice_get}
use Rattle.std.proofs.lemmas.List.{length-map}
use Rattle.std.proofs.lemmas.Option.{slice_get_read}
use Rattle.program_trees.specs.TypedPrograms.{typed_program_tree}
use Rattle.reached_instances.specs.Instances.{instance_seen, listing}
use Rattle.reached_instances.specs.Views.{instances_seen}
use Rattle.reached_instances.proofs.Bound.{reached_bound, all_bound}
use Rattle.reached_instances.proofs.Keys.{seen_at}
use Rattle.reached_instances.proofs.ReachedLists.{read_none, read_more, read_all}
use Rattle.reached_instances.proofs.reaching.reached_instances.Goals as goal

pub loop-instance-init : goal.loop-instance-init
loop-instance-init c =
    let p = typed_program_tree c.args.program.now in
    read_none p c.list_all.new.self
    (c.in_ok-list_all.ensures
    ∙ ap (λ is. fold listing is (instances_seen c.in_ok-found.found.items)) c.new-reached.ensures
    ∙ ap (fold listing []) c.in_ok-found.ensures)

pub loop-instance-preserved : goal.loop-instance-preserved
loop-instance-preserved c =
    let p = typed_program_tree c.args.program.now in
    let n = c.loop-instance.next in
    let is = c.loop-instance.reached in
    let ks = c.as_slice.result.now in
    let i = c.in-Some.instance.now in
    read_more p n is c.list_all-in-Some.new.self (instance_seen i)
    (ap (λ l. slice_get l n) (sym c.as_slice.ensures)
    ∙ seen_at ks n i (slice_get_read ks (length ks) n i refl c.in-Some.ensures.lookup.3.0 c.in-Some.ensures.lookup.1))
    (c.in_ok-list_all-2.ensures ∙ ap (fold listing is) c.in_ok-found-2.ensures)
    c.loop-instance.invariant

pub returns-clause-list : goal.returns-clause-list
returns-clause-list c =
    let p = typed_program_tree c.args.program.now in
    let ks = c.as_slice.result.now in
    let seen : length ks ≡ length c.loop-instance.reached = sym (length-map ks instance_seen) ∙ ap length c.as_slice.ensures in
    let below : length c.loop-instance.reached ≤ c.loop-instance.next = omega (arith, seen, c.in_default.ensures.lookup.3) in
    read_all p c.loop-instance.next c.loop-instance.reached below c.loop-instance.invariant

pub returns-clause-bound : goal.returns-clause-bound
returns-clause-bound c =
    let p = typed_program_tree c.args.program.now in
    let is = c.loop-instance.reached in
    all_bound p is (λ i m. reached_bound p i (c.loop-instance.invariant.reached i m))
