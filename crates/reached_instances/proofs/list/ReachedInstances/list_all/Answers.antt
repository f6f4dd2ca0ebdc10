use Rattle.std.proofs.Common.{[], ◌∷◌, sym, ap, ◌∙◌}
use Rattle.std.specs.Prelude.{fold}
use Rattle.reached_instances.specs.Instances.{instance_seen, listing}
use Rattle.reached_instances.specs.Views.{instances_seen}
use Rattle.reached_instances.proofs.Growing.{map_one}
use Rattle.reached_instances.proofs.Listing.{listed-append}
use Rattle.reached_instances.proofs.Keys.{key_listed}
use Rattle.reached_instances.proofs.list.ReachedInstances.list_all.Goals as goal

pub loop-instance-preserved : goal.loop-instance-preserved
loop-instance-preserved c =
    let i = c.in-Some.instance in
    let before = c.args.self.now in
    let listed = instances_seen c.loop-instance.yielded in
    ap instances_seen c.in_ok-insert.ensures.keys
    ∙ key_listed c.loop-instance.self-inside.list.keys i
    ∙ ap (λ l. listing l (instance_seen i)) c.loop-instance.invariant
    ∙ sym (listed-append before listed (instance_seen i ∷ []))
    ∙ ap (fold listing before) (sym (map_one instance_seen c.loop-instance.yielded i))
