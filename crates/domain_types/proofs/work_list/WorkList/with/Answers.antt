use Rattle.std.proofs.Common.{◌≡◌, List, sym, ap, ◌∙◌}
use Rattle.domain_types.specs.declared.value_type.Protection.{Protection}
use Rattle.domain_types.specs.declared.instance.Instance as kept
use Rattle.domain_types.specs.Instances.{instance_seen}
use Rattle.domain_types.proofs.Listing.{one_more_seen}
use Rattle.domain_types.proofs.work_list.WorkList.with.Goals as goal
use Rattle.domain_types.proofs.work_list.WorkList.with.Goals.{then-not-contains+in_ok-from_slice-2+in_ok-insert+in_ok-push, else-not-contains}

pub invariant_of-result : goal.invariant_of-result
invariant_of-result c =
    elim c.if-not-contains.branch [
      | then-not-contains+in_ok-from_slice-2+in_ok-insert+in_ok-push w ↦
          let k : kept.Instance = record { function = c.args.function; binding = w.in_ok-from_slice-2.field-0 } in
          let x : kept.Instance = record { function = c.args.function; binding = c.in_ok-from_slice.field-0 } in
          let same : instance_seen k ≡ instance_seen x =
          ap (λ (ds : List Protection). record { function = c.args.function; binding = ds })
          (w.in_ok-from_slice-2.ensures.items ∙ sym c.in_ok-from_slice.ensures.items) in
          rw (w.instances-is, w.seen-is, w.in_ok-push.ensures.items)
          (one_more_seen c.self.inside.instances.items c.self.inside.seen w.insert.new.self k x c.self.invariant w.in_ok-insert.ensures.updates same)
      | else-not-contains w ↦ rw (w.instances-is, w.seen-is) c.self.invariant
    ]
