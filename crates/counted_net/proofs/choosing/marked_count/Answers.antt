use Rattle.std.proofs.Common.{arith}
use Rattle.protocol_model.specs.Network.{all_links}
use Rattle.counted_net.specs.Nets.{is_marked}
use Rattle.protocol_model.proofs.Choosing.{count_yes, count_no}
use Rattle.counted_net.proofs.choosing.marked_count.Goals as goal
use Rattle.counted_net.proofs.choosing.marked_count.Goals.{then-is_marked, else-is_marked}

pub loop-link-preserved : goal.loop-link-preserved
loop-link-preserved c =
    let p = is_marked c.args.marks.now in
    let i = c.loop-link.link-index in
    let h = c.loop-link.invariant.counted in
    elim c.if-is_marked.branch [
      | then-is_marked w ↦
          record { counted = count_yes p all_links i _ (omega arith) _ c.is_marked.ensures _ _ h w.if-is_marked.true w.count-is; few = omega arith }
      | else-is_marked w ↦
          record { counted = count_no p all_links i _ (omega arith) _ c.is_marked.ensures _ _ h w.if-is_marked.false w.count-is; few = omega arith }
    ]
