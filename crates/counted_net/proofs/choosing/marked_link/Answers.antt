use Rattle.std.proofs.Common.{◌+◌, drop, sym, ◌∙◌, ap, arith}
use Rattle.std.specs.Prelude.{filter, slice_get}
use Rattle.protocol_model.specs.Network.{all_links}
use Rattle.counted_net.specs.Nets.{is_marked}
use Rattle.protocol_model.proofs.Choosing.{at_later, at_other}
use Rattle.counted_net.proofs.choosing.marked_link.Goals as goal
use Rattle.counted_net.proofs.choosing.marked_link.Goals.{then-is_marked+else-left-eq0, else-is_marked}

pub loop-link-preserved : goal.loop-link-preserved
loop-link-preserved c =
    let p = is_marked c.args.marks.now in
    let i = c.loop-link.link-index in
    elim c.if-is_marked.branch [
      | then-is_marked+else-left-eq0 w ↦
          c.loop-link.invariant
          ∙ at_later p all_links i _ c.loop-link.left c.if-is_marked.left (omega arith) (sym c.is_marked.ensures ∙ w.if-is_marked.true) (omega arith)
      | else-is_marked w ↦
          c.loop-link.invariant
          ∙ at_other p all_links i _ c.loop-link.left (omega arith) (sym c.is_marked.ensures ∙ w.if-is_marked.false)
          ∙ sym (ap (λ n. slice_get (filter p (drop (i + 1) all_links)) n) w.left-is)
    ]
