use Rattle.std.proofs.Common.{◌≡◌, ◌∙◌, ◌-◌, length, arith, le_refl, refl}
use borrow.Rule.Slice.PartMut.{put_mid, mid_of, mid_len, same_len_mid}
use Rattle.miner_node.proofs.Pieces.{came_none, came_more, took_none, took_more}
use Rattle.miner_node.proofs.Faulting.{later_self}
use Rattle.miner_node.proofs.transfers.recv_all.Goals as goal

pub loop-done-preserved : goal.loop-done-preserved
loop-done-preserved g c =
    let held = c.loop-done.invariant in
    let xs = c.loop-done.into in
    let n = c.loop-done.done in
    let m = length xs - n in
    let ys = c.recv.new.into in
    let same : length (put_mid n m xs ys) ≡ length xs = same_len_mid n m xs ys c.recv.auto.into in
    let part : length (mid_of n m xs) ≡ m = mid_len n (length xs) xs (le_refl (length xs)) in
    record {
      within = omega (arith, c.in_ok-done.ensures.most, same, part, held.within);
      same_length = same ∙ held.same_length;
      came = came_more c.args.peer n c.in_ok-done.field-0 m xs ys held.within (omega (arith, c.in_ok-done.ensures.most, c.recv.auto.into)) held.came c.in_ok-done.ensures.ok;
      did = λ t. took_more c.args.peer n c.in_ok-done.field-0 m (length c.args.into.now) xs ys held.within
          (omega (arith, c.in_ok-done.ensures.most, c.recv.auto.into)) (omega (arith, c.in_ok-done.ensures.most, held.same_length, held.within)) (held.later.told ∙ t)
          (held.did t) c.in_ok-done.ensures.ok c.in_ok-done.ensures.called;
      later =
          record {
            told = c.in_ok-done.ensures.ok.told ∙ held.later.told;
            faults = omega (arith, c.recv.ensures.cause.later, held.later.faults);
            still = λ t. c.recv.ensures.still (held.later.still t);
          };
    }

pub loop-done-init : goal.loop-done-init
loop-done-init g c =
    let s = g.L.Links.state c.args.links.now in
    record {
      within = omega arith;
      same_length = refl;
      came = came_none s c.args.peer c.args.into.now;
      did = λ t. took_none s c.args.peer (length c.args.into.now) c.args.into.now;
      later = later_self s;
    }
