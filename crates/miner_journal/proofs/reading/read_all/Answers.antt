use Rattle.std.proofs.Common.{◌≡◌, ◌-◌, ◌+◌, ◌∙◌, length, take, drop, ap, rules, arith}
use Rattle.miner_journal.proofs.Filling.{length-put_part, more_filled}
use Rattle.miner_journal.proofs.Holding.{same_more}
use Rattle.kept_disk.specs.Disk.{held}
use Rattle.miner_journal.proofs.reading.read_all.Goals as goal

pub loop-done-preserved : goal.loop-done-preserved
loop-done-preserved g c =
    let l = c.loop-done in
    let e = c.in_ok-done.ensures in
    let room = length l.into - l.done in
    let part = c.read_at.new.into in
    let state = g.D.Disk.state in
    let long : length c.read_at.new.into ≡ length c.loop-done.into - c.loop-done.done = search rules in
    let same = length-put_part l.done room l.into part long (omega (arith, l.invariant.within)) in
    record {
      within = omega (arith, same, e.most, l.invariant.within);
      size = same ∙ l.invariant.size;
      filled = λ t. more_filled (held (state c.args.disk.now)).seen c.args.from l.done c.in_ok-done.field-0 room l.into part
          (l.invariant.filled t)
          (e.bytes (l.invariant.same.same.only.told ∙ t)
          ∙ ap (λ f. take (length (take c.in_ok-done.field-0 part)) (drop (c.args.from + l.done) f.seen)) l.invariant.same.same.file)
          l.invariant.within (omega (arith, e.most, long));
      same = same_more l.invariant.same e.kept;
      later = omega (arith, e.cause.later, l.invariant.later);
    }
