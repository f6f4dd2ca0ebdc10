use Rattle.std.proofs.Common.{◌≡◌, ◌-◌, ◌∙◌, length, rules, arith}
use Rattle.tape_sources.specs.FileTapes.{file_in}
use Rattle.tape_sources.proofs.Filling.{length-put_part, more_filled, read_of_same, read_once, reads_more}
use Rattle.tape_sources.proofs.file_words.fill.Goals as goal

pub loop-done-preserved : goal.loop-done-preserved
loop-done-preserved g c =
    let l = c.loop-done in
    let e = c.in_ok-done.ensures in
    let room = length l.into - l.done in
    let part = c.read_at.new.into in
    let long : length c.read_at.new.into ≡ length c.loop-done.into - c.loop-done.done = search rules in
    let same = length-put_part l.done room l.into part long (omega (arith, l.invariant.within)) in
    let step = read_once e.kept e.cause.later e.still in
    record {
      within = omega (arith, same, e.most, l.invariant.within);
      size = same ∙ l.invariant.size;
      filled = λ t. more_filled (file_in (g.F.Files.state c.args.files.now) c.args.path.now) c.args.from l.done c.in_ok-done.field-0 room l.into part
          (l.invariant.filled t)
          (read_of_same c.args.path.now _ _ l.invariant.read (e.bytes (l.invariant.read.same.told ∙ t))) l.invariant.within (omega (arith, e.most, long));
      read = reads_more l.invariant.read step;
      sizes = λ q. e.sizes q ∙ l.invariant.sizes q;
      quiet = λ s. (e.steady (l.invariant.read.still s)).ok ∙ l.invariant.quiet s;
    }
