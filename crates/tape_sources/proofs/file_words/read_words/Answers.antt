use Rattle.std.proofs.Common.{◌≡◌, ◌≤◌, ◌+◌, ◌-◌, ◌∙◌, length, refl, rules, arith}
use Rattle.tape_sources.specs.FileTapes.{file_in}
use Rattle.tape_sources.proofs.Filling.{length-put_part, more_words, nothing_read, reads_more, reads_none, words_of_same}
use Rattle.tape_sources.proofs.file_words.read_words.Goals as goal

pub loop-done-init : goal.loop-done-init
loop-done-init g c = record {
  within = omega arith;
  size = refl;
  filled = λ t. nothing_read (file_in (g.F.Files.state c.args.files.now) c.args.path.now) c.args.from;
  read = reads_none (g.F.Files.state c.args.files.now);
  sizes = λ q. refl;
  quiet = λ s. refl;
}

pub loop-done-preserved : goal.loop-done-preserved
loop-done-preserved g c =
    let l = c.loop-done in
    let e = c.in_ok-read_few.ensures in
    let count = c.min-count.result in
    let room = l.done + count - l.done in
    let part = c.read_few.new.into in
    let fits : c.loop-done.done + c.min-count.result ≤ length c.loop-done.into = omega (arith, c.min-count.ensures, l.invariant.within) in
    let long : length c.read_few.new.into ≡ c.loop-done.done + c.min-count.result - c.loop-done.done = search rules in
    let same = length-put_part l.done room l.into part long (omega (arith, fits)) in
    record {
      within = omega (arith, same, fits);
      size = same ∙ l.invariant.size;
      filled = λ t. more_words (file_in (g.F.Files.state c.args.files.now) c.args.path.now) c.args.from l.done count room l.into part (l.invariant.filled t)
          (words_of_same c.args.path.now _ part l.invariant.read (e.ok (l.invariant.read.same.told ∙ t))) (omega (arith, long)) l.invariant.within;
      read = reads_more l.invariant.read e.only;
      sizes = λ q. e.sizes q ∙ l.invariant.sizes q;
      quiet = λ s. (e.steady (l.invariant.read.still s)).ok ∙ l.invariant.quiet s;
    }
