use Rattle.std.proofs.Common.{List, ℕ, sym, ◌∙◌, ap, drop, arith}
use Rattle.found_inputs.specs.Found.{words_first}
use Rattle.found_inputs.specs.Sums.{are_right}
use Rattle.found_data.proofs.Walks.{right-end, sums_more}
use Rattle.found_data.proofs.sums.wrong_sums_at.Goals as goal

pub loop-entry-preserved : goal.loop-entry-preserved
loop-entry-preserved c =
    let e = c.entry-item.result in
    let t = c.loop-entry.taken in
    let one = words_first (drop t c.args.one.now) in
    let two = words_first (drop t c.args.two.now) in
    let told =
    c.in_ok-are_right.ensures
    ∙ ap (λ (ws : List ℕ). are_right e.value ws c.words_at-second.result.now c.words_at.result.now) c.words_at-first.ensures
    ∙ ap (λ (ws : List ℕ). are_right e.value one ws c.words_at.result.now) c.words_at-second.ensures
    ∙ ap (λ (ws : List ℕ). are_right e.value one two ws) c.words_at.ensures in
    record {
      so_far = rw c.lines_for.ensures.lines
          (sums_more c.args.part.now c.args.one.now c.args.two.now c.args.three.now c.loop-entry.entry-index t e c.loop-entry-test.true c.entry-item.is
          c.loop-entry.invariant.so_far (sym told ∙ c.if-not-branch.false));
      few = omega (arith, c.lines_for.ensures.few, c.loop-entry.invariant.few);
    }

pub returns : goal.returns
returns c =
    sym (right-end c.args.part.now c.args.one.now c.args.two.now c.args.three.now c.loop-entry.entry-index c.loop-entry.taken c.loop-entry-test.false
    c.loop-entry.invariant.so_far)
