use Rattle.std.proofs.Common.{[], ◌++◌, ◌∙◌, List, ℕ, ap, drop, arith}
use Rattle.input_share.proofs.Steps.{all}
use Rattle.found_inputs.specs.Found.{words_first}
use Rattle.found_inputs.specs.Sums.{masks_of}
use Rattle.found_data.proofs.Walks.{more_words, words-drop, words-end}
use Rattle.found_data.proofs.inputs.found_words.Goals as goal

pub loop-entry-preserved : goal.loop-entry-preserved
loop-entry-preserved c =
    let e = c.entry-item.result in
    let t = c.loop-entry.taken in
    let one = words_first (drop t c.args.one.now) in
    let pushed =
    c.in_ok-push_masks.ensures
    ∙ ap (λ (ws : List ℕ). c.loop-entry.words.items ++ masks_of e.value ws c.words_at-in-loop-entry.result.now) c.words_at.ensures
    ∙ ap (λ (ws : List ℕ). c.loop-entry.words.items ++ masks_of e.value one ws) c.words_at-in-loop-entry.ensures in
    record {
      words = rw c.lines_for-taken.ensures.lines
          (more_words c.loop-entry.words.items _ _ _ _ _ c.loop-entry.invariant.words
          (words-drop c.args.part.now c.args.one.now c.args.two.now [] c.loop-entry.entry-index t e c.loop-entry-test.true c.entry-item.is) pushed);
      few = omega (arith, c.lines_for-taken.ensures.few, c.loop-entry.invariant.few);
    }

pub returns : goal.returns
returns c =
    all c.loop-entry.words.items _ _ c.loop-entry.invariant.words
    (words-end c.args.part.now c.args.one.now c.args.two.now [] c.loop-entry.entry-index c.loop-entry.taken c.loop-entry-test.false)
