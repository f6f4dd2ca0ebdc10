use Rattle.std.proofs.Common.{◌∷◌, [], ◌++◌, ◌∙◌, List, ℕ, ap, drop, arith}
use Rattle.value_file.specs.declared.inputs.Entry.{Entry}
use Rattle.input_share.proofs.Steps.{more, all}
use Rattle.found_inputs.specs.Found.{words_first}
use Rattle.found_inputs.specs.Sums.{entry_of}
use Rattle.found_data.proofs.Walks.{entries-drop, entries-end}
use Rattle.found_data.proofs.inputs.found_inputs.Goals as goal

pub loop-entry-preserved : goal.loop-entry-preserved
loop-entry-preserved c =
    let e = c.entry-item.result in
    let t = c.loop-entry.taken in
    let one = words_first (drop t c.args.one.now) in
    let two = words_first (drop t c.args.two.now) in
    let three = words_first (drop t c.args.three.now) in
    let found =
    c.in_ok-entry_of.ensures
    ∙ ap (λ (ws : List ℕ). entry_of e.name e.value ws c.words_at-second.result.now c.words_at.result.now) c.words_at-first.ensures
    ∙ ap (λ (ws : List ℕ). entry_of e.name e.value one ws c.words_at.result.now) c.words_at-second.ensures
    ∙ ap (λ (ws : List ℕ). entry_of e.name e.value one two ws) c.words_at.ensures in
    record {
      entries = rw c.lines_for.ensures.lines
          (more c.loop-entry.found.items _ _ _ _ _ c.loop-entry.invariant.entries
          (entries-drop c.args.part.now c.args.one.now c.args.two.now c.args.three.now c.loop-entry.entry-index t e c.loop-entry-test.true c.entry-item.is)
          (c.in_ok-push.ensures.items ∙ ap (λ (x : Entry). c.loop-entry.found.items ++ x ∷ []) found));
      few = omega (arith, c.lines_for.ensures.few, c.loop-entry.invariant.few);
    }

pub returns : goal.returns
returns c =
    c.new.ensures
    ∙ all c.loop-entry.found.items _ _ c.loop-entry.invariant.entries
    (entries-end c.args.part.now c.args.one.now c.args.two.now c.args.three.now c.loop-entry.entry-index c.loop-entry.taken c.loop-entry-test.false)
