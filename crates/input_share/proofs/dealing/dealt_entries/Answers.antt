use Rattle.std.proofs.Common.{◌∷◌, [], ◌++◌, arith, ap, ◌∙◌}
use Rattle.input_share.specs.declared.entry.ShareEntry.{ShareEntry}
use Rattle.input_share.proofs.Steps.{dealt_entries-drop, dealt_entries-end, need_of-drop, rest_taken, more, all}
use Rattle.input_share.proofs.dealing.dealt_entries.Goals as goal

pub loop-entry-preserved : goal.loop-entry-preserved
loop-entry-preserved c =
    let next = need_of-drop c.args.entries.now c.loop-entry.entry-index c.entry-item.result c.loop-entry-test.true c.entry-item.is in
    let added = rw (rest_taken c.args.words.now c.loop-entry.drawn) at c.in_ok-dealt_entry.ensures in
    record {
      dealt = rw (c.draws.ensures)
          (more c.loop-entry.mine.items _ _ _ _ _ c.loop-entry.invariant.dealt
          (dealt_entries-drop c.args.miner c.args.entries.now c.args.words.now c.loop-entry.entry-index c.loop-entry.drawn c.entry-item.result
          c.loop-entry-test.true c.entry-item.is)
          (c.in_ok-push.ensures.items ∙ ap (λ (e : ShareEntry). c.loop-entry.mine.items ++ e ∷ []) added));
      enough = omega arith;
    }

pub returns : goal.returns
returns c =
    all c.loop-entry.mine.items _ _ c.loop-entry.invariant.dealt
    (dealt_entries-end c.args.miner c.args.entries.now _ c.loop-entry.entry-index c.loop-entry-test.false)
