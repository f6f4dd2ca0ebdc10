use Rattle.std.proofs.Common.{◌≡◌, ◌≤◌, ◌+◌, ◌++◌, length, drop}
use Rattle.input_share.specs.Dealing.{need_of, dealt_entries}
use Rattle.input_share.proofs.dealing.dealt_entries.Given as goal

abbrev pub invariant-loop-entry : goal.invariant-loop-entry
invariant-loop-entry l = record {
  dealt : l.mine.items ++ dealt_entries l.fn.miner (drop l.entry-index l.entries) (drop l.drawn l.words)
      ≡ dealt_entries l.fn.miner l.entries l.words;
  enough : l.drawn + need_of (drop l.entry-index l.entries) ≤ length l.words;
}
