use Rattle.std.proofs.Common.{◌≡◌, ◌≤◌, ◌*◌, ◌^◌, take}
use Rattle.input_share.specs.Dealing.{need_of}
use Rattle.input_share.proofs.dealing.need.Given as goal

abbrev pub invariant-loop-entry : goal.invariant-loop-entry
invariant-loop-entry l = record {
  sum : l.need ≡ need_of (take l.entry-index l.entries);
  bounded : l.need ≤ l.entry-index * 2 ^ 64;
}
