use Rattle.std.proofs.Common.{◌≡◌, ◌++◌}
use Rattle.share_convert.specs.Bits.{bits}
use Rattle.view_simulator.proofs.rows.append_bits.Given as goal

abbrev pub invariant-loop-word : goal.invariant-loop-word
invariant-loop-word l = l.msg ≡ l.fn.msg ++ bits l.word-index l.words
