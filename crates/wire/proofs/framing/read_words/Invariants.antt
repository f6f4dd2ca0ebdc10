use Rattle.std.proofs.Common.{◌≡◌}
use Rattle.tape_file.specs.Format.{words_at}
use Rattle.wire.proofs.framing.read_words.Given as goal

abbrev pub invariant-loop-k : goal.invariant-loop-k
invariant-loop-k l = l.msg ≡ words_at 0 l.k l.bytes
