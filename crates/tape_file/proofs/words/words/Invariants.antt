use Rattle.std.proofs.Common.{◌≡◌}
use Rattle.tape_file.specs.Format.{words_at}
use Rattle.tape_file.proofs.words.words.Given as goal

abbrev pub invariant-loop-k : goal.invariant-loop-k
invariant-loop-k l = l.words.items ≡ words_at l.place l.k l.bytes
