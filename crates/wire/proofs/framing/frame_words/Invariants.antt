use Rattle.std.proofs.Common.{◌≡◌, ◌+◌, ◌*◌, ◌-◌, ◌≤◌, ◌++◌, length, take, vec_len, vec_capacity}
use Rattle.tape_file.specs.Format.{bytes_of}
use Rattle.wire.proofs.framing.frame_words.Given as goal

abbrev pub invariant-loop-word : goal.invariant-loop-word
invariant-loop-word l = record {
  bytes : l.out.items ≡ (l.initial.out.items ++ bytes_of (take l.word-index l.words));
  room : vec_len l.out + 8 * (length l.words - l.word-index) ≤ vec_capacity l.out;
}
