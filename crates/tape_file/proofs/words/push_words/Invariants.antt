use Rattle.std.proofs.Common.{◌≡◌, ◌++◌, take, All}
use Rattle.tape_file.specs.Format.{bytes_of}
use Rattle.tape_file.specs.Tapes.{IsWord}
use Rattle.tape_file.proofs.words.push_words.Given as goal

abbrev pub invariant-loop-word : goal.invariant-loop-word
invariant-loop-word l = record {
  bytes : l.file.items ≡ l.initial.file.items ++ bytes_of (take l.word-index l.words);
  fits : All IsWord (take l.word-index l.words);
}
