use Rattle.std.proofs.Common.{◌≡◌, map, take, Some}
use Rattle.view_text.specs.Reading.{word_in, all_in}
use Rattle.view_reader.proofs.words.words_in.Given as goal

abbrev pub invariant-loop-part : goal.invariant-loop-part
invariant-loop-part l = all_in word_in (map (λ part. part.now) (take l.part-index l.parts)) ≡ Some l.words.items
