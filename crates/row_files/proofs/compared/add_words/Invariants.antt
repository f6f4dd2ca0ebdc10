use Rattle.std.proofs.Common.{◌≡◌, ◌++◌, map, take, string_bytes}
use Rattle.std.specs.List.{flat_map}
use Rattle.row_files.specs.Calls.{word_told}
use Rattle.row_files.proofs.compared.add_words.Given as goal

abbrev pub invariant-loop-word : goal.invariant-loop-word
invariant-loop-word l =
    string_bytes l.line ≡ string_bytes l.initial.line ++ flat_map word_told (map string_bytes (take l.word-index l.words))
