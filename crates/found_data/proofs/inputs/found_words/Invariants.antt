use Rattle.std.proofs.Common.{◌≡◌, ◌≤◌, ◌++◌, drop}
use Rattle.found_inputs.specs.Found.{found_words}
use Rattle.found_data.proofs.inputs.found_words.Given as goal

-- so far the words, in front of those that are left
abbrev pub invariant-loop-entry : goal.invariant-loop-entry
invariant-loop-entry l =
    record {
      words : l.words.items ++ found_words (drop l.entry-index l.part) (drop l.taken l.one) (drop l.taken l.two) ≡ found_words l.part l.one l.two;
      few : l.taken ≤ l.entry-index;
    }
