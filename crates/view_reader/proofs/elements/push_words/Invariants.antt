use Rattle.std.proofs.Common.{◌≡◌, ◌++◌, map, take}
use Rattle.sc_text.specs.Elements.{element_word}
use Rattle.view_reader.proofs.elements.push_words.Given as goal

abbrev pub invariant-loop-element : goal.invariant-loop-element
invariant-loop-element l = l.words.items ≡ l.fn.words.items ++ map element_word (take l.element-index l.elements)
