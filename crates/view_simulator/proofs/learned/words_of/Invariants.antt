use Rattle.std.proofs.Common.{◌≡◌, map, take}
use Rattle.sc_text.specs.Elements.{element_word}
use Rattle.view_simulator.proofs.learned.words_of.Given as goal

abbrev pub invariant-loop-element : goal.invariant-loop-element
invariant-loop-element l = l.words.items ≡ map element_word (take l.element-index l.elements)
