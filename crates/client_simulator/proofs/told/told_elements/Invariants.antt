use Rattle.std.proofs.Common.{◌≡◌, map, take}
use Rattle.language_model.specs.Values.{element_as}
use Rattle.client_simulator.proofs.told.told_elements.Given as goal

abbrev pub invariant-loop-word : goal.invariant-loop-word
invariant-loop-word l = l.told ≡ map (element_as l.kind) (take l.word-index l.words)
