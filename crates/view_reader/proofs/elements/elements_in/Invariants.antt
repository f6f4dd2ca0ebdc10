use Rattle.std.proofs.Common.{◌≡◌, map, take, Some}
use Rattle.view_text.specs.Reading.{element_in, all_in}
use Rattle.view_reader.proofs.elements.elements_in.Given as goal

abbrev pub invariant-loop-part : goal.invariant-loop-part
invariant-loop-part l = all_in element_in (map (λ part. part.now) (take l.part-index l.parts)) ≡ Some l.elements.items
