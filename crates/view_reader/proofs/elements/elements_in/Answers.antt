use Rattle.std.proofs.Common.{rules}
use Rattle.view_reader.proofs.Collected.{parts_more, parts_none}
use Rattle.view_text.specs.Reading.{element_in}
use Rattle.view_reader.proofs.elements.elements_in.Goals as goal

pub returns-in-None : goal.returns-in-None
returns-in-None c = search (rules, parts_none element_in)

pub loop-part-preserved : goal.loop-part-preserved
loop-part-preserved c = search (rules, parts_more element_in)
