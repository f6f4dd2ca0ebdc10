use Rattle.std.proofs.Common.{rules}
use Rattle.view_reader.proofs.Collected.{parts_more, parts_none}
use Rattle.view_text.specs.Reading.{word_in}
use Rattle.view_reader.proofs.words.words_in.Goals as goal

pub returns-in-None : goal.returns-in-None
returns-in-None c = search (rules, parts_none word_in)

pub loop-part-preserved : goal.loop-part-preserved
loop-part-preserved c = search (rules, parts_more word_in)
