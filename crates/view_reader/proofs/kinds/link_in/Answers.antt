use Rattle.view_reader.proofs.Limits.{link_found}
use Rattle.view_reader.proofs.kinds.link_in.Goals as goal

pub returns : goal.returns
returns c = link_found c.from_text.result c.args.word.now c.from_text.ensures.found c.from_text.ensures.none
