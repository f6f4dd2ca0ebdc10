use Rattle.written_code.proofs.Saying.{says_what_trees_say}
use Rattle.written_code.proofs.laws.code_says_what_its_trees_say.Goals as goal

pub returns : goal.returns
returns c = says_what_trees_say
