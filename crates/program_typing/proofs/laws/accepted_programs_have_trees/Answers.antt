use Rattle.program_typing.proofs.TreesOfPrograms.{typed_has_tree}
use Rattle.program_typing.proofs.laws.accepted_programs_have_trees.Goals as goal

pub returns : goal.returns
returns c = λ p t. typed_has_tree p t
