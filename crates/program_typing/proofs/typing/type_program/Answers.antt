use Rattle.program_trees.specs.Programs.{program_tree}
use Rattle.domain_types.proofs.TypingPrograms.{typed_is_accepted}
use Rattle.program_typing.proofs.typing.type_program.Goals as goal

pub checked_tree-requires : goal.checked_tree-requires
checked_tree-requires c = typed_is_accepted (program_tree c.args.program.now) c.in_ok-check.ensures.0
