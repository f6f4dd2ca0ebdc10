-- A target is as high as the expression that it was read as.
use Rattle.std.proofs.Common.{sym, ◌∙◌}
use Rattle.program_trees.specs.Tree.{expression}
use Rattle.program_trees.specs.Statements.{target_tree}
use Rattle.secrec_parser.proofs.Targets.{target_of_height}
use Rattle.secrec_parser.proofs.assignment.assignment_or_expression.Goals as goal

pub assigned-requires : goal.assigned-requires
assigned-requires c =
    c.in_ok-parsed.ensures.height.0
    ∙ sym (target_of_height (expression c.in_ok-parsed.parsed.tree) (target_tree c.in-Some.target) (sym c.in-Some.ensures))
