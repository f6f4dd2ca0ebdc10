use Rattle.expression_parser.specs.Given.{tree_of}
use Rattle.expression_parser.proofs.Told.{told}
use Rattle.expression_parser.proofs.parse.expression.Goals as goal

pub returns-clause-answer : goal.returns-clause-answer
returns-clause-answer c ended =
    told (λ x. (tree_of x.0, x.1.now)) c.args.max_height c.args.tokens.now c.operators.result c.operators.ensures.step ended
