-- Cited by private functions alone: no contract of another crate rests on it.
-- What the parser's own values in memory are as values.
use Rattle.std.specs.Prelude.{◌≡◌, ◌<◌, ℕ, List, length, Result, Ok, Err, Option}
use Rattle.secrec_lexer.specs.declared.token.Token.{Token}
use Rattle.program_trees.specs.Statements.{StartTree, StepTree, assignment_tree, optional, start_tree, step_tree}
use Rattle.program_trees.specs.Tree.{Tree, expression}
use Rattle.expression_parser.specs.declared.stopped.Stopped.{Stopped}
use Rattle.expression_parser.specs.declared.stopped.Stopped.TheVariants.{Memory, At}
use Rattle.expression_parser.specs.Steps.{Outcome}
use Rattle.secrec_parser.specs.declared.simple.Heading.{Heading}
use Rattle.secrec_parser.specs.declared.assignment.Action.{Action}
use Rattle.secrec_parser.specs.declared.assignment.Action.TheVariants as actions
use Rattle.secrec_parser.specs.inner.Steps.{ActionTree, assigns, evaluates}

abbrev pub action_tree : Action → ActionTree
action_tree (actions.Assignment a) = assigns (assignment_tree a)
action_tree (actions.Expression e) = evaluates (expression e)

abbrev pub heading_parts : Heading → StartTree × Option Tree × StepTree
heading_parts f = (start_tree f.start, optional f.test, step_tree f.step)

-- What a function of the parser returned, seen by `view`, is what the step gives, and leaves fewer than n tokens; unless memory
-- ran out.
abbrev pub Takes : {X Y : Type 0} → (X → Y × List Token) → Result X Stopped → Outcome Y → ℕ → Type 0
Takes view (Ok x) step n = (step ≡ Ok (view x)) × (length (view x).1 < n)
Takes view (Err Memory) step n = Unit {0}
Takes view (Err (At p rest)) step n = step ≡ Err (p, rest.now)
