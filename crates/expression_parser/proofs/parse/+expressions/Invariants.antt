use Rattle.std.proofs.Common.{◌≡◌, ◌+◌, ◌-◌, ◌<◌, ◌≤◌, length, ℕ, ◌*◌}
use Rattle.expression_parser.specs.Steps.{more, grow, at_most, front}
use Rattle.expression_parser.specs.Given.{tree_of, tree_height, list_of, trees_height}
use Rattle.expression_parser.proofs.parse.+expressions.Given as goal

-- The height that is left decreases with each node; between two nodes the order of the functions does.
abbrev pub decreases-operators : goal.decreases-operators
decreases-operators l = 16 * l.max_height + (l.level + 6)

abbrev pub decreases-grow : goal.decreases-grow
decreases-grow l = 16 * l.max_height + 6

abbrev pub decreases-unary : goal.decreases-unary
decreases-unary l = 16 * l.max_height + 5

abbrev pub decreases-negation : goal.decreases-negation
decreases-negation l = 16 * l.max_height + 4

abbrev pub decreases-cast : goal.decreases-cast
decreases-cast l = 16 * l.max_height + 4

abbrev pub decreases-postfix : goal.decreases-postfix
decreases-postfix l = 16 * l.max_height + 4

abbrev pub decreases-primary : goal.decreases-primary
decreases-primary l = 16 * l.max_height + 3

abbrev pub decreases-signed : goal.decreases-signed
decreases-signed l = 16 * l.max_height + 2

abbrev pub decreases-parentheses : goal.decreases-parentheses
decreases-parentheses l = 16 * l.max_height + 1

abbrev pub decreases-declassify : goal.decreases-declassify
decreases-declassify l = 16 * l.max_height + 1

abbrev pub decreases-publish : goal.decreases-publish
decreases-publish l = 16 * l.max_height + 1

abbrev pub decreases-after_name : goal.decreases-after_name
decreases-after_name l = 16 * l.max_height + 2

abbrev pub decreases-arguments : goal.decreases-arguments
decreases-arguments l = 16 * l.max_height + 1

abbrev pub decreases-more : goal.decreases-more
decreases-more l = 16 * l.max_height

abbrev pub invariant-grow-loop-token : goal.invariant-grow-loop-token
invariant-grow-loop-token l = record {
  height : (l.left.height ≡ tree_height l.left) × (l.left.height ≤ l.max_height);
  shorter : length l.rest ≤ length l.tokens;
  step : (n : ℕ) × (length l.rest ≤ n)
      × (grow l.level l.max_height (at_most (l.max_height - 1) (l.level - 1)) (length l.tokens) (tree_of l.fn.left) l.tokens
      ≡ grow l.level l.max_height (at_most (l.max_height - 1) (l.level - 1)) n (tree_of l.left) l.rest);
}

abbrev pub decreases-grow-loop-token : goal.decreases-grow-loop-token
decreases-grow-loop-token l = length l.rest

abbrev pub invariant-more-loop-token : goal.invariant-more-loop-token
invariant-more-loop-token l = record {
  height : (l.found.height ≡ trees_height l.found) × (l.found.height < l.max_height);
  shorter : length l.rest ≤ length l.tokens;
  step : (n : ℕ) × (length l.rest ≤ n)
      × (front (list_of l.fn.found) (more (at_most (l.max_height - 1) 9) (length l.tokens) l.tokens)
      ≡ front (list_of l.found) (more (at_most (l.max_height - 1) 9) n l.rest));
}

abbrev pub decreases-more-loop-token : goal.decreases-more-loop-token
decreases-more-loop-token l = length l.rest
