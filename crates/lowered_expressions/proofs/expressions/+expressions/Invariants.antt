use Rattle.std.proofs.Common.{◌≡◌, ◌+◌, ◌*◌, length, take, drop}
use Rattle.std.specs.Prelude.{map}
use Rattle.program_trees.specs.TypedTree.{typed_tree, typed_trees_of}
use Rattle.code_model.proofs.Widths.{width, widths}
use Rattle.code_model.specs.Expressions.{arguments_code, arguments_places}
use Rattle.lowered_expressions.specs.Built.{with_steps}
use Rattle.lowered_expressions.specs.Views.{built, here_of, numbers_of}
use Rattle.lowered_expressions.specs.inner.Notes.{arguments_notes}
use Rattle.lowered_expressions.proofs.expressions.+expressions.Given as goal

abbrev pub decreases-node : goal.decreases-node
decreases-node l = 4 * width (typed_tree l.e.now)

abbrev pub decreases-expression : goal.decreases-expression
decreases-expression l = 4 * width (typed_tree l.e.now) + 1

abbrev pub decreases-operand : goal.decreases-operand
decreases-operand l = 4 * width (typed_tree l.e.now) + 2

abbrev pub decreases-one : goal.decreases-one
decreases-one l = 4 * width (typed_tree l.x.now) + 2

abbrev pub decreases-element : goal.decreases-element
decreases-element l = 4 * (width (typed_tree l.array.now) + width (typed_tree l.index.now)) + 2

abbrev pub decreases-lookup : goal.decreases-lookup
decreases-lookup l = 4 * (width (typed_tree l.array.now) + width (typed_tree l.index.now)) + 2

abbrev pub decreases-cat : goal.decreases-cat
decreases-cat l = 4 * (width (typed_tree l.a.now) + width (typed_tree l.b.now)) + 3

abbrev pub decreases-binary : goal.decreases-binary
decreases-binary l = 4 * (width (typed_tree l.a.now) + width (typed_tree l.b.now)) + 3

abbrev pub decreases-both : goal.decreases-both
decreases-both l = 4 * width (typed_tree l.b.now) + 2

abbrev pub decreases-cut : goal.decreases-cut
decreases-cut l = 4 * (width (typed_tree l.a.now) + width (typed_tree l.b.now)) + 3

abbrev pub decreases-cut_short : goal.decreases-cut_short
decreases-cut_short l = 4 * width (typed_tree l.b.now) + 2

abbrev pub decreases-read_call : goal.decreases-read_call
decreases-read_call l = 4 * widths (typed_trees_of (map typed_tree l.list.now.items)) + 2

abbrev pub decreases-call : goal.decreases-call
decreases-call l = 4 * widths (typed_trees_of (map typed_tree l.list.now.items)) + 1

abbrev pub decreases-arguments : goal.decreases-arguments
decreases-arguments l = 4 * widths (typed_trees_of (map typed_tree l.list.now.items))

abbrev pub invariant-arguments-loop-e : goal.invariant-arguments-loop-e
invariant-arguments-loop-e l = record {
  rest : l.rest ≡ arguments_notes (here_of l.around) (typed_trees_of (map typed_tree (drop l.e-index l.e-items)));
  count : length l.registers.items ≡ l.e-index;
  row : l.row ≡ l.first + 12 * l.e-index;
  code : built l.body ≡ with_steps (built l.initial.body)
      (arguments_code (numbers_of l.around) (here_of l.around) l.binding l.slots l.first (length (built l.initial.body).pieces)
      (typed_trees_of (map typed_tree (take l.e-index l.e-items))));
  places : l.registers.items ≡ arguments_places (numbers_of l.around) (here_of l.around) l.binding l.slots l.first
      (typed_trees_of (map typed_tree (take l.e-index l.e-items)));
}
