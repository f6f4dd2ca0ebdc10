use Rattle.std.proofs.Common.{◌≡◌, ◌+◌, ◌*◌, ◌++◌, take}
use Rattle.std.specs.Prelude.{map}
use Rattle.program_trees.specs.TypedTree.{typed_tree, typed_trees_of}
use Rattle.reached_instances.specs.Domains.{domains}
use Rattle.reached_instances.specs.Views.{setting}
use Rattle.code_model.proofs.Widths.{width, widths}
use Rattle.lowered_expressions.specs.inner.Notes.{arguments_notes}
use Rattle.lowered_expressions.proofs.noting.+noting.Given as goal

abbrev pub decreases-note : goal.decreases-note
decreases-note l = 3 * width (typed_tree l.e.now) + 1

abbrev pub decreases-note_operands : goal.decreases-note_operands
decreases-note_operands l = 3 * width (typed_tree l.e.now)

abbrev pub decreases-note_one : goal.decreases-note_one
decreases-note_one l = 3 * width (typed_tree l.x.now) + 2

abbrev pub decreases-note_two : goal.decreases-note_two
decreases-note_two l = 3 * (width (typed_tree l.a.now) + width (typed_tree l.b.now)) + 2

abbrev pub decreases-note_arguments : goal.decreases-note_arguments
decreases-note_arguments l = 3 * widths (typed_trees_of (map typed_tree l.list.now.items)) + 1

abbrev pub invariant-note_arguments-loop-each : goal.invariant-note_arguments-loop-each
invariant-note_arguments-loop-each l = record {
  notes : l.notes.items
      ≡ l.initial.notes.items ++ arguments_notes (setting l.here) (typed_trees_of (map typed_tree (take l.each-index l.each-items)));
  domains : l.domains.items ≡ domains (setting l.here) (typed_trees_of (map typed_tree (take l.each-index l.each-items)));
}
