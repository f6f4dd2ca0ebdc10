use Rattle.std.proofs.Common.{◌≡◌, ◌+◌, ◌*◌, take}
use Rattle.std.specs.Prelude.{map}
use Rattle.program_trees.specs.TypedTree.{typed_tree, typed_trees_of}
use Rattle.code_model.specs.Kinds.{depths}
use Rattle.code_model.proofs.Widths.{width, widths}
use Rattle.lowered_expressions.proofs.rows.+depths.Given as goal

abbrev pub decreases-depth : goal.decreases-depth
decreases-depth l = 4 * width (typed_tree l.e.now)

abbrev pub decreases-depth_of_two : goal.decreases-depth_of_two
decreases-depth_of_two l = 4 * (width (typed_tree l.a.now) + width (typed_tree l.b.now)) + 1

abbrev pub decreases-depths : goal.decreases-depths
decreases-depths l = 4 * widths (typed_trees_of (map typed_tree l.list.now.items)) + 1

abbrev pub invariant-depths-loop-e : goal.invariant-depths-loop-e
invariant-depths-loop-e l = record {
  before : l.before ≡ l.e-index;
  rows : l.rows ≡ depths (typed_trees_of (map typed_tree (take l.e-index l.e-items)));
}
