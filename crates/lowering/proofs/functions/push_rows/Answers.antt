use Rattle.std.proofs.Common.{List, ◌++◌, ap, ◌∙◌}
use Rattle.bytecode.specs.declared.kind.Kind.{Kind}
use Rattle.std.proofs.Common.{true, false}
use Rattle.code_model.specs.Kinds.{shape_kinds}
use Rattle.lowering.proofs.Bodies.{rows_pushed}
use Rattle.lowering.proofs.functions.push_rows.Goals as goal

pub loop-row-preserved : goal.loop-row-preserved
loop-row-preserved c =
    c.in_ok-push_shapes-2.ensures
    ∙ ap (λ (z : List Kind). z ++ shape_kinds true) (c.in_ok-push_shapes.ensures
    ∙ ap (λ (z : List Kind). z ++ shape_kinds false) c.loop-row.invariant)
    ∙ rows_pushed c.args.registers.now.items c.loop-row.row
