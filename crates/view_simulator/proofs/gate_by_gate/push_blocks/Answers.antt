use Rattle.std.proofs.Common.{◌++◌, ◌∙◌, ap, append_assoc}
use Rattle.std.specs.List.{repeat}
use Rattle.view_simulator.proofs.Links.{repeat-end}
use Rattle.view_simulator.proofs.gate_by_gate.push_blocks.Goals as goal

pub loop-done-preserved : goal.loop-done-preserved
loop-done-preserved c =
    let before = c.args.script.now.items in
    let block = c.args.block.now in
    c.in_ok-extend_from_slice.ensures.items
    ∙ ap (λ moves. moves ++ block) c.loop-done.invariant
    ∙ append_assoc before (repeat c.loop-done._done block) block
    ∙ ap (λ moves. before ++ moves) (repeat-end c.loop-done._done block)
