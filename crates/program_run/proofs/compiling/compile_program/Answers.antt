use Rattle.std.proofs.Common.{◌≡◌, Some, None, subst, sym, ◌∙◌, ap}
use Rattle.program_trees.specs.TypedPrograms.{typed_program_tree}
use Rattle.verified_code.specs.Verified.{first_fault}
use Rattle.written_code.specs.RawCodes.{raw_code_of_program}
use Rattle.written_code.proofs.Verified.{accepted_runs}
use Rattle.lowering.specs.Narrow.{IsJustRefusal}
use Rattle.written_code.proofs.Programs.{accepted_writable}
use Rattle.program_run.proofs.compiling.compile_program.Goals as goal

pub unreachable-requires : goal.unreachable-requires
unreachable-requires c =
    let a = c.requires in
    let p = typed_program_tree c.args.program.now in
    let is = c.in_ok-instances.instances in
    subst (λ e. IsJustRefusal e (raw_code_of_program p is)) c.in-Err-TooLarge.field-0-is c.in-Err-TooLarge.ensures.refused
    (accepted_writable a.source a.typed a.written a.placed p a.of is c.in_ok-instances.ensures.list a.within)

pub unreachable-requires-in-Err : goal.unreachable-requires-in-Err
unreachable-requires-in-Err c =
    let a = c.requires in
    let p = typed_program_tree c.args.program.now in
    let is = c.in_ok-instances.instances in
    let verified = (accepted_runs a.source a.typed a.written p a.of is c.in_ok-instances.ensures.list a.within).0 in
    let wrong : Some c.in-Err.field-0.1 ≡ None = sym c.in-Err.ensures.1 ∙ ap first_fault c.in-Ok.ensures.code ∙ verified in
    absurd cc
