use Rattle.std.proofs.Common.{◌≡◌, None, Err}
use Rattle.program_trees.specs.Programs.{program_tree}
use Rattle.name_resolution.specs.Answer.{Answers}
use Rattle.program_trees.specs.TypedPrograms.{typed_program_tree}
use Rattle.domain_types.proofs.TypingPrograms.{accepted_is_typed}
use Rattle.name_resolution.specs.Functions.{typed_of}
use Rattle.program_typing.proofs.TreesOfPrograms.{typed_has_tree}
use Rattle.program_typing.proofs.typing.checked_tree.Goals as goal

pub unreachable-requires : goal.unreachable-requires
unreachable-requires c =
    let p = program_tree c.args.program.now in
    let answered : Answers typed_program_tree (Err c.in-Err-Unresolved.field-0) (typed_of p) = c.in-Err-Unresolved.ensures.exact in
    let unresolved = rw c.in-Err-Unresolved.field-0-is at answered in
    let none : typed_of p ≡ None = unresolved in
    let there = (typed_has_tree p (accepted_is_typed p c.requires)).1 in
    cc
