use Rattle.std.proofs.Common.{rules, ◌≡◌, Some}
use Rattle.program_trees.specs.Programs.{program_tree}
use Rattle.program_trees.specs.TypedPrograms.{typed_program_tree}
use Rattle.name_resolution.specs.Functions.{typed_of}
use Rattle.name_resolution.proofs.SoundPrograms.{typed_of_sound}
use Rattle.name_resolution.proofs.program.resolve.Goals as goal

pub returns-clause-sound : goal.returns-clause-sound
returns-clause-sound c =
    let p = program_tree c.args.program.now in
    let t = typed_program_tree (record { functions = c.in_ok-functions.functions }) in
    let exact : typed_of p ≡ Some t = search rules in
    typed_of_sound p t exact
