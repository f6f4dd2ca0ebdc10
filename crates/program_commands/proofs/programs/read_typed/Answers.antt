use Rattle.std.proofs.Common.{[], ◌∷◌}
use Rattle.program_trees.specs.TypedPrograms.{typed_program_tree}
use Rattle.program_commands.proofs.Judged.{as_lent}
use Rattle.program_commands.proofs.OfTexts.{found_of_file, gives_of_file, own_names, own_reading, unread_gives, unread_on}
use Rattle.program_commands.proofs.programs.read_typed.Goals as goal

pub returns-in_err-bytes-clause-answer : goal.returns-in_err-bytes-clause-answer
returns-in_err-bytes-clause-answer g c = λ found h.
    unread_gives typed_program_tree (g.F.Files.state c.args.files.now) (g.F.Files.state c.read_file.new.files) c.args.path.now _ c.from_residual.result found
    c.from_residual.ensures.1 c.in_err-bytes.ensures.answer

pub returns-in_err-bytes-clause-found : goal.returns-in_err-bytes-clause-found
returns-in_err-bytes-clause-found g c = λ t tells.
    unread_on (g.F.Files.state c.args.files.now) (g.F.Files.state c.read_file.new.files) c.args.path.now _ c.from_residual.result c.from_residual.ensures.1
    c.in_err-bytes.ensures.answer t tells

pub returns-clause-anyhow : goal.returns-clause-anyhow
returns-clause-anyhow g c =
    own_reading (g.F.Files.state c.args.files.now) (g.F.Files.state c.read_file.new.files) c.typed_of_text.result c.typed_of_text.ensures.own

pub returns-clause-answer : goal.returns-clause-answer
returns-clause-answer g c =
    gives_of_file (g.F.Files.state c.args.files.now) (g.F.Files.state c.read_file.new.files) c.args.path.now c.deref.result.now
    (λ t. as_lent (g.F.Files.state c.args.files.now).contents c.args.path.now _ c.deref.result.now (c.in_ok-bytes.ensures.answer t) c.deref.ensures.value)
    typed_program_tree c.typed_of_text.result c.typed_of_text.ensures.answer c.typed_of_text.ensures.own

pub returns-clause-found : goal.returns-clause-found
returns-clause-found g c =
    found_of_file (g.F.Files.state c.args.files.now) (g.F.Files.state c.read_file.new.files) c.args.path.now c.deref.result.now
    (λ t. as_lent (g.F.Files.state c.args.files.now).contents c.args.path.now _ c.deref.result.now (c.in_ok-bytes.ensures.answer t) c.deref.ensures.value)
    c.typed_of_text.result c.typed_of_text.ensures.own c.typed_of_text.ensures.found

pub returns-clause-names : goal.returns-clause-names
returns-clause-names g c = own_names (c.args.path.now ∷ []) c.typed_of_text.result c.typed_of_text.ensures.own
