use Rattle.std.proofs.Common.{refl, ap, Err}
use Rattle.outside.specs.Files.{file_at}
use Rattle.miner_commands.proofs.Opened.{bad_file, failed_file, open_so, opened_so}
use Rattle.miner_commands.proofs.tapes.open_file.Goals as goal

pub returns-in-Ok-clause-answer : goal.returns-in-Ok-clause-answer
returns-in-Ok-clause-answer g c = λ told.
    let f = g.F.Files.state c.args.files.now in
    opened_so f.contents c.args.path.now (file_at f.contents c.args.path.now) c.in-Ok.lengths refl (c.in-Ok.ensures.reads told)

pub returns-in-Ok-clause-opened : goal.returns-in-Ok-clause-opened
returns-in-Ok-clause-opened g c =
    let f = g.F.Files.state c.args.files.now in
    let h = c.in-Ok.ensures in
    open_so f (g.F.Files.state c.read_lengths.new.files) c.args.path.now c.in-Ok.lengths h.only h.sized h.reads

pub returns-in-Err-BadTape-clause-answer : goal.returns-in-Err-BadTape-clause-answer
returns-in-Err-BadTape-clause-answer g c =
    let h = c.in-Err-BadTape.ensures in
    bad_file (g.F.Files.state c.args.files.now) (g.F.Files.state c.read_lengths.new.files) c.args.path.now
    (Err c.in-Err-BadTape.field-0) c.in-Err-BadTape.place (ap Err c.in-Err-BadTape.field-0-is) c.tape_stop.result c.tape_stop.ensures h.reads

pub returns-in-Err-Failed-clause-answer : goal.returns-in-Err-Failed-clause-answer
returns-in-Err-Failed-clause-answer g c =
    let h = c.in-Err-Failed.ensures in
    failed_file (g.F.Files.state c.args.files.now) (g.F.Files.state c.read_lengths.new.files) c.args.path.now
    (Err c.in-Err-Failed.field-0) (ap Err c.in-Err-Failed.field-0-is) c.file_stop.result c.file_stop.ensures h.cause h.steady
