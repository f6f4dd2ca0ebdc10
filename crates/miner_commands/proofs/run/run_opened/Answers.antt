use Rattle.command_words.specs.Views.{run_ask}
use Rattle.outside.specs.Files.{file_at}
use Rattle.tape_file.specs.Seeds.{seed_tapes}
use Rattle.program_trees.specs.TypedPrograms.{typed_program_tree}
use Rattle.viewed_run.specs.Deliveries.{delivery_seen}
use Rattle.miner_commands.specs.Opened.{tapes_in}
use Rattle.miner_commands.proofs.Answered.{course_stops, delivery_stops, planned_gives}
use Rattle.miner_commands.proofs.run.run_opened.Goals as goal

pub returns-in-Ok-clause-answer : goal.returns-in-Ok-clause-answer
returns-in-Ok-clause-answer g c = λ told.
    let job = c.args.job.now in
    let f = g.F.Files.state c.args.files.now in
    rw c.in-File.is
    (planned_gives (run_ask c.args.words.now) (typed_program_tree job.program.now) job.inputs.now
    (tapes_in (file_at f.contents c.in-File.path.now) c.in-File.lengths) (delivery_seen job.delivery.now) c.in-Ok.plan (c.in-Ok.ensures.ran told))

pub returns-in-Err-clause-answer : goal.returns-in-Err-clause-answer
returns-in-Err-clause-answer g c =
    let job = c.args.job.now in
    let f = g.F.Files.state c.args.files.now in
    rw c.in-File.is
    (course_stops (run_ask c.args.words.now) (typed_program_tree job.program.now) job.inputs.now
    (tapes_in (file_at f.contents c.in-File.path.now) c.in-File.lengths) (delivery_seen job.delivery.now) f (g.F.Files.state c.run_filed.new.files)
    c.in-File.path.now c.in-Err.refusal c.course_stop.result c.in-Err.ensures.ran c.in-Err.ensures.fault c.course_stop.ensures)

pub returns-in-Ok-run_seeded-clause-answer : goal.returns-in-Ok-run_seeded-clause-answer
returns-in-Ok-run_seeded-clause-answer g c = λ told.
    let job = c.args.job.now in
    let seed = c.in-Seed.seed in
    rw c.in-Seed.is
    (planned_gives (run_ask c.args.words.now) (typed_program_tree job.program.now) job.inputs.now (seed_tapes seed.seed seed.words)
    (delivery_seen job.delivery.now) c.in-Ok-run_seeded.plan c.in-Ok-run_seeded.ensures.ran)

pub returns-in-Err-run_seeded-clause-answer : goal.returns-in-Err-run_seeded-clause-answer
returns-in-Err-run_seeded-clause-answer g c =
    let job = c.args.job.now in
    let seed = c.in-Seed.seed in
    let f = g.F.Files.state c.args.files.now in
    rw c.in-Seed.is
    (delivery_stops (run_ask c.args.words.now) (typed_program_tree job.program.now) job.inputs.now (seed_tapes seed.seed seed.words)
    (delivery_seen job.delivery.now) f f c.in-Err-run_seeded.refusal c.delivery_stop.result (λ told. c.in-Err-run_seeded.ensures.ran)
    c.delivery_stop.ensures)
