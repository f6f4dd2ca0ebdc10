use Rattle.std.proofs.Common.{Ok, refl}
use Rattle.command_words.specs.Views.{run_ask}
use Rattle.tape_file.specs.Seeds.{seed_tapes}
use Rattle.tape_sources.specs.Seeded.{seed_state}
use Rattle.program_trees.specs.TypedPrograms.{typed_program_tree}
use Rattle.viewed_run.specs.Deliveries.{delivery_seen}
use Rattle.miner_commands.specs.Run.{HasRan, IsRanOrNot}
use Rattle.miner_commands.proofs.SourceRuns.{never_faults, told_refused, told_so}
use Rattle.miner_commands.proofs.TapeWords.{seed_has_words}
use Rattle.miner_commands.proofs.run.run_seeded.Goals as goal

pub returns-in-Ok-clause-ran : goal.returns-in-Ok-clause-ran
returns-in-Ok-clause-ran c =
    let job = c.args.job.now in
    let seed = c.args.seed in
    told_so job.inputs.now (seed_state c.new-tapes.result) _ refl (seed_tapes seed.seed seed.words) c.new-tapes.ensures (Ok c.in-Ok.plan)
    (λ t. IsRanOrNot (run_ask c.args.words.now) (typed_program_tree job.program.now) job.inputs.now t (delivery_seen job.delivery.now) (Ok c.in-Ok.plan))
    c.in-Ok.ensures.ran (seed_has_words seed.seed seed.words)

pub returns-in-Err-Delivery-clause-ran : goal.returns-in-Err-Delivery-clause-ran
returns-in-Err-Delivery-clause-ran c =
    let job = c.args.job.now in
    let seed = c.args.seed in
    let p = typed_program_tree job.program.now in
    let ask = run_ask c.args.words.now in
    let given = delivery_seen job.delivery.now in
    told_refused job.inputs.now (seed_state c.new-tapes.result) _ refl (seed_tapes seed.seed seed.words) c.new-tapes.ensures p ask.budget given
    (λ t. HasRan ask p job.inputs.now t given) c.in-Err-Delivery.field-0 c.in-Err-Delivery.refusal c.in-Err-Delivery.ensures.ran
    (seed_has_words seed.seed seed.words) c.in-Err-Delivery.field-0-is

pub unreachable-requires : goal.unreachable-requires
unreachable-requires c =
    never_faults c.args.job.now.inputs.now (seed_state c.new-tapes.result) _ refl c.in-Err-TapeFault.field-0 _ c.in-Err-TapeFault.ensures.ran
    c.in-Err-TapeFault.field-0-is
