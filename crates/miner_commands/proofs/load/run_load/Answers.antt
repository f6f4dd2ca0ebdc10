use Rattle.std.proofs.Common.{sym, ◌∙◌, subst}
use Rattle.input_share.specs.AddUp.{HasWords}
use Rattle.std.specs.Prelude.{All}
use Rattle.program_trees.specs.TypedPrograms.{typed_program_tree}
use Rattle.miner_commands.proofs.LoadRuns.{have_words, load_is_typed, load_stops_on, never_refused, run_of_load}
use Rattle.miner_commands.proofs.load.run_load.Goals as goal

pub returns-in_err-program-clause-memory : goal.returns-in_err-program-clause-memory
returns-in_err-program-clause-memory c =
    load_stops_on typed_program_tree c.as_bytes.result.now (c.as_bytes.ensures.value ∙ c.requires.program) _ c.in_err-program.ensures.answer
    c.from_residual.result c.from_residual.ensures.1

pub returns-in-Ok-clause-run : goal.returns-in-Ok-clause-run
returns-in-Ok-clause-run c =
    run_of_load (typed_program_tree c.in_ok-program.program) c.args.load.inputs c.args.load.tapes c.in-Ok.ran
    (load_is_typed typed_program_tree c.as_bytes.result.now (c.as_bytes.ensures.value ∙ c.requires.program) c.in_ok-program.program
    c.in_ok-program.ensures.answer)
    c.in-Ok.ensures

pub unreachable-requires : goal.unreachable-requires
unreachable-requires c =
    let entries = c.args.load.inputs in
    let tapes = c.args.load.tapes in
    let have = have_words entries tapes c.requires.inputs (subst (All HasWords) c.entries.ensures c.see_entries.ensures)
    c.see_tapes.ensures.words in
    let is = never_refused (typed_program_tree c.in_ok-program.program) entries tapes c.in_ok-program.ensures.accepted have c.in-Err-EmptyLink.field-0
    c.in-Err-EmptyLink.ensures in
    absurd (let wrong = sym c.in-Err-EmptyLink.field-0-is ∙ is in cc)

pub unreachable-requires-in-Err-Stalled : goal.unreachable-requires-in-Err-Stalled
unreachable-requires-in-Err-Stalled c =
    let entries = c.args.load.inputs in
    let tapes = c.args.load.tapes in
    let have = have_words entries tapes c.requires.inputs (subst (All HasWords) c.entries.ensures c.see_entries.ensures)
    c.see_tapes.ensures.words in
    let is = never_refused (typed_program_tree c.in_ok-program.program) entries tapes c.in_ok-program.ensures.accepted have c.in-Err-Stalled.field-0
    c.in-Err-Stalled.ensures in
    absurd (let wrong = sym c.in-Err-Stalled.field-0-is ∙ is in cc)
