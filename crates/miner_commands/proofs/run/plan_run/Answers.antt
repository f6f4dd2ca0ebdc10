use Rattle.std.proofs.Common.{◌∷◌, ◌++◌}
use Rattle.command_frame.specs.Answer.{effect_of}
use Rattle.command_words.specs.Views.{run_ask}
use Rattle.program_trees.specs.TypedPrograms.{typed_program_tree}
use Rattle.viewed_run.specs.Deliveries.{delivery_seen}
use Rattle.command_frame.proofs.Naming.{names_later}
use Rattle.command_frame.proofs.ReadStops.{gives_anyhow, read_on}
use Rattle.program_commands.specs.Reading.{order_paths, source_paths}
use Rattle.program_commands.proofs.Exits.{first_in, named_behind, second_in, stopped, stopped_at, tapes_named}
use Rattle.program_commands.proofs.Planned.{at_path}
use Rattle.miner_commands.specs.Run.{run_paths}
use Rattle.miner_commands.proofs.Answered.{run_gives, run_names}
use Rattle.miner_commands.proofs.Drawn.{stays_open}
use Rattle.miner_commands.proofs.run.plan_run.Goals as goal

pub run_opened-requires-clause-open : goal.run_opened-requires-clause-open
run_opened-requires-clause-open g c =
    let files = g.F.Files.state in
    let order = c.in_ok-delivery.ensures in
    stays_open (files c.open_tapes.new.files) (files c.read_delivery.new.files) c.in_ok-tapes.tapes order.files order.sizes c.in_ok-tapes.ensures.opened

pub returns-clause-answer : goal.returns-clause-answer
returns-clause-answer g c = λ found h.
    let files = g.F.Files.state in
    let p = typed_program_tree c.in_ok-program.program in
    let ask = run_ask c.args.words.now in
    let f = files c.args.files.now in
    run_gives f (files c.read_typed.new.files) (files c.read_inputs.new.files) (files c.open_tapes.new.files) (files c.read_delivery.new.files)
    c.in_ok-program.ensures.files c.in_ok-inputs.ensures.files c.in_ok-tapes.ensures.files c.in_ok-delivery.ensures.files found ask p
    c.in_ok-inputs.inputs c.in_ok-tapes.tapes (delivery_seen c.in_ok-delivery.delivery)
    (at_path c.deref.result.now ask.program c.deref.ensures f p c.in_ok-program.ensures.answer found h)
    c.deref-2.result.now c.deref-2.ensures c.in_ok-inputs.ensures.answer c.in_ok-tapes.ensures.answer c.in_ok-delivery.ensures.answer
    (files c.run_opened.new.files) c.run_opened.result c.run_opened.ensures.answer

pub returns-clause-anyhow : goal.returns-clause-anyhow
returns-clause-anyhow g c =
    let files = g.F.Files.state in
    let f = files c.args.files.now in
    let to_second = read_on f (files c.read_typed.new.files) (files c.read_inputs.new.files) c.in_ok-program.ensures.files c.in_ok-inputs.ensures.files in
    let to_third = read_on f (files c.read_inputs.new.files) (files c.open_tapes.new.files) to_second c.in_ok-tapes.ensures.files in
    let to_fourth = read_on f (files c.open_tapes.new.files) (files c.read_delivery.new.files) to_third c.in_ok-delivery.ensures.files in
    gives_anyhow effect_of f (files c.read_delivery.new.files) (files c.run_opened.new.files) _ c.run_opened.result to_fourth c.run_opened.ensures.answer

pub returns-in_err-program-clause-names : goal.returns-in_err-program-clause-names
unfolding run_paths
returns-in_err-program-clause-names g c =
    let ask = run_ask c.args.words.now in
    stopped_at _ _ _ _ _ c.from_residual.result c.from_residual.ensures.1 c.in_err-program.ensures.names
    c.deref.ensures (first_in ask.program (ask.input ∷ (source_paths ask.source ++ order_paths ask.order)))

pub returns-in_err-inputs-clause-names : goal.returns-in_err-inputs-clause-names
unfolding run_paths
returns-in_err-inputs-clause-names g c =
    let ask = run_ask c.args.words.now in
    stopped_at _ _ _ _ _ c.from_residual-in_err-inputs.result c.from_residual-in_err-inputs.ensures.1 c.in_err-inputs.ensures.names
    c.deref-2.ensures (second_in ask.program ask.input (source_paths ask.source ++ order_paths ask.order))

pub returns-in_err-tapes-clause-names : goal.returns-in_err-tapes-clause-names
unfolding run_paths
returns-in_err-tapes-clause-names g c =
    let ask = run_ask c.args.words.now in
    stopped _ _ _ c.from_residual-in_err-tapes.result c.from_residual-in_err-tapes.ensures.1
    (names_later _ _ _ (names_later _ _ _ (tapes_named ask.source (order_paths ask.order) _ c.in_err-tapes.ensures.names)))

pub returns-in_err-delivery-clause-names : goal.returns-in_err-delivery-clause-names
unfolding run_paths
returns-in_err-delivery-clause-names g c =
    let ask = run_ask c.args.words.now in
    stopped _ _ _ c.from_residual-in_err-delivery.result c.from_residual-in_err-delivery.ensures.1
    (names_later _ _ _ (names_later _ _ _ (named_behind ask.source (order_paths ask.order) _ c.in_err-delivery.ensures.names)))

pub returns-clause-names : goal.returns-clause-names
returns-clause-names g c =
    run_names (run_ask c.args.words.now) _ _ c.run_opened.result c.in_ok-tapes.ensures.paths c.run_opened.ensures.names
