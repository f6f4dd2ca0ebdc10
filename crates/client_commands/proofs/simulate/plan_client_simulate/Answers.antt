use Rattle.std.proofs.Common.{[], ◌∷◌, refl, sym, ◌∙◌, ap}
use Rattle.command_words.specs.Views.{client_simulate_ask}
use Rattle.program_trees.specs.TypedPrograms.{typed_program_tree}
use Rattle.program_commands.specs.Reading.{opened_at, public_at, published_at, tape_file_at}
use Rattle.program_run.proofs.Accepted.{has_instances}
use Rattle.program_commands.proofs.Still.{read_still, still, still_later}
use Rattle.program_commands.proofs.Planned.{at_path, done_with}
use Rattle.program_commands.proofs.Exits.{fifth_in, first_in, fourth_in, second_in, stopped, stopped_at, third_in, unnamed_memory}
use Rattle.client_commands.specs.Simulate.{client_simulate_paths}
use Rattle.client_commands.proofs.SimulatePlanned.{simulate_stop_names, simulated_so, stops}
use Rattle.client_commands.proofs.simulate.plan_client_simulate.Goals as goal

pub simulate-requires-clause-accepted : goal.simulate-requires-clause-accepted
simulate-requires-clause-accepted g c = has_instances (typed_program_tree c.in_ok-program.program) c.in_ok-program.ensures.accepted

pub returns-in-Ok-clause-answer : goal.returns-in-Ok-clause-answer
returns-in-Ok-clause-answer g c = λ found h t.
    let ask = client_simulate_ask c.args.words.now in
    let p = typed_program_tree c.in_ok-program.program in
    let f = g.F.Files.state c.args.files.now in
    let f1 = g.F.Files.state c.read_typed.new.files in
    let f2 = g.F.Files.state c.read_public_file.new.files in
    let f3 = g.F.Files.state c.read_opened_file.new.files in
    let f4 = g.F.Files.state c.read_published_file.new.files in
    let s1 = still f f1 c.in_ok-program.ensures.files in
    let s2 = still_later f f1 f2 s1 c.in_ok-part.ensures.files in
    let s3 = still_later f f2 f3 s2 c.in_ok-opened.ensures.files in
    let s4 = still_later f f3 f4 s3 c.in_ok-published.ensures.files in
    simulated_so found ask f p c.in_ok-part.part c.in_ok-opened.opened.items c.in_ok-published.published.items c.in_ok-tapes.tapes
    (at_path c.deref.result.now ask.program c.deref.ensures f p c.in_ok-program.ensures.answer found h)
    (read_still public_at f f1 s1 c.deref-2.result.now ask.public c.deref-2.ensures c.in_ok-part.part c.in_ok-part.ensures.answer)
    (read_still opened_at f f2 s2 c.deref-3.result.now ask.opened c.deref-3.ensures c.in_ok-opened.opened.items c.in_ok-opened.ensures.answer)
    (read_still published_at f f3 s3 c.deref-4.result.now ask.published c.deref-4.ensures c.in_ok-published.published.items
    c.in_ok-published.ensures.answer)
    (read_still tape_file_at f f4 s4 c.deref-5.result.now ask.sim c.deref-5.ensures c.in_ok-tapes.tapes c.in_ok-tapes.ensures.answer)
    c.deref-6.result.now c.deref-7.result.now c.deref-6.ensures.value c.deref-7.ensures.value c.in-Ok.view c.in-Ok.ensures t
    ∙ ap done_with (sym c.in_ok-simulate_plan-in-Ok.ensures.effect)

pub returns-clause-answer : goal.returns-clause-answer
returns-clause-answer g c = λ found h.
    let ask = client_simulate_ask c.args.words.now in
    let p = typed_program_tree c.in_ok-program.program in
    let f = g.F.Files.state c.args.files.now in
    let f1 = g.F.Files.state c.read_typed.new.files in
    let f2 = g.F.Files.state c.read_public_file.new.files in
    let f3 = g.F.Files.state c.read_opened_file.new.files in
    let f4 = g.F.Files.state c.read_published_file.new.files in
    let s1 = still f f1 c.in_ok-program.ensures.files in
    let s2 = still_later f f1 f2 s1 c.in_ok-part.ensures.files in
    let s3 = still_later f f2 f3 s2 c.in_ok-opened.ensures.files in
    let s4 = still_later f f3 f4 s3 c.in_ok-published.ensures.files in
    stops found ask f p c.in_ok-part.part c.in_ok-opened.opened.items c.in_ok-published.published.items c.in_ok-tapes.tapes
    (at_path c.deref.result.now ask.program c.deref.ensures f p c.in_ok-program.ensures.answer found h)
    (read_still public_at f f1 s1 c.deref-2.result.now ask.public c.deref-2.ensures c.in_ok-part.part c.in_ok-part.ensures.answer)
    (read_still opened_at f f2 s2 c.deref-3.result.now ask.opened c.deref-3.ensures c.in_ok-opened.opened.items c.in_ok-opened.ensures.answer)
    (read_still published_at f f3 s3 c.deref-4.result.now ask.published c.deref-4.ensures c.in_ok-published.published.items
    c.in_ok-published.ensures.answer)
    (read_still tape_file_at f f4 s4 c.deref-5.result.now ask.sim c.deref-5.ensures c.in_ok-tapes.tapes c.in_ok-tapes.ensures.answer)
    c.deref-6.result.now c.deref-7.result.now c.deref-6.ensures.value c.deref-7.ensures.value (g.F.Files.state c.read_tape_file.new.files)
    c.in-Err.refusal c.simulate_stop.result c.in-Err.ensures c.simulate_stop.ensures

pub returns-in_err-program-clause-names : goal.returns-in_err-program-clause-names
unfolding client_simulate_paths
returns-in_err-program-clause-names g c =
    let ask = client_simulate_ask c.args.words.now in
    stopped_at _ _ _ _ _ c.from_residual.result c.from_residual.ensures.1 c.in_err-program.ensures.names
    c.deref.ensures (first_in ask.program (ask.public ∷ ask.opened ∷ ask.published ∷ ask.sim ∷ []))

pub returns-in_err-part-clause-names : goal.returns-in_err-part-clause-names
unfolding client_simulate_paths
returns-in_err-part-clause-names g c =
    let ask = client_simulate_ask c.args.words.now in
    stopped_at _ _ _ _ _ c.from_residual-in_err-part.result c.from_residual-in_err-part.ensures.1 c.in_err-part.ensures.names
    c.deref-2.ensures (second_in ask.program ask.public (ask.opened ∷ ask.published ∷ ask.sim ∷ []))

pub returns-in_err-opened-clause-names : goal.returns-in_err-opened-clause-names
unfolding client_simulate_paths
returns-in_err-opened-clause-names g c =
    let ask = client_simulate_ask c.args.words.now in
    stopped_at _ _ _ _ _ c.from_residual-in_err-opened.result c.from_residual-in_err-opened.ensures.1 c.in_err-opened.ensures.names
    c.deref-3.ensures (third_in ask.program ask.public ask.opened (ask.published ∷ ask.sim ∷ []))

pub returns-in_err-published-clause-names : goal.returns-in_err-published-clause-names
unfolding client_simulate_paths
returns-in_err-published-clause-names g c =
    let ask = client_simulate_ask c.args.words.now in
    stopped_at _ _ _ _ _ c.from_residual-in_err-published.result c.from_residual-in_err-published.ensures.1 c.in_err-published.ensures.names
    c.deref-4.ensures (fourth_in ask.program ask.public ask.opened ask.published (ask.sim ∷ []))

pub returns-in_err-tapes-clause-names : goal.returns-in_err-tapes-clause-names
unfolding client_simulate_paths
returns-in_err-tapes-clause-names g c =
    let ask = client_simulate_ask c.args.words.now in
    stopped_at _ _ _ _ _ c.from_residual-in_err-tapes.result c.from_residual-in_err-tapes.ensures.1 c.in_err-tapes.ensures.names
    c.deref-5.ensures (fifth_in ask.program ask.public ask.opened ask.published ask.sim [])

pub returns-in_err-simulate_plan-in-Ok-clause-names : goal.returns-in_err-simulate_plan-in-Ok-clause-names
returns-in_err-simulate_plan-in-Ok-clause-names g c =
    stopped _ _ _ c.from_residual-in_err-simulate_plan-in-Ok.result c.from_residual-in_err-simulate_plan-in-Ok.ensures.1
    (unnamed_memory _ _ refl)

pub returns-clause-names : goal.returns-clause-names
returns-clause-names g c = simulate_stop_names _ c.in-Err.refusal c.simulate_stop.result c.simulate_stop.ensures
