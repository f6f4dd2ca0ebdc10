use Rattle.std.proofs.Common.{[], ◌∷◌, refl, sym, ◌∙◌, ap}
use Rattle.command_words.specs.Views.{client_twin_ask}
use Rattle.program_trees.specs.TypedPrograms.{typed_program_tree}
use Rattle.program_commands.specs.Reading.{inputs_at, tape_file_at}
use Rattle.program_run.proofs.Accepted.{has_instances}
use Rattle.program_commands.proofs.Still.{read_still, still, still_later}
use Rattle.program_commands.proofs.Planned.{at_path, done_with}
use Rattle.program_commands.proofs.Exits.{first_in, fourth_in, second_in, stopped, stopped_at, third_in, unnamed_memory}
use Rattle.client_commands.specs.Twin.{client_twin_paths}
use Rattle.client_commands.proofs.TwinPlanned.{stops, twin_stop_names, twinned_so}
use Rattle.client_commands.proofs.twin.plan_client_twin.Goals as goal

pub twin-requires-clause-accepted : goal.twin-requires-clause-accepted
twin-requires-clause-accepted g c = has_instances (typed_program_tree c.in_ok-program.program) c.in_ok-program.ensures.accepted

pub returns-in-Ok-clause-answer : goal.returns-in-Ok-clause-answer
returns-in-Ok-clause-answer g c = λ found h t.
    let ask = client_twin_ask c.args.words.now in
    let p = typed_program_tree c.in_ok-program.program in
    let f = g.F.Files.state c.args.files.now in
    let f1 = g.F.Files.state c.read_typed.new.files in
    let f2 = g.F.Files.state c.read_inputs.new.files in
    let f3 = g.F.Files.state c.read_inputs-2.new.files in
    let s1 = still f f1 c.in_ok-program.ensures.files in
    let s2 = still_later f f1 f2 s1 c.in_ok-first.ensures.files in
    let s3 = still_later f f2 f3 s2 c.in_ok-second.ensures.files in
    twinned_so found ask f p c.in_ok-first.first c.in_ok-second.second c.in_ok-tapes.tapes
    (at_path c.deref.result.now ask.program c.deref.ensures f p c.in_ok-program.ensures.answer found h)
    (read_still inputs_at f f1 s1 c.deref-2.result.now ask.input c.deref-2.ensures c.in_ok-first.first c.in_ok-first.ensures.answer)
    (read_still inputs_at f f2 s2 c.deref-3.result.now ask.second c.deref-3.ensures c.in_ok-second.second c.in_ok-second.ensures.answer)
    (read_still tape_file_at f f3 s3 c.deref-4.result.now ask.tape c.deref-4.ensures c.in_ok-tapes.tapes c.in_ok-tapes.ensures.answer)
    c.in-Ok.made c.in-Ok.ensures.alike c.in-Ok.ensures.twin t
    ∙ ap done_with (sym c.in_ok-twin_plan-in-Ok.ensures.effect)

pub returns-clause-answer : goal.returns-clause-answer
returns-clause-answer g c = λ found h.
    let ask = client_twin_ask c.args.words.now in
    let p = typed_program_tree c.in_ok-program.program in
    let f = g.F.Files.state c.args.files.now in
    let f1 = g.F.Files.state c.read_typed.new.files in
    let f2 = g.F.Files.state c.read_inputs.new.files in
    let f3 = g.F.Files.state c.read_inputs-2.new.files in
    let s1 = still f f1 c.in_ok-program.ensures.files in
    let s2 = still_later f f1 f2 s1 c.in_ok-first.ensures.files in
    let s3 = still_later f f2 f3 s2 c.in_ok-second.ensures.files in
    stops found ask f p c.in_ok-first.first c.in_ok-second.second c.in_ok-tapes.tapes
    (at_path c.deref.result.now ask.program c.deref.ensures f p c.in_ok-program.ensures.answer found h)
    (read_still inputs_at f f1 s1 c.deref-2.result.now ask.input c.deref-2.ensures c.in_ok-first.first c.in_ok-first.ensures.answer)
    (read_still inputs_at f f2 s2 c.deref-3.result.now ask.second c.deref-3.ensures c.in_ok-second.second c.in_ok-second.ensures.answer)
    (read_still tape_file_at f f3 s3 c.deref-4.result.now ask.tape c.deref-4.ensures c.in_ok-tapes.tapes c.in_ok-tapes.ensures.answer)
    (g.F.Files.state c.read_tape_file.new.files) c.in-Err.refusal c.twin_stop.result c.in-Err.ensures.differ c.twin_stop.ensures

pub returns-in_err-program-clause-names : goal.returns-in_err-program-clause-names
unfolding client_twin_paths
returns-in_err-program-clause-names g c =
    let ask = client_twin_ask c.args.words.now in
    stopped_at _ _ _ _ _ c.from_residual.result c.from_residual.ensures.1 c.in_err-program.ensures.names
    c.deref.ensures (first_in ask.program (ask.input ∷ ask.second ∷ ask.tape ∷ []))

pub returns-in_err-first-clause-names : goal.returns-in_err-first-clause-names
unfolding client_twin_paths
returns-in_err-first-clause-names g c =
    let ask = client_twin_ask c.args.words.now in
    stopped_at _ _ _ _ _ c.from_residual-in_err-first.result c.from_residual-in_err-first.ensures.1 c.in_err-first.ensures.names
    c.deref-2.ensures (second_in ask.program ask.input (ask.second ∷ ask.tape ∷ []))

pub returns-in_err-second-clause-names : goal.returns-in_err-second-clause-names
unfolding client_twin_paths
returns-in_err-second-clause-names g c =
    let ask = client_twin_ask c.args.words.now in
    stopped_at _ _ _ _ _ c.from_residual-in_err-second.result c.from_residual-in_err-second.ensures.1 c.in_err-second.ensures.names
    c.deref-3.ensures (third_in ask.program ask.input ask.second (ask.tape ∷ []))

pub returns-in_err-tapes-clause-names : goal.returns-in_err-tapes-clause-names
unfolding client_twin_paths
returns-in_err-tapes-clause-names g c =
    let ask = client_twin_ask c.args.words.now in
    stopped_at _ _ _ _ _ c.from_residual-in_err-tapes.result c.from_residual-in_err-tapes.ensures.1 c.in_err-tapes.ensures.names
    c.deref-4.ensures (fourth_in ask.program ask.input ask.second ask.tape [])

pub returns-in_err-twin_plan-in-Ok-clause-names : goal.returns-in_err-twin_plan-in-Ok-clause-names
returns-in_err-twin_plan-in-Ok-clause-names g c =
    stopped _ _ _ c.from_residual-in_err-twin_plan-in-Ok.result c.from_residual-in_err-twin_plan-in-Ok.ensures.1
    (unnamed_memory _ _ refl)

pub returns-clause-names : goal.returns-clause-names
returns-clause-names g c = twin_stop_names _ c.in-Err.refusal c.twin_stop.result c.twin_stop.ensures
