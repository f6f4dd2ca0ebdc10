use Rattle.std.proofs.Common.{[], ◌∷◌, refl, sym, ◌∙◌, ap}
use Rattle.command_words.specs.Views.{client_map_ask}
use Rattle.program_trees.specs.TypedPrograms.{typed_program_tree}
use Rattle.client_commands.specs.Map.{made_effect, client_map_paths}
use Rattle.program_commands.specs.Reading.{inputs_at, tape_file_at}
use Rattle.program_run.proofs.Accepted.{has_instances}
use Rattle.program_commands.proofs.Still.{read_still, still, still_later}
use Rattle.client_commands.proofs.MapPlanned.{effect_so, mapped_so}
use Rattle.program_commands.proofs.Exits.{first_in, second_in, stopped, stopped_at, third_in, unnamed_memory}
use Rattle.program_commands.proofs.Planned.{at_path, done_with}
use Rattle.client_commands.proofs.map.plan_client_map.Goals as goal

pub map_run-requires-clause-accepted : goal.map_run-requires-clause-accepted
map_run-requires-clause-accepted g c = has_instances (typed_program_tree c.in_ok-program.program) c.in_ok-program.ensures.accepted

pub returns-clause-answer : goal.returns-clause-answer
returns-clause-answer g c = λ found h t.
    let ask = client_map_ask c.args.words.now in
    let p = typed_program_tree c.in_ok-program.program in
    let f = g.F.Files.state c.args.files.now in
    let f1 = g.F.Files.state c.read_typed.new.files in
    let f2 = g.F.Files.state c.read_inputs.new.files in
    let first = still f f1 c.in_ok-program.ensures.files in
    let second = still_later f f1 f2 first c.in_ok-inputs.ensures.files in
    mapped_so found ask f p c.in_ok-inputs.inputs c.in_ok-tapes.tapes (made_effect ask c.in_ok-inputs.inputs c.in_ok-made.made)
    (at_path c.deref.result.now ask.program c.deref.ensures f p c.in_ok-program.ensures.answer found h t)
    (read_still inputs_at f f1 first c.deref-2.result.now ask.input c.deref-2.ensures c.in_ok-inputs.inputs c.in_ok-inputs.ensures.answer t)
    (read_still tape_file_at f f2 second c.deref-3.result.now ask.tape c.deref-3.ensures c.in_ok-tapes.tapes c.in_ok-tapes.ensures.answer t)
    (effect_so ask p c.in_ok-inputs.inputs c.in_ok-tapes.tapes c.in_ok-made.made c.in_ok-made.ensures.report c.in_ok-made.ensures.tapes)
    ∙ ap done_with (sym c.in_ok-map_plan.ensures.effect)

pub returns-in_err-program-clause-names : goal.returns-in_err-program-clause-names
unfolding client_map_paths
returns-in_err-program-clause-names g c =
    let ask = client_map_ask c.args.words.now in
    stopped_at _ _ _ _ _ c.from_residual.result c.from_residual.ensures.1 c.in_err-program.ensures.names
    c.deref.ensures (first_in ask.program (ask.input ∷ ask.tape ∷ []))

pub returns-in_err-inputs-clause-names : goal.returns-in_err-inputs-clause-names
unfolding client_map_paths
returns-in_err-inputs-clause-names g c =
    let ask = client_map_ask c.args.words.now in
    stopped_at _ _ _ _ _ c.from_residual-in_err-inputs.result c.from_residual-in_err-inputs.ensures.1 c.in_err-inputs.ensures.names
    c.deref-2.ensures (second_in ask.program ask.input (ask.tape ∷ []))

pub returns-in_err-tapes-clause-names : goal.returns-in_err-tapes-clause-names
unfolding client_map_paths
returns-in_err-tapes-clause-names g c =
    let ask = client_map_ask c.args.words.now in
    stopped_at _ _ _ _ _ c.from_residual-in_err-tapes.result c.from_residual-in_err-tapes.ensures.1 c.in_err-tapes.ensures.names
    c.deref-3.ensures (third_in ask.program ask.input ask.tape [])

pub returns-in_err-made-clause-names : goal.returns-in_err-made-clause-names
returns-in_err-made-clause-names g c =
    stopped _ _ _ c.from_residual-in_err-made.result c.from_residual-in_err-made.ensures.1
    (unnamed_memory _ _ refl)

pub returns-in_err-map_plan-clause-names : goal.returns-in_err-map_plan-clause-names
returns-in_err-map_plan-clause-names g c =
    stopped _ _ _ c.from_residual-in_err-map_plan.result c.from_residual-in_err-map_plan.ensures.1
    (unnamed_memory _ _ refl)
