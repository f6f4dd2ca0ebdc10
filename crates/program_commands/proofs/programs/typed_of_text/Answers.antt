use Rattle.std.proofs.Common.{Ok}
use Rattle.program_trees.specs.Programs.{program_tree}
use Rattle.program_trees.specs.TypedPrograms.{typed_program_tree}
use Rattle.program_commands.specs.OfText.{program_in}
use Rattle.program_commands.specs.Programs.{accepted, small_enough}
use Rattle.program_commands.proofs.OfTexts.{handed_on, large_found, large_stops, own_refusal, refused_found_on, sized_found, small_in, stops_behind}
use Rattle.program_commands.proofs.programs.typed_of_text.Goals as goal

pub returns-in_err-program-clause-answer : goal.returns-in_err-program-clause-answer
unfolding program_in
returns-in_err-program-clause-answer c = λ found h.
    handed_on typed_program_tree c.from_residual.result _ (program_in found) c.from_residual.ensures.1
    (stops_behind _ (accepted found.judged) (λ tree. small_enough found.sized) (c.in_err-program.ensures.answer found.judged h.judged))

pub returns-in_err-program-clause-found : goal.returns-in_err-program-clause-found
returns-in_err-program-clause-found c =
    refused_found_on c.args.text.now _ c.from_residual.result c.from_residual.ensures.1 c.in_err-program.ensures.answer c.in_err-program.ensures.judged

pub returns-in-Ok-clause-answer : goal.returns-in-Ok-clause-answer
returns-in-Ok-clause-answer c = λ found h.
    small_in c.args.text.now (program_tree c.in_ok-program.program) (typed_program_tree c.in_ok-typed.typed) c.in_ok-typed.ensures.tree found h
    (c.in_ok-program.ensures.answer found.judged h.judged) c.in-Ok.ensures.only

pub returns-in-Ok-clause-found : goal.returns-in-Ok-clause-found
returns-in-Ok-clause-found c = λ told.
    sized_found c.args.text.now (program_tree c.in_ok-program.program) (Ok (typed_program_tree c.in_ok-typed.typed)) c.in_ok-program.ensures.answer
    (c.in_ok-typed.ensures.tree, c.in-Ok.ensures.answer) (c.in_ok-program.ensures.judged tt)

pub returns-in-Ok-clause-accepted : goal.returns-in-Ok-clause-accepted
returns-in-Ok-clause-accepted c = record {
  source = program_tree c.in_ok-program.program;
  typed = c.in_ok-program.ensures.typed;
  written = c.in_ok-program.ensures.written;
  placed = c.in_ok-program.ensures.placed;
  of = c.in_ok-typed.ensures.tree;
  within = c.in-Ok.ensures.answer;
}

pub returns-clause-answer : goal.returns-clause-answer
returns-clause-answer c = λ found h.
    large_stops c.args.text.now (program_tree c.in_ok-program.program) (typed_program_tree c.in_ok-typed.typed) c.in_ok-typed.ensures.tree found
    c.in-Err.error c.size_stop.result c.size_stop.ensures.refusal c.size_stop.ensures.memory h (c.in_ok-program.ensures.answer found.judged h.judged)
    c.in-Err.ensures.only

pub returns-clause-found : goal.returns-clause-found
returns-clause-found c = λ told.
    large_found c.args.text.now (program_tree c.in_ok-program.program) (typed_program_tree c.in_ok-typed.typed) c.in-Err.error c.size_stop.result
    c.size_stop.ensures.memory c.in_ok-program.ensures.answer c.in_ok-typed.ensures.tree c.in-Err.ensures.answer (c.in_ok-program.ensures.judged tt) told

pub returns-clause-own : goal.returns-clause-own
returns-clause-own c = own_refusal _ c.size_stop.result c.size_stop.ensures.refusal
