use Rattle.std.proofs.Common.{Ok, Err, ap}
use Rattle.program_trees.specs.Programs.{program_tree}
use Rattle.program_commands.specs.Programs.{accepted}
use Rattle.program_commands.proofs.Judged.{refusal_known, refusal_only}
use Rattle.program_commands.proofs.OfTexts.{own_refusal, refuses_so}
use Rattle.program_commands.proofs.Spelled.{placed_where_spelled}
use Rattle.well_written.proofs.Grammar.{well_written}
use Rattle.program_commands.proofs.programs.tree_of_text.Goals as goal

pub returns-in-Ok-clause-answer : goal.returns-in-Ok-clause-answer
returns-in-Ok-clause-answer c = λ judged h. ap accepted (c.in-Ok.ensures.only judged h)

pub returns-in-Ok-clause-judged : goal.returns-in-Ok-clause-judged
returns-in-Ok-clause-judged c = λ told. (Ok (program_tree c.in-Ok.program), c.in-Ok.ensures.answer)

pub returns-in-Ok-clause-typed : goal.returns-in-Ok-clause-typed
returns-in-Ok-clause-typed c = c.in-Ok.ensures.answer.typed

pub returns-in-Ok-clause-written : goal.returns-in-Ok-clause-written
returns-in-Ok-clause-written c =
    let spells = c.in-Ok.ensures.answer.spells in
    well_written c.args.text.now (program_tree c.in-Ok.program) spells.tokens spells.lexed spells.spelled

pub returns-in-Ok-clause-placed : goal.returns-in-Ok-clause-placed
returns-in-Ok-clause-placed c =
    let spells = c.in-Ok.ensures.answer.spells in
    placed_where_spelled c.args.text.now (program_tree c.in-Ok.program) spells.tokens spells.lexed spells.spelled

pub returns-in-Err-Refused-clause-answer : goal.returns-in-Err-Refused-clause-answer
returns-in-Err-Refused-clause-answer c = λ judged h.
    let only = refusal_only c.args.text.now c.in-Err-Refused.field-0 c.in-Err-Refused.fault c.in-Err-Refused.field-0-is c.in-Err-Refused.ensures.only in
    refuses_so c.program_stop.result (accepted judged) c.program_stop.ensures (ap accepted (only judged h))

pub returns-in-Err-Refused-clause-judged : goal.returns-in-Err-Refused-clause-judged
returns-in-Err-Refused-clause-judged c = λ told. (
  Err c.in-Err-Refused.fault,
  refusal_known c.args.text.now c.in-Err-Refused.field-0 c.in-Err-Refused.fault c.in-Err-Refused.field-0-is c.in-Err-Refused.ensures.answer,
)

pub returns-in-Err-Refused-clause-own : goal.returns-in-Err-Refused-clause-own
returns-in-Err-Refused-clause-own c = own_refusal _ c.program_stop.result c.program_stop.ensures
