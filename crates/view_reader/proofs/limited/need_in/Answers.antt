use Rattle.view_reader.proofs.Limits.{no_need}
use Rattle.view_reader.proofs.limited.need_in.Goals as goal

pub returns-in-Err : goal.returns-in-Err
returns-in-Err c = no_need c.args.word.now c.in-Err.ensures.cases.0
