use Rattle.view_reader.proofs.Limits.{no_name}
use Rattle.view_reader.proofs.limited.name_in.Goals as goal

pub returns-in-Err : goal.returns-in-Err
returns-in-Err c = no_name c.args.word.now c.in-Err.ensures.cases.0
