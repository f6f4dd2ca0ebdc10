use Rattle.secrec_lexer.proofs.Runs.{take-length-name_run, list_all-name_run}
use Rattle.secrec_lexer.proofs.bytes.name_run.Goals as goal

pub returns-clause-run : goal.returns-clause-run
returns-clause-run c = rw c.name_size.ensures (take-length-name_run c.args.bytes.now)

pub returns-clause-names : goal.returns-clause-names
returns-clause-names c = rw (c.name_size.ensures, take-length-name_run c.args.bytes.now) (list_all-name_run c.args.bytes.now)
