use Rattle.std.proofs.Common.{rules}
use Rattle.schedule_file.proofs.Lines.{line_more}
use Rattle.schedule_file.proofs.writing.write.Goals as goal

pub loop-link-preserved : goal.loop-link-preserved
loop-link-preserved c = search (rules, line_more)
