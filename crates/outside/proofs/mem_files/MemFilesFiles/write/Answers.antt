use Rattle.std.proofs.Common.{rules}
use Rattle.outside.proofs.MapFiles.{wrote_only}
use Rattle.outside.proofs.mem_files.MemFilesFiles.write.Goals as goal

pub returns-clause-only : goal.returns-clause-only
returns-clause-only c = wrote_only _ _ c.args.path.now c.args.bytes.now (search rules)
