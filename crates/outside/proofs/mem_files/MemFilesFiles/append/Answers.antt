use Rattle.std.proofs.Common.{rules}
use Rattle.outside.proofs.MapFiles.{appended_only}
use Rattle.outside.proofs.mem_files.MemFilesFiles.append.Goals as goal

pub returns-then-branch-clause-only : goal.returns-then-branch-clause-only
returns-then-branch-clause-only c = appended_only _ _ c.args.path.now c.args.bytes.now (search rules)
