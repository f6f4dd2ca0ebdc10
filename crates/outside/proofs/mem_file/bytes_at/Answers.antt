use Rattle.std.proofs.Common.{rules}
use Rattle.outside.proofs.MapFiles.{found_some, found_none}
use Rattle.outside.proofs.mem_file.bytes_at.Goals as goal

pub returns-in-Some : goal.returns-in-Some
returns-in-Some c = found_some c.args.files.now c.args.path.now c.in-Some.file.now c.in-Some.ensures.value _ (search rules)

pub returns-in-None : goal.returns-in-None
returns-in-None c = found_none c.args.files.now c.args.path.now c.in-None.ensures.value
