use Rattle.tape_sources.proofs.Drawing.{opens_four}
use Rattle.tape_sources.proofs.four_file.FileTapes.new.Goals as goal

pub returns-clause-opened : goal.returns-clause-opened
returns-clause-opened g c = opens_four c.args.lengths (g.F.Files.state c.args.files.now) c.args.files.ghost_name c.args.path.now
