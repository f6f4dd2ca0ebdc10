use Rattle.std.proofs.Common.{sym}
use Rattle.tape_sources.proofs.Drawing.{left_is}
use Rattle.tape_sources.proofs.four_file.FileTapesTapeSource.left.Goals as goal

pub returns : goal.returns
returns g c =
    let s = c.args.self.now in
    sym (left_is (g.F.Files.state s.files.now) s.files.ghost_name s.path.now s.size s.next s.left c.args.party)
