use Rattle.std.proofs.Common.{rules}
use Rattle.kept_disk.proofs.MapFiles.{others_stay}
use Rattle.kept_disk.proofs.logged_files.sync_in.Goals as goal

pub returns-clause-others : goal.returns-clause-others
returns-clause-others c =
    let w = c.sync.new.self in
    others_stay c.args.files.now (c.get_mut.follows.lender w) c.args.path.now w ((c.get_mut.follows.holds w).3 (search rules))
