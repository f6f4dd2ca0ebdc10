use Rattle.std.proofs.Common.{sym}
use Rattle.tape_sources.proofs.Parties.{seed_left}
use Rattle.tape_sources.proofs.seeded.SeedTapesTapeSource.left.Goals as goal

pub returns : goal.returns
returns c = sym (seed_left c.args.self.now.seed c.args.self.now.words c.args.self.now.taken c.args.party c.requires)
