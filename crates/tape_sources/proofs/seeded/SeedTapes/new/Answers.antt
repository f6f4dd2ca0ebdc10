use Rattle.tape_sources.proofs.Parties.{four_seeded}
use Rattle.tape_sources.proofs.seeded.SeedTapes.new.Goals as goal

pub returns : goal.returns
returns c = four_seeded c.args.seed c.args.words
