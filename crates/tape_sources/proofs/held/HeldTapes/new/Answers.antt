use Rattle.tape_sources.proofs.Parties.{four_held}
use Rattle.tape_sources.proofs.held.HeldTapes.new.Goals as goal

pub returns : goal.returns
returns c = four_held c.args.tapes
