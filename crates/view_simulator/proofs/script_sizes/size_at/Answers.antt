use Rattle.view_simulator.proofs.Kept.{kept-there, kept-past}
use Rattle.view_simulator.proofs.script_sizes.size_at.Goals as goal

pub returns-in-Some : goal.returns-in-Some
returns-in-Some c =
    λ all are. kept-there all c.args.sizes.now c.args.number c.in-Some.size.now are c.in-Some.ensures.lookup.3.0 c.in-Some.ensures.lookup.1

pub returns-in-None : goal.returns-in-None
returns-in-None c = λ all are. kept-past all c.args.sizes.now c.args.number are c.in-None.ensures.lookup.3
