use Rattle.miner_core.specs.Miners.{held}
use Rattle.viewed_run.proofs.Sitting.{drew_so}
use Rattle.viewed_run.proofs.seat.drew.Goals as goal

pub returns : goal.returns
returns g c =
    drew_so g.P.Party.me (held c.args.miner.now) c.words.result.now c.drawn.result c.in_ok-own.own.items c.words.ensures
    (c.drawn.ensures.tapes.kept c.requires) c.in_ok-own.ensures.enough c.in_ok-own.ensures.front
