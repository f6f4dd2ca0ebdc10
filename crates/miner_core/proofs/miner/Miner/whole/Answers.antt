use Rattle.miner_core.specs.Miners.{held}
use Rattle.miner_core.specs.Streams.{no_words}
use Rattle.miner_core.proofs.Miners.{made_whole_of}
use Rattle.miner_core.proofs.Streaming.{made_whole, made_none}
use Rattle.miner_core.proofs.miner.Miner.whole.Goals as goal

pub returns-in-Ok-clause-story : goal.returns-in-Ok-clause-story
returns-in-Ok-clause-story g c =
    made_whole g.P.Party.me c.args.task c.args.dealt c.args.tape.items c.args.budget no_words (held c.in-Ok.miner)
    (made_whole_of _ _ _ _ _ _ _ c.in-Ok.miner c.in-Ok.ensures.made)

pub returns-in-Ok-clause-going : goal.returns-in-Ok-clause-going
returns-in-Ok-clause-going g c = (made_whole_of _ _ _ _ _ _ _ c.in-Ok.miner c.in-Ok.ensures.made).going

pub returns-in-Ok-clause-whole : goal.returns-in-Ok-clause-whole
returns-in-Ok-clause-whole g c =
    made_none g.P.Party.me c.args.task c.args.dealt c.args.tape.items c.args.budget no_words (held c.in-Ok.miner)
    (made_whole_of _ _ _ _ _ _ _ c.in-Ok.miner c.in-Ok.ensures.made)

pub returns-in-Ok-clause-past : goal.returns-in-Ok-clause-past
returns-in-Ok-clause-past g c = c.in-Ok.ensures.made.past_is
