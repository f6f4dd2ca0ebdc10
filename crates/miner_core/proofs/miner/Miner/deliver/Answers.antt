use Rattle.std.proofs.Common.{subst}
use Rattle.miner_core.specs.Miners.{held, HasCome}
use Rattle.miner_core.specs.Streams.{Answers}
use Rattle.miner_core.proofs.miner.Miner.deliver.Goals as goal

pub returns-clause-comes : goal.returns-clause-comes
returns-clause-comes g c = λ w is.
    subst
    (λ words. HasCome g.P.Party.me c.args.link words w c.deliver_words.new.self (g.T.TapeSource.state c.args.tapes.now)
    (g.T.TapeSource.state c.deliver_words.new.tapes) c.deliver_words.result) c.words.ensures.words (c.deliver_words.ensures.comes w is)

pub returns-clause-answers : goal.returns-clause-answers
returns-clause-answers g c = λ keeps going.
    subst
    (λ words. Answers g.P.Party.me c.args.link words (held c.args.self.now) (held c.deliver_words.new.self) (g.T.TapeSource.state c.args.tapes.now)
    (g.T.TapeSource.state c.deliver_words.new.tapes) c.deliver_words.result) c.words.ensures.words (c.deliver_words.ensures.answers keeps going)
