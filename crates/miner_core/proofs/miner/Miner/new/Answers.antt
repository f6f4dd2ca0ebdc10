use Rattle.std.proofs.lemmas.Result.{MatchResult-weaker}
use Rattle.miner_core.proofs.Miners.{made_whole_of}
use Rattle.miner_core.proofs.miner.Miner.new.Goals as goal

pub returns-clause-made : goal.returns-clause-made
returns-clause-made g c = MatchResult-weaker c.keeping.result c.keeping.ensures.made (λ m h. made_whole_of _ _ _ _ _ _ _ m h) (λ l k. k)

pub returns-clause-past : goal.returns-clause-past
returns-clause-past g c = MatchResult-weaker c.keeping.result c.keeping.ensures.made (λ m h. h.past_is) (λ l k. k)
