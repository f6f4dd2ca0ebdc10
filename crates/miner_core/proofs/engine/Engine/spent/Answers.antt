use Rattle.miner_core.proofs.engine.Engine.spent.Goals as goal

pub returns-then-is_free_of-clause-frees : goal.returns-then-is_free_of-clause-frees
returns-then-is_free_of-clause-frees g c = c.is_free_of.ensures.frees c.if-is_free_of.true
