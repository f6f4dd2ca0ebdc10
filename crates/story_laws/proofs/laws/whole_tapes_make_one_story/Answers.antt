use Rattle.miner_core.specs.Streams.{no_words}
use Rattle.miner_core.proofs.Streaming.{whole_answers}
use Rattle.story_laws.proofs.laws.whole_tapes_make_one_story.Goals as goal

pub returns : goal.returns
returns c = λ i l m before after answer h. whole_answers i l m before after no_words h.whole answer h.answers h.lost
