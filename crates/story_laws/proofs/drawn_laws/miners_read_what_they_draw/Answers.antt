use Rattle.story_laws.proofs.Stories.{read_what_they_draw, reads_what_it_draws}
use Rattle.story_laws.proofs.drawn_laws.miners_read_what_they_draw.Goals as goal

pub returns : goal.returns
returns c = record { one = reads_what_it_draws; three = read_what_they_draw }
