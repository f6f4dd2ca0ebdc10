use Rattle.story_laws.proofs.Counts.{report_fits}
use Rattle.story_laws.proofs.Shared.{counts_what_it_drew}
use Rattle.story_laws.proofs.Stories.{draws_of_its_tape}
use Rattle.story_laws.proofs.drawn_laws.miners_draw_of_their_tapes.Goals as goal

pub returns : goal.returns
returns c = record { miner = draws_of_its_tape; report = report_fits; shared = counts_what_it_drew }
