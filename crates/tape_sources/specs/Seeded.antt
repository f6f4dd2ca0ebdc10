-- What tapes of a seed mean as a source.
use Rattle.outside.specs.Tapes.{TapesState}
use Rattle.tape_sources.specs.Parties.{told_state}
use Rattle.tape_sources.specs.SeedWords.{words_left}
use Rattle.tape_sources.specs.declared.seeded.SeedTapes.{SeedTapes}

abbrev pub seed_state : SeedTapes → TapesState
seed_state s = told_state (words_left s.seed s.words s.taken)
