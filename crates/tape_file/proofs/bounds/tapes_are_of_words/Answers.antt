use Rattle.tape_file.proofs.OfWords.{read_of_words, own_of_words, seeded_of_words}
use Rattle.tape_file.proofs.bounds.tapes_are_of_words.Goals as goal

pub returns : goal.returns
returns c = record { read = read_of_words; own = own_of_words; seeded = seeded_of_words }
