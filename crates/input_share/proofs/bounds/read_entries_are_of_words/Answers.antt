use Rattle.input_share.proofs.OfWords.{read_of_words, public_read_of_words}
use Rattle.input_share.proofs.bounds.read_entries_are_of_words.Goals as goal

pub returns : goal.returns
returns c = record { inputs = read_of_words; public = public_read_of_words }
