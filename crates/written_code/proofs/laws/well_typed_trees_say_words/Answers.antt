use Rattle.written_code.proofs.Words.{well_typed_words}
use Rattle.written_code.proofs.laws.well_typed_trees_say_words.Goals as goal

pub returns : goal.returns
returns c = well_typed_words
