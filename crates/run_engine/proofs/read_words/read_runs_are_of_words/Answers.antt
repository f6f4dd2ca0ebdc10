use Rattle.run_engine.proofs.OfWords.{read_of_words}
use Rattle.run_engine.proofs.read_words.read_runs_are_of_words.Goals as goal

pub returns : goal.returns
returns c = read_of_words
