use Rattle.language_model.proofs.TapesDecide.{enough_words, too_few_words}
use Rattle.language_model.proofs.laws.tapes_decide_alone.Goals as goal

pub returns : goal.returns
returns c = record { same = enough_words; stops = too_few_words }
