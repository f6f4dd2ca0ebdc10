use Rattle.signed_words.proofs.Quotients.{quotients_are_words}
use Rattle.signed_words.proofs.laws.quotients_are_words.Goals as goal

pub returns : goal.returns
returns c = quotients_are_words
