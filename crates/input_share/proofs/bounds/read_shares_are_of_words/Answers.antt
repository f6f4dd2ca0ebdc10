use Rattle.input_share.proofs.SharesOfWords.{share_read_of_words}
use Rattle.input_share.proofs.bounds.read_shares_are_of_words.Goals as goal

pub returns : goal.returns
returns c = share_read_of_words
