use Rattle.view_reader.proofs.Texts.{no_word}
use Rattle.view_reader.proofs.words.word_in.Goals as goal

pub returns-in-Err : goal.returns-in-Err
returns-in-Err c = no_word c.args.word.now c.in-Err.ensures.cases.0
