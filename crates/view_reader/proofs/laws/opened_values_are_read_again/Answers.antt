use Rattle.view_reader.proofs.OpenedLaws.{read_again, words_again}
use Rattle.view_reader.proofs.laws.opened_values_are_read_again.Goals as goal

pub returns-clause-openings : goal.returns-clause-openings
returns-clause-openings c = read_again

pub returns-clause-words : goal.returns-clause-words
returns-clause-words c = words_again
