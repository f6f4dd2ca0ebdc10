use Rattle.verified_code.proofs.Signs.{words_are_signed, ints_are_signed, bools_are_signed}
use Rattle.verified_code.proofs.laws.operators_are_those_of_signs.Goals as goal

pub returns-clause-words : goal.returns-clause-words
returns-clause-words c = words_are_signed

pub returns-clause-ints : goal.returns-clause-ints
returns-clause-ints c = ints_are_signed

pub returns-clause-bools : goal.returns-clause-bools
returns-clause-bools c = bools_are_signed
