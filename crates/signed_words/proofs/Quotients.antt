-- What division gives is a word.
use Rattle.std.proofs.Common.{rules}
use Rattle.signed_words.specs.Laws.{QuotientsAreWords}

pub quotients_are_words : QuotientsAreWords
quotients_are_words = record { quotient = λ x y hx hy. search rules; remainder = λ x y hx hy. search rules }
