use Rattle.std.proofs.Common.{rules, sym}
use Rattle.std.proofs.lemmas.Slice.Eq.{bytes_eq-Decides}
use Rattle.view_text.proofs.Decimals.{number_some, number_none}
use Rattle.view_text.proofs.numbers.word_in.Goals as goal

pub returns-then-eq : goal.returns-then-eq
returns-then-eq c = sym (number_some c.args.word.now c.in-Ok.n (search rules) (search (rules, bytes_eq-Decides)))

pub returns-in-Ok : goal.returns-in-Ok
returns-in-Ok c = sym (number_none c.args.word.now c.parse.result c.parse.ensures.value.0 (λ n e. search (rules, bytes_eq-Decides)))

pub returns : goal.returns
returns c = sym (number_none c.args.word.now c.parse.result c.parse.ensures.value.0 (λ n e. cc))
