use Rattle.std.proofs.Common.{rules}
use Rattle.std.proofs.lemmas.Slice.Eq.{bytes_eq-Decides}
use Rattle.view_reader.proofs.Limits.{need_some, need_none}
use Rattle.view_reader.proofs.limited.need_of_text.Goals as goal

pub returns-then-eq : goal.returns-then-eq
returns-then-eq c = need_some c.args.text.now c.in-Ok.number (search rules) (search (rules, bytes_eq-Decides))

pub returns-in-Ok : goal.returns-in-Ok
returns-in-Ok c = need_none c.args.text.now c.parse.result c.parse.ensures.value.0 (λ n e. search (rules, bytes_eq-Decides))

pub returns : goal.returns
returns c = need_none c.args.text.now c.parse.result c.parse.ensures.value.0 (λ n e. cc)
