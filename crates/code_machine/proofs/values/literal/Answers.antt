use Rattle.std.proofs.Common.{Ok, sym, ap}
use Rattle.code_machine.proofs.values.literal.Goals as goal

pub returns-clause-step : goal.returns-clause-step
returns-clause-step c = λ code s. ap (λ m. Ok (m, s)) (sym (c.in_ok-change.ensures.is code))

pub returns-clause-safe : goal.returns-clause-safe
returns-clause-safe c = c.in_ok-change.ensures.safe

pub returns-clause-enough : goal.returns-clause-enough
returns-clause-enough c = c.in_ok-change.ensures.enough
