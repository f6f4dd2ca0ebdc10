use Rattle.own_code.proofs.LettingGo.{code_needs}
use Rattle.own_code.proofs.laws.code_needs_what_it_names.Goals as goal

pub returns : goal.returns
returns c = λ w code i dealt fuel p values held tape h. code_needs w code i dealt fuel p values held tape h
