use Rattle.code_places.proofs.Joins.{run_dealt_joins}
use Rattle.code_places.proofs.laws.dealt_gates_run_in_parts.Goals as goal

pub returns : goal.returns
returns c = λ d. let join = run_dealt_joins d in record { none = join.none; joins = join.joins }
