use Rattle.gate_audit.proofs.Read.{is_read_back}
use Rattle.gate_audit.proofs.laws.seen_views_pass.Goals as goal

pub returns : goal.returns
returns c = λ entries views gates t ls has words given seen. is_read_back entries views gates t ls has words given seen
