use Rattle.gate_audit.proofs.Passed.{are_seen, found_known}
use Rattle.gate_audit.proofs.laws.passed_views_are_seen.Goals as goal

pub returns-clause-seen : goal.returns-clause-seen
returns-clause-seen c = λ part views gates t ls left words begins given passes stuck none.
    are_seen part views gates t words passes begins given ls left stuck none

pub returns-clause-known : goal.returns-clause-known
returns-clause-known c = λ part views gates t words passes. found_known part views gates t words passes
