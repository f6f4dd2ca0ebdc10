use Rattle.std.proofs.Common.{◌≡◌, ◌+◌, ◌≤◌, ◌*◌, ◌++◌, drop}
use Rattle.plans.specs.Equality.{eq_plan, joining, shifts}
use Rattle.plans.proofs.equality.gates_of.Given as goal

-- the gates so far and those of the shifts that are left are the plan
abbrev pub invariant-loop-count : goal.invariant-loop-count
invariant-loop-count l =
    record {
      planned : l.gates.items ++ joining l.same (drop l.count-index shifts) ≡ eq_plan l.fn.first l.fn.difference;
      number : l.same ≡ l.fn.first + 3 + 2 * l.count-index;
      within : l.count-index ≤ 6;
    }
