use Rattle.std.proofs.Common.{◌≡◌, ◌+◌, ◌≤◌, ◌*◌, ◌++◌, drop}
use Rattle.plans.specs.BitExtract.{widths}
use Rattle.plans.specs.Compare.{less_plan, comparing}
use Rattle.plans.proofs.compare.gates_of.Given as goal

-- the gates so far and those of the widths that are left are the plan
abbrev pub invariant-loop-width : goal.invariant-loop-width
invariant-loop-width l =
    record {
      planned : l.gates.items ++ comparing l.n l.next l.less l.same (drop l.width-index widths) ≡ less_plan l.fn.first l.fn.left l.fn.right l.fn.n;
      number : l.next ≡ l.fn.first + 61 + 8 * l.width-index;
      within : l.width-index ≤ 6;
    }
