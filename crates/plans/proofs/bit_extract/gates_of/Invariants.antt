use Rattle.std.proofs.Common.{◌≡◌, ◌+◌, ◌≤◌, ◌*◌, ◌++◌, drop}
use Rattle.plans.specs.BitExtract.{bits_plan, carrying, widths}
use Rattle.plans.proofs.bit_extract.gates_of.Given as goal

-- the gates so far and those of the widths that are left are the plan
abbrev pub invariant-loop-width : goal.invariant-loop-width
invariant-loop-width l =
    record {
      planned : l.gates.items ++ carrying l.n l.sum l.next l.generate l.propagate (drop l.width-index widths) ≡ bits_plan l.fn.first l.fn.word l.fn.n;
      number : l.next ≡ l.fn.first + 4 + 8 * l.width-index;
      within : l.width-index ≤ 6;
    }
