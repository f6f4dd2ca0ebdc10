use Rattle.std.proofs.Common.{◌≡◌, ◌≤◌, ◌++◌, drop}
use Rattle.found_inputs.specs.Found.{found_entries}
use Rattle.found_data.proofs.inputs.found_inputs.Given as goal

-- so far the inputs, in front of those that are left
abbrev pub invariant-loop-entry : goal.invariant-loop-entry
invariant-loop-entry l =
    record {
      entries : l.found.items ++ found_entries (drop l.entry-index l.part) (drop l.taken l.one) (drop l.taken l.two) (drop l.taken l.three)
          ≡ found_entries l.part l.one l.two l.three;
      few : l.taken ≤ l.entry-index;
    }
