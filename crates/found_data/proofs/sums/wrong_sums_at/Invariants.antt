use Rattle.std.proofs.Common.{◌≡◌, ◌≤◌, ◌+◌, drop}
use Rattle.std.specs.Prelude.{option_map}
use Rattle.found_inputs.specs.Sums.{wrong_sums_at}
use Rattle.found_data.proofs.sums.wrong_sums_at.Given as goal

-- so far the sums are right
abbrev pub invariant-loop-entry : goal.invariant-loop-entry
invariant-loop-entry l =
    record {
      so_far : wrong_sums_at l.part l.one l.two l.three
          ≡ option_map (λ n. l.taken + n)
          (wrong_sums_at (drop l.entry-index l.part) (drop l.taken l.one) (drop l.taken l.two) (drop l.taken l.three));
      few : l.taken ≤ l.entry-index;
    }
