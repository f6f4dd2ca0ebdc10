use Rattle.std.proofs.Common.{◌≡◌, ◌++◌, drop}
use Rattle.input_share.specs.AddUp.{sums_of}
use Rattle.found_data.proofs.sums.sums_in.Given as goal

abbrev pub invariant-loop-k : goal.invariant-loop-k
invariant-loop-k g l =
    l.sums.items ++ sums_of g.R.ShareRing.ring (drop l.k l.one) (drop l.k l.two) (drop l.k l.three) ≡ sums_of g.R.ShareRing.ring l.one l.two l.three
