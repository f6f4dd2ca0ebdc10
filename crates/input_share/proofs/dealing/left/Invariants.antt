use Rattle.std.proofs.Common.{◌≡◌, ◌++◌, drop}
use Rattle.input_share.specs.Dealing.{left_of}
use Rattle.input_share.proofs.dealing.left.Given as goal

abbrev pub invariant-loop-k : goal.invariant-loop-k
invariant-loop-k g l =
    l.left.items ++ left_of g.R.ShareRing.ring (drop l.k l.elements) (drop l.k l.first) (drop l.k l.second)
    ≡ left_of g.R.ShareRing.ring l.elements l.first l.second
