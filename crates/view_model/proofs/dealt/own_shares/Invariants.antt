use Rattle.std.proofs.Common.{◌≡◌, take}
use Rattle.view_model.specs.Dealing.{private_shares}
use Rattle.view_model.proofs.dealt.own_shares.Given as goal

abbrev pub invariant-loop-entry : goal.invariant-loop-entry
invariant-loop-entry l = l.values ≡ private_shares (take l.entry-index l.entries)
