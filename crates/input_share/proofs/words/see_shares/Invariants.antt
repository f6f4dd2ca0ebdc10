use Rattle.std.proofs.Common.{All, take}
use Rattle.input_share.specs.OfWords.{IsPartOfWords}
use Rattle.input_share.proofs.words.see_shares.Given as goal

abbrev pub invariant-loop-entry : goal.invariant-loop-entry
invariant-loop-entry l = All (λ e. IsPartOfWords e.part) (take l.entry-index l.entries)
