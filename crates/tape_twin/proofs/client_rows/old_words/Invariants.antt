use Rattle.std.proofs.Common.{◌≡◌, ◌≤◌, length}
use Rattle.client_model.specs.ClientRows.{unshared}
use Rattle.tape_twin.proofs.client_rows.old_words.Given as goal

abbrev pub invariant-loop-at : goal.invariant-loop-at
invariant-loop-at g l = (l.at ≤ length l.u) × (l.words.items ≡ unshared g.R.ShareRing.ring l.at l.u l.share l.previous)
