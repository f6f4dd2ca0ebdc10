use Rattle.std.proofs.Common.{◌≡◌, ◌++◌, length}
use Rattle.std.specs.Prelude.{string_bytes}
use Rattle.view_text.specs.Pieces.{bytes_left}
use Rattle.view_text.specs.Text.{view_bytes}
use Rattle.view_text.proofs.writing.write.Given as goal

abbrev pub invariant-loop-text : goal.invariant-loop-text
invariant-loop-text l = string_bytes l.text ++ bytes_left l.pieces ≡ view_bytes l.view

abbrev pub decreases-loop-text : goal.decreases-loop-text
decreases-loop-text l = length (bytes_left l.pieces)
