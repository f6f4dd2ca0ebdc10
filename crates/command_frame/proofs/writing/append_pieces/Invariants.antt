use Rattle.std.proofs.Common.{◌++◌, length, string_bytes}
use Rattle.view_text.specs.Pieces.{bytes_left}
use Rattle.command_frame.specs.Finish.{GrewUpTo, Touches}
use Rattle.command_frame.proofs.writing.append_pieces.Given as goal

abbrev pub invariant-loop-text : goal.invariant-loop-text
invariant-loop-text g l =
    let state = g.F.Files.state in
    record {
      grew : GrewUpTo (string_bytes l.path) (bytes_left l.pieces) (string_bytes l.text ++ bytes_left l.left) (state l.fn.files) (state l.files);
      touches : Touches (string_bytes l.path) (state l.fn.files) (state l.files);
    }

abbrev pub decreases-loop-text : goal.decreases-loop-text
decreases-loop-text g l = length (bytes_left l.left)
