use Rattle.std.proofs.Common.{length, string_bytes}
use Rattle.command_frame.specs.Finish.{GrewUpTo, Touches}
use Rattle.command_frame.proofs.writing.append_bytes.Given as goal

abbrev pub invariant-loop-left : goal.invariant-loop-left
invariant-loop-left g l =
    let state = g.F.Files.state in
    record {
      grew : GrewUpTo (string_bytes l.path) l.bytes l.left (state l.fn.files) (state l.files);
      touches : Touches (string_bytes l.path) (state l.fn.files) (state l.files);
    }

abbrev pub decreases-loop-left : goal.decreases-loop-left
decreases-loop-left g l = length l.left
