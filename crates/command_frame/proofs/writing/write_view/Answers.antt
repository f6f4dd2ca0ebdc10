use Rattle.std.proofs.Common.{ℕ, List, ◌++◌, ap, subst, ◌∙◌, string_bytes}
use Rattle.outside.specs.Files.{Wrote}
use Rattle.view_text.specs.Pieces.{bytes_left}
use Rattle.view_text.specs.Text.{view_bytes}
use Rattle.command_frame.specs.Finish.{Grew}
use Rattle.command_frame.proofs.Growing.{on_ok_by, stops_after, touches_more, wrote_there}
use Rattle.command_frame.proofs.writing.write_view.Goals as goal

pub append_pieces-requires : goal.append_pieces-requires
append_pieces-requires g c =
    wrote_there (g.F.Files.state c.args.files.now) (g.F.Files.state c.write_bytes.new.files) (string_bytes c.args.path.now) c.as_bytes.result.now
    c.in_ok-write_bytes.ensures.ok

pub returns : goal.returns
returns g c =
    let a = g.F.Files.state c.args.files.now in
    let b = g.F.Files.state c.write_bytes.new.files in
    let d = g.F.Files.state c.append_pieces.new.files in
    let path = string_bytes c.args.path.now in
    let first = c.as_bytes.result.now in
    let left = bytes_left c.other_lines.result in
    record {
      ok =
          on_ok_by (Grew path left b d) (Wrote a d path (view_bytes c.args.view.now)) c.append_pieces.result
          (λ grew. subst (Wrote a d path)
          (ap (λ (x : List ℕ). x ++ left) (c.as_bytes.ensures.value ∙ c.in_ok-line.ensures) ∙ c.other_lines.ensures)
          (grew.adds a first c.in_ok-write_bytes.ensures.ok)) c.append_pieces.ensures.ok;
      touches = touches_more a b d path c.in_ok-write_bytes.ensures.touches c.append_pieces.ensures.touches;
      err = stops_after a b d path c.append_pieces.result c.in_ok-write_bytes.ensures.touches c.append_pieces.ensures.err;
    }
