use Rattle.std.proofs.Common.{ℕ, List, ◌++◌, ap, sym, subst, string_bytes}
use Rattle.view_text.specs.Pieces.{bytes_left}
use Rattle.command_frame.specs.Finish.{Grew, GrewUpTo}
use Rattle.command_frame.proofs.Growing.{on_ok_by, stops_after, touches_more, touches_none, up_to_end, up_to_front, up_to_more, up_to_none}
use Rattle.command_frame.proofs.writing.append_pieces.Goals as goal

pub loop-text-init : goal.loop-text-init
loop-text-init g c =
    let a = g.F.Files.state c.args.files.now in
    let path = string_bytes c.args.path.now in
    let all = bytes_left c.args.pieces in
    record {
      grew = subst (λ (x : List ℕ). GrewUpTo path all (x ++ all) a a) (sym c.new-text.ensures.bytes) (up_to_none a path all);
      touches = touches_none a path;
    }

pub loop-text-preserved : goal.loop-text-preserved
loop-text-preserved g c =
    let a = g.F.Files.state c.args.files.now in
    let b = g.F.Files.state c.loop-text.files in
    let d = g.F.Files.state c.append_enough.new.files in
    let path = string_bytes c.args.path.now in
    let all = bytes_left c.args.pieces in
    let pushed : GrewUpTo path all (string_bytes c.push_next.new.text ++ bytes_left c.push_next.new.self) a b =
    subst (λ (x : List ℕ). GrewUpTo path all x a b) (sym c.in_ok-push_next.ensures.given) c.loop-text.invariant.grew in
    record {
      grew =
          up_to_front a b d path all (string_bytes c.push_next.new.text) (string_bytes c.append_enough.new.text) (bytes_left c.push_next.new.self) pushed
          c.in_ok-append_enough.ensures.ok;
      touches = touches_more a b d path c.loop-text.invariant.touches c.in_ok-append_enough.ensures.touches;
    }

pub returns : goal.returns
returns g c =
    let a = g.F.Files.state c.args.files.now in
    let b = g.F.Files.state c.loop-text.files in
    let d = g.F.Files.state c.append_bytes.new.files in
    let path = string_bytes c.args.path.now in
    let all = bytes_left c.args.pieces in
    let text = string_bytes c.push_next.new.text in
    let left = bytes_left c.push_next.new.self in
    let last = c.as_bytes.result.now in
    let pushed : GrewUpTo path all (text ++ left) a b =
    subst (λ (x : List ℕ). GrewUpTo path all x a b) (sym c.in_ok-push_next.ensures.given) c.loop-text.invariant.grew in
    record {
      ok =
          on_ok_by (Grew path last b d) (Grew path all a d) c.append_bytes.result
          (λ grew. up_to_end a d path all left
          (up_to_more a b d path all (text ++ left) last left pushed (ap (λ (x : List ℕ). x ++ left) (sym c.as_bytes.ensures.value)) grew)
          (c.in_ok-push_next.ensures.through c.if-branch.false)) c.append_bytes.ensures.ok;
      touches = touches_more a b d path c.loop-text.invariant.touches c.append_bytes.ensures.touches;
      err = stops_after a b d path c.append_bytes.result c.loop-text.invariant.touches c.append_bytes.ensures.err;
    }

pub returns-in_err-append_enough-clause-touches : goal.returns-in_err-append_enough-clause-touches
returns-in_err-append_enough-clause-touches g c =
    touches_more (g.F.Files.state c.args.files.now) (g.F.Files.state c.loop-text.files) (g.F.Files.state c.append_enough.new.files)
    (string_bytes c.args.path.now) c.loop-text.invariant.touches c.append_enough.ensures.touches
