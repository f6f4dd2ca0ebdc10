use Rattle.std.proofs.Common.{◌≡◌, ℕ, List, ◌++◌, length, take, take-append-drop, drop, sym, arith, rules, string_bytes}
use Rattle.view_text.proofs.Pieced.{empty}
use Rattle.command_frame.proofs.Growing.{grew_piece, touches_more, touches_none, up_to_end, up_to_more, up_to_none}
use Rattle.command_frame.proofs.writing.append_bytes.Goals as goal

joined : (n : ℕ) (left piece rest : List ℕ) → piece ≡ take n left → rest ≡ drop n left → left ≡ piece ++ rest
joined n left piece rest front back = rw (front, back) (sym (take-append-drop n left))

pub loop-left-init : goal.loop-left-init
loop-left-init g c =
    let a = g.F.Files.state c.args.files.now in
    let path = string_bytes c.args.path.now in
    record { grew = up_to_none a path c.args.bytes.now; touches = touches_none a path }

pub loop-left-preserved : goal.loop-left-preserved
loop-left-preserved g c =
    let a = g.F.Files.state c.args.files.now in
    let b = g.F.Files.state c.loop-left.files in
    let d = g.F.Files.state c.append_piece.new.files in
    let path = string_bytes c.args.path.now in
    let left = c.loop-left.left.now in
    let piece = c.split_at.result.0.now in
    let rest = c.split_at.result.1.now in
    let cut : left ≡ piece ++ rest =
    joined c.min.result left piece rest c.split_at.ensures.front c.split_at.ensures.back in
    record {
      grew =
          up_to_more a b d path c.args.bytes.now left piece rest c.loop-left.invariant.grew cut (grew_piece b d path piece c.in_ok-append_piece.ensures.ok);
      touches = touches_more a b d path c.loop-left.invariant.touches c.in_ok-append_piece.ensures.touches;
    }

pub returns : goal.returns
returns g c =
    let a = g.F.Files.state c.args.files.now in
    let b = g.F.Files.state c.loop-left.files in
    let left = c.loop-left.left.now in
    let none : length left ≡ 0 = search rules in
    record {
      ok = up_to_end a b (string_bytes c.args.path.now) c.args.bytes.now left c.loop-left.invariant.grew (empty left none);
      touches = c.loop-left.invariant.touches;
      err = tt;
    }

pub returns-in_err-append_piece-clause-touches : goal.returns-in_err-append_piece-clause-touches
returns-in_err-append_piece-clause-touches g c =
    touches_more (g.F.Files.state c.args.files.now) (g.F.Files.state c.loop-left.files) (g.F.Files.state c.append_piece.new.files)
    (string_bytes c.args.path.now) c.loop-left.invariant.touches c.append_piece.ensures.touches

pub append_piece-requires : goal.append_piece-requires
append_piece-requires g c = record {
  most = omega (arith, c.split_at.ensures.front_len, c.min.ensures);
  there = c.loop-left.invariant.grew.grew.there c.requires;
}
