use Rattle.std.proofs.Common.{ℕ, List, sym, subst, string_bytes}
use Rattle.proto_core.proofs.Beginnings.{append-none}
use Rattle.command_frame.specs.Finish.{Grew, GrewUpTo}
use Rattle.command_frame.proofs.writing.append_enough.Goals as goal

pub returns : goal.returns
returns g c =
    let a = g.F.Files.state c.args.files.now in
    let d = g.F.Files.state c.append_bytes.new.files in
    let path = string_bytes c.args.path.now in
    let text = string_bytes c.args.text.now in
    let grew : Grew path text a d = subst (λ (x : List ℕ). Grew path x a d) c.as_bytes.ensures.value c.in_ok-append_bytes.ensures.ok in
    record {
      ok =
          subst (λ (x : List ℕ). GrewUpTo path text x a d) (sym c.clear.ensures.bytes)
          (record { sent = text; order = sym (append-none text); grew = grew });
      touches = c.in_ok-append_bytes.ensures.touches;
      err = tt;
    }
