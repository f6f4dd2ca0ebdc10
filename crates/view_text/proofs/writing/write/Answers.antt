use Rattle.std.proofs.Common.{Vec, List, ℕ, Global, ◌++◌, ap, sym, ◌∙◌, string_bytes}
use Rattle.proto_core.proofs.Beginnings.{append-none}
use Rattle.view_text.proofs.writing.write.Goals as goal

pub returns : goal.returns
returns c =
    let t = string_bytes c.push_next.new.text in
    ap (λ (v : Vec ℕ Global). v.items) c.into_bytes.ensures.value
    ∙ sym (append-none t)
    ∙ ap (λ (x : List ℕ). t ++ x) (sym (c.in_ok-push_next.ensures.through c.if-branch.false))
    ∙ c.in_ok-push_next.ensures.given
    ∙ c.loop-text.invariant
