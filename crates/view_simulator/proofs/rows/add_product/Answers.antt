use Rattle.std.proofs.Common.{sym, ◌∙◌, ap, subst}
use Rattle.multiply.specs.Multiplying.{mul_protocol}
use Rattle.gates.specs.Clear.{ring_of}
use Rattle.joint_run.specs.Three.{each_of}
use Rattle.view_simulator.specs.Sources.{SourceWords, IsDrawn, Brings, block_mail}
use Rattle.view_simulator.proofs.RowMails.{product-brings}
use Rattle.view_simulator.proofs.rows.add_product.Goals as goal

pub returns : goal.returns
returns c =
    let i = c.args.miner in
    let r = ring_of c.args.ring in
    let s : SourceWords = record { u = c.sources.inside.u.now; words = c.sources.inside.words; opened = c.sources.inside.opened.now } in
    subst (λ v. Brings i (block_mail (mul_protocol r) i v) c.args.mails.now c.push_previous-2.new.self) c.sources.view_is
    (product-brings s i c.args.mails.now r c.push_previous.new.self c.push_previous-2.new.self c.of-masks.result.now c.of.result.now
    (subst (IsDrawn (mul_protocol r)) (sym c.sources.view_is) c.requires.drawn)
    (c.of-masks.ensures ∙ ap (each_of s.words) c.previous.ensures) (c.of.ensures ∙ ap (each_of s.words) c.next.ensures)
    c.in_ok-push_previous.ensures.previous c.in_ok-push_previous.ensures.next c.in_ok-push_previous-2.ensures.previous c.in_ok-push_previous-2.ensures.next)
