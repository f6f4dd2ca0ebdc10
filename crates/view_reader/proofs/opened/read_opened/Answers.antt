use Rattle.std.proofs.Common.{sym, ◌∙◌, ap, arith, ◌+◌, length}
use Rattle.view_reader.specs.Opened.{openings_from}
use Rattle.view_reader.proofs.OpenedRead.{behind, left_from, begun, no_parts, line_read}
use Rattle.view_reader.proofs.opened.read_opened.Goals as goal

pub returns-in_default : goal.returns-in_default
returns-in_default c =
    no_parts c.args.bytes.now c.in_ok-parts.parts.items c.in_ok-parts.ensures (sym (ap length c.deref.ensures.value) ∙ c.in_default.ensures.cases)

pub loop-index-init : goal.loop-index-init
loop-index-init c =
    begun c.args.bytes.now c.in_ok-parts.parts.items c.in-Some.lines.now c.in-Some.rest.now c.in_ok-parts.ensures
    (sym c.deref.ensures.value ∙ c.in-Some.ensures.cases.0)
    ∙ ap (λ words. behind words (openings_from (0 + 1) (left_from 0 c.in-Some.lines.now c.in-Some.rest.now.now))) (sym c.new-opened.ensures.items)

pub loop-index-preserved : goal.loop-index-preserved
loop-index-preserved c =
    line_read c.args.bytes.now c.loop-index.opened.items c.push_opening.new.opened.items c.in-Some.lines.now c.loop-index.index _ c.in-Some.rest.now.now
    (omega arith) c.loop-index.invariant (rw c.if-not-branch.false at c.in_ok-push_opening.ensures)
