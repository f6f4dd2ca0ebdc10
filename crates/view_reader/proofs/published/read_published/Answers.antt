use Rattle.std.proofs.Common.{sym, ◌∙◌, ap, arith, ◌+◌, length}
use Rattle.view_reader.specs.Opened.{read_from}
use Rattle.view_reader.specs.Published.{publication_in}
use Rattle.view_reader.proofs.PublishedRead.{behind, left_from, begun, no_parts, line_read}
use Rattle.view_reader.proofs.published.read_published.Goals as goal

pub returns-in_default : goal.returns-in_default
returns-in_default c =
    no_parts c.args.bytes.now c.in_ok-parts.parts.items c.in_ok-parts.ensures (sym (ap length c.deref.ensures.value) ∙ c.in_default.ensures.cases)

pub loop-index-init : goal.loop-index-init
loop-index-init c =
    begun c.args.bytes.now c.in_ok-parts.parts.items c.in-Some.lines.now c.in-Some.rest.now c.in_ok-parts.ensures
    (sym c.deref.ensures.value ∙ c.in-Some.ensures.cases.0)
    ∙ ap (λ words. behind words (read_from publication_in (0 + 1) (left_from 0 c.in-Some.lines.now c.in-Some.rest.now.now))) (sym c.new-published.ensures.items)

pub loop-index-preserved : goal.loop-index-preserved
loop-index-preserved c =
    line_read c.args.bytes.now c.loop-index.published.items c.push_publication.new.published.items c.in-Some.lines.now c.loop-index.index _ c.in-Some.rest.now.now
    (omega arith) c.loop-index.invariant (rw c.if-not-branch.false at c.in_ok-push_publication.ensures)
