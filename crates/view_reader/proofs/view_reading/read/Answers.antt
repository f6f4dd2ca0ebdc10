use Rattle.std.proofs.Common.{sym, ◌∙◌, ap, arith, ◌+◌, length}
use Rattle.view_text.specs.Reading.{read_from}
use Rattle.view_reader.proofs.OpenedRead.{left_from}
use Rattle.view_reader.proofs.ViewRead.{view_begun, no_view_parts, view_line}
use Rattle.view_reader.proofs.view_reading.read.Goals as goal

pub returns-in_default : goal.returns-in_default
returns-in_default c =
    no_view_parts c.args.bytes.now c.in_ok-parts.parts.items c.in_ok-parts.ensures (sym (ap length c.deref.ensures.value) ∙ c.in_default.ensures.cases)

pub loop-index-init : goal.loop-index-init
loop-index-init c =
    view_begun c.args.bytes.now c.in_ok-parts.parts.items c.in-Some.lines.now c.in-Some.rest.now c.in_ok-parts.ensures
    (sym c.deref.ensures.value ∙ c.in-Some.ensures.cases.0)
    ∙ ap (λ stage. read_from (0 + 1) stage (left_from 0 c.in-Some.lines.now c.in-Some.rest.now.now)) (sym c.new-reading.ensures)

pub loop-index-preserved : goal.loop-index-preserved
loop-index-preserved c =
    view_line c.args.bytes.now c.loop-index.reading c.in-Some.lines.now c.loop-index.index c.in-Some.rest.now.now c.take_line.new.self _
    (omega arith) c.loop-index.invariant (rw c.if-not-branch.false at c.in_ok-take_line.ensures)
