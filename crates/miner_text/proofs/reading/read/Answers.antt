use Rattle.std.proofs.Common.{sym, ◌∙◌, ap, arith, ◌+◌, length}
use Rattle.std.proofs.lemmas.Bool.Decides.{nat_tests}
use Rattle.miner_text.specs.Reading.{lines_from}
use Rattle.view_reader.proofs.LinesRead.{left_from}
use Rattle.miner_text.proofs.Walk.{behind, begun, no_parts, line_more, line_wrong, lines_behind, rest_behind, all_read}
use Rattle.miner_text.proofs.reading.read.Goals.{then-index-lines-via-then-index-lines, then-index-lines-via-else-index-lines+then-not-is_empty}
use Rattle.miner_text.proofs.reading.read.Goals as goal

pub returns-in_default : goal.returns-in_default
returns-in_default c =
    no_parts c.args.bytes.now c.in_ok-parts.parts.items c.in_ok-parts.ensures (sym (ap length c.deref.ensures.value) ∙ c.in_default.ensures.cases)

pub loop-index-init : goal.loop-index-init
loop-index-init c =
    begun c.args.bytes.now c.in_ok-parts.parts.items c.in-Some.lines.now c.in-Some.rest.now c.in_ok-parts.ensures
    (sym c.deref.ensures.value ∙ c.in-Some.ensures.cases.0)
    ∙ ap (λ ls. behind ls (lines_from (0 + 1) (left_from 0 c.in-Some.lines.now c.in-Some.rest.now.now))) (sym c.new-read.ensures.items)

pub returns-in-Wrong : goal.returns-in-Wrong
returns-in-Wrong c =
    line_wrong c.args.bytes.now c.loop-index.read.items c.in-Some.lines.now c.loop-index.index c.in-Some.rest.now.now c.push_line.new.lines.items _
    (omega arith) c.loop-index.invariant (rw c.in-Wrong.is at c.in_ok-push_line.ensures)

pub loop-index-preserved : goal.loop-index-preserved
loop-index-preserved c =
    line_more c.args.bytes.now c.loop-index.read.items c.in-Some.lines.now c.loop-index.index c.in-Some.rest.now.now c.push_line.new.lines.items _
    (omega arith) c.loop-index.invariant (rw c.in-Inner.is at c.in_ok-push_line.ensures)

pub returns-then-index-lines : goal.returns-then-index-lines
returns-then-index-lines c =
    elim c.then-index-lines.branch [
      | then-index-lines-via-then-index-lines w ↦
          lines_behind c.args.bytes.now c.loop-index.read.items c.in-Some.lines.now c.loop-index.index c.in-Some.rest.now.now
          c.push_line.new.lines.items _ (omega arith) c.loop-index.invariant (rw c.in-Last.is at c.in_ok-push_line.ensures) w.if-index-lines.true
      | then-index-lines-via-else-index-lines+then-not-is_empty w ↦
          rest_behind c.args.bytes.now c.loop-index.read.items c.in-Some.lines.now c.loop-index.index c.in-Some.rest.now.now
          c.push_line.new.lines.items _ (omega arith) c.loop-index.invariant (rw c.in-Last.is at c.in_ok-push_line.ensures) (grind (arith, nat_tests))
    ]

pub returns-in-Last : goal.returns-in-Last
returns-in-Last c =
    all_read c.args.bytes.now c.loop-index.read.items c.in-Some.lines.now c.loop-index.index c.in-Some.rest.now.now c.push_line.new.lines.items _
    (omega arith) c.loop-index.invariant (rw c.in-Last.is at c.in_ok-push_line.ensures) (omega arith) (grind (arith, nat_tests))
