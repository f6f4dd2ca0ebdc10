use Rattle.std.proofs.Common.{sym, ap, ◌∙◌}
use Rattle.secrec_lexer.specs.declared.piece.Piece.TheVariants.{Blank, Lexeme}
use Rattle.secrec_lexer.proofs.Turns.{at_offset, place_moved, cut_start, cut_blank, cut_lexeme, cut_fault, cut_end}
use Rattle.secrec_lexer.proofs.lexing.cut.Goals as goal
use Rattle.secrec_lexer.proofs.lexing.cut.Goals.{in-Blank, in-Lexeme+in_ok-push-in-Lexeme}

pub loop-tokens-init : goal.loop-tokens-init
loop-tokens-init c = rw c.new-tokens.ensures.items (cut_start c.args.text.now c.start-place.result c.start-place.ensures)

pub returns-in-End : goal.returns-in-End
returns-in-End c =
    cut_end c.args.text.now c.loop-tokens.at c.loop-tokens.place c.loop-tokens.tokens.items c.with_end.result c.requires c.loop-tokens.invariant
    (at_offset c.args.text.now c.loop-tokens.at c.in_ok-first.field-0 _ c.in_ok-first.ensures.piece c.in-End.is)
    c.with_end.ensures.ok c.with_end.ensures.err

pub returns-in-Fault : goal.returns-in-Fault
returns-in-Fault c =
    cut_fault c.args.text.now c.loop-tokens.at c.in-Fault.before c.loop-tokens.place c.moved-place.result c.loop-tokens.tokens.items c.in-Fault.fault
    c.requires c.loop-tokens.invariant
    (at_offset c.args.text.now c.loop-tokens.at c.in_ok-first.field-0 _ c.in_ok-first.ensures.piece c.in-Fault.is)
    (place_moved c.args.text.now c.loop-tokens.at c.in-Fault.before c.loop-tokens.place c.moved-place.result c.loop-tokens.invariant.placed
    c.moved-place.ensures)

pub loop-tokens-preserved : goal.loop-tokens-preserved
loop-tokens-preserved c =
    let text = c.args.text.now in
    let offset = c.loop-tokens.at in
    let place = c.loop-tokens.place in
    let next = c.moved-place-in-loop-tokens.result in
    let size = c.match-branch-2.size in
    let moved = place_moved text offset size place next c.loop-tokens.invariant.placed c.moved-place-in-loop-tokens.ensures in
    let found = at_offset text offset c.in_ok-first.field-0 in
    elim c.match-branch-2.branch [
      | in-Blank w ↦
          rw w.tokens-is
          (cut_blank text offset size place next c.loop-tokens.tokens.items c.loop-tokens.invariant
          (found (Blank w.in-Blank.size) c.in_ok-first.ensures.piece w.in-Blank.is ∙ ap Blank (sym w.size-is)) moved)
      | in-Lexeme+in_ok-push-in-Lexeme w ↦
          rw (w.tokens-is, w.in_ok-push-in-Lexeme.ensures.items)
          (cut_lexeme text offset size place next c.loop-tokens.tokens.items w.in-Lexeme.kind c.loop-tokens.invariant
          (found (Lexeme w.in-Lexeme.kind w.in-Lexeme.size) c.in_ok-first.ensures.piece w.in-Lexeme.is ∙ ap (Lexeme w.in-Lexeme.kind) (sym w.size-is)) moved)
    ]
