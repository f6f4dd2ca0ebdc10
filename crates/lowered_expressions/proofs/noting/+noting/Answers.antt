use Rattle.std.proofs.Common.{◌≡◌, ◌+◌, ◌*◌, ◌<◌, ◌≤◌, ◌-◌, suc, [], ◌∷◌, ◌++◌, length, sym, ap, ap₂, ◌∙◌, subst, take, get_or, arith, rules}
use Rattle.std.proofs.Common.{append_assoc, length-append}
use Rattle.std.specs.Prelude.{map}
use Rattle.std.proofs.lemmas.List.{take_more, map-append, length_push}
use Rattle.program_trees.specs.declared.typed_expression.TypedExpression.{TypedExpression}
use Rattle.program_trees.specs.TypedTree.{typed_tree, typed_trees_of}
use Rattle.reached_instances.specs.Domains.{domains}
use Rattle.reached_instances.specs.Views.{setting}
use Rattle.reached_instances.proofs.Growing.{domains_more}
use Rattle.code_model.proofs.Widths.{width, widths}
use Rattle.lowered_expressions.specs.inner.Notes.{arguments_notes, notes_of, operands_notes}
use Rattle.lowered_expressions.proofs.Arguments as several
use Rattle.lowered_expressions.proofs.Noted.{arguments_notes_more, note_set}
use Rattle.lowered_expressions.proofs.noting.+noting.Goals as goal

pub note_arguments-note-requires : goal.note_arguments-note-requires
note_arguments-note-requires t c =
    let es = c.deref-each-items.result.now in
    let i = c.loop-each.each-index in
    let x = c.each-item.result in
    let within : width (typed_tree x) + 1 ≤ widths (typed_trees_of (map typed_tree c.args.list.now.items)) =
    subst (λ ys. width (typed_tree x) + 1 ≤ widths (typed_trees_of (map typed_tree ys))) c.deref-each-items.ensures.value
    (subst (λ (y : TypedExpression). width (typed_tree y) + 1 ≤ widths (typed_trees_of (map typed_tree es))) (sym c.each-item.is)
    (several.widths_item es i x c.loop-each-test.true)) in
    let smaller : 3 * width (typed_tree x) + 1 < 3 * widths (typed_trees_of (map typed_tree c.args.list.now.items)) + 1 = omega arith in
    search rules

pub note_arguments-loop-each-preserved : goal.note_arguments-loop-each-preserved
note_arguments-loop-each-preserved t c =
    let xs = c.deref-each-items.result.now in
    let i = c.loop-each.each-index in
    let x = c.each-item.result in
    let ts = map typed_tree (take i xs) in
    let w = setting c.args.here.now in
    let old = c.args.notes.now.items in
    let more : map typed_tree (take (i + 1) xs) ≡ ts ++ typed_tree x ∷ [] = ap (map typed_tree) (take_more xs i x c.loop-each-test.true)
    ∙ map-append typed_tree (take i xs) (get_or xs i x ∷ []) ∙ ap (λ z. ts ++ typed_tree z ∷ []) (sym c.each-item.is) in
    record {
      notes =
          c.in_ok-given.ensures.notes
          ∙ ap (λ z. z ++ notes_of w (typed_tree x)) c.loop-each.invariant.notes
          ∙ append_assoc old (arguments_notes w (typed_trees_of ts)) (notes_of w (typed_tree x))
          ∙ ap (λ z. old ++ z) (sym (arguments_notes_more w ts (typed_tree x)) ∙ ap (λ l. arguments_notes w (typed_trees_of l)) (sym more));
      domains =
          c.in_ok-push.ensures.items
          ∙ ap₂ (λ ds d. ds ++ d ∷ []) c.loop-each.invariant.domains (ap (λ g. g.domain) c.in_ok-given.ensures.given)
          ∙ sym (domains_more w ts (typed_tree x))
          ∙ ap (λ l. domains w (typed_trees_of l)) (sym more);
    }

pub note-returns-clause-notes : goal.note-returns-clause-notes
note-returns-clause-notes t c =
    let w = setting c.args.here.now in
    let e = typed_tree c.args.e.now in
    let old = c.args.notes.now.items in
    let parts = operands_notes w e in
    let all = c.note_operands.new.notes.items in
    let held : all ≡ (old ++ c.nothing_noted.result ∷ []) ++ parts = c.in_ok-given.ensures.notes ∙ ap (λ z. z ++ parts) c.in_ok-push.ensures.items in
    let place : c.len-place.result ≡ length old = c.len-place.ensures ∙ c.args.notes.now.ok.0 in
    let many : c.len.result ≡ length all = c.len.ensures ∙ c.note_operands.new.notes.ok.0 in
    let long : length all ≡ length old + 1 + length parts =
    ap length held ∙ length-append (old ++ c.nothing_noted.result ∷ []) parts ∙ ap (λ n. n + length parts) (length_push old c.nothing_noted.result) in
    let nodes : c.len.result - c.len-place.result ≡ suc (length parts) = omega (arith, place, many, long) in
    note_set old parts all c.nothing_noted.result (record { given = c.in_ok-given.given; nodes = c.len.result - c.len-place.result }) c.len-place.result
    held place
    ∙ ap₂ (λ g n. old ++ record { given = g; nodes = n } ∷ parts) c.in_ok-given.ensures.given nodes
