use Rattle.std.proofs.Common.{◌+◌, [], ◌∷◌, ◌≡◌, ◌++◌, ap, ◌∙◌, sym, take, get_or}
use Rattle.std.specs.Prelude.{map}
use Rattle.std.proofs.lemmas.List.{take_more, map-append}
use Rattle.program_trees.specs.Statements.{statement, statements_of}
use Rattle.declarations.specs.Views.{declared}
use Rattle.name_resolution.specs.Order.{called_by, called_by_all}
use Rattle.name_resolution.specs.inner.Views.{found_seen}
use Rattle.name_resolution.proofs.Calls.{called_by_all_more}
use Rattle.name_resolution.proofs.order.+statements.Goals as goal

pub in_statements-loop-each-preserved : goal.in_statements-loop-each-preserved
in_statements-loop-each-preserved t c =
    let xs = c.deref-each-items.result.now in
    let i = c.loop-each.each-index in
    let x = c.each-item.result in
    let ts = map statement (take i xs) in
    let d = declared c.args.declarations.now in
    let fs = found_seen c.args.found in
    let more : map statement (take (i + 1) xs) ≡ ts ++ statement x ∷ [] = ap (map statement) (take_more xs i x c.loop-each-test.true)
    ∙ map-append statement (take i xs) (get_or xs i x ∷ []) ∙ ap (λ z. ts ++ statement z ∷ []) (sym c.each-item.is) in
    c.in_ok-found.ensures
    ∙ ap (λ l. called_by d l (statement x)) c.loop-each.invariant
    ∙ sym (called_by_all_more d fs ts (statement x))
    ∙ ap (λ l. called_by_all d fs (statements_of l)) (sym more)
