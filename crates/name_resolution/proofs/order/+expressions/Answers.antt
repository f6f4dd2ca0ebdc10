use Rattle.std.proofs.Common.{◌+◌, [], ◌∷◌, ◌≡◌, ◌++◌, ap, ◌∙◌, sym, take, get_or}
use Rattle.std.specs.Prelude.{map}
use Rattle.std.proofs.lemmas.List.{take_more, map-append}
use Rattle.program_trees.specs.Tree.{expression, trees_of}
use Rattle.declarations.specs.Views.{declared}
use Rattle.name_resolution.specs.Order.{called_in, called_in_all}
use Rattle.name_resolution.specs.inner.Views.{found_seen}
use Rattle.name_resolution.proofs.Calls.{called_in_all_more}
use Rattle.name_resolution.proofs.order.+expressions.Goals as goal

pub in_expressions-loop-each-preserved : goal.in_expressions-loop-each-preserved
in_expressions-loop-each-preserved t c =
    let xs = c.deref-each-items.result.now in
    let i = c.loop-each.each-index in
    let x = c.each-item.result in
    let ts = map expression (take i xs) in
    let d = declared c.args.declarations.now in
    let fs = found_seen c.args.found in
    let more : map expression (take (i + 1) xs) ≡ ts ++ expression x ∷ [] = ap (map expression) (take_more xs i x c.loop-each-test.true)
    ∙ map-append expression (take i xs) (get_or xs i x ∷ []) ∙ ap (λ z. ts ++ expression z ∷ []) (sym c.each-item.is) in
    c.in_ok-found.ensures
    ∙ ap (λ l. called_in d l (expression x)) c.loop-each.invariant
    ∙ sym (called_in_all_more d fs ts (expression x))
    ∙ ap (λ l. called_in_all d fs (trees_of l)) (sym more)
