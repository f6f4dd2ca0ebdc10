use Rattle.std.proofs.Common.{◌+◌, [], ◌∷◌, ◌≡◌, ◌++◌, ap, ◌∙◌, sym, take, get_or, Some, None}
use Rattle.std.specs.Prelude.{map}
use Rattle.std.proofs.lemmas.List.{take_all, take_more, map-append}
use Rattle.program_trees.specs.Tree.{expression, trees_of}
use Rattle.declarations.specs.Views.{declared}
use Rattle.name_resolution.specs.Values.{value, values}
use Rattle.name_resolution.specs.inner.Views.{valued, values_seen}
use Rattle.name_resolution.proofs.Growing.{map_one, values-more}
use Rattle.name_resolution.proofs.Missing.{passed_on, values_none}
use Rattle.name_resolution.proofs.values.+values.Goals as goal

pub values-loop-each-preserved : goal.values-loop-each-preserved
values-loop-each-preserved t c =
    let xs = c.deref-each-items.result.now in
    let i = c.loop-each.each-index in
    let x = c.each-item.result in
    let ts = map expression (take i xs) in
    let more : map expression (take (i + 1) xs) ≡ ts ++ expression x ∷ [] = ap (map expression) (take_more xs i x c.loop-each-test.true)
    ∙ map-append expression (take i xs) (get_or xs i x ∷ []) ∙ ap (λ z. ts ++ expression z ∷ []) (sym c.each-item.is) in
    let d = declared c.args.declarations.now in
    let s = c.args.variables.now in
    ap (λ l. values d s (trees_of l)) more
    ∙ values-more d s ts (expression x) (map valued c.loop-each.found.items) (valued c.in_ok-value.value) c.loop-each.invariant c.in_ok-value.ensures
    ∙ ap Some (sym (ap (map valued) c.in_ok-push.ensures.items ∙ map_one valued c.loop-each.found.items c.in_ok-value.value))

pub values-returns-in_err-value : goal.values-returns-in_err-value
values-returns-in_err-value t c =
    let xs = c.deref-each-items.result.now in
    let x = c.each-item.result in
    let d = declared c.args.declarations.now in
    let s = c.args.variables.now in
    let none : value d s (expression x) ≡ None → values d s (trees_of (map expression c.args.list.now.items)) ≡ None =
    λ e. ap (λ l. values d s (trees_of (map expression l))) (sym c.deref-each-items.ensures.value)
    ∙ values_none d s xs c.loop-each.each-index x c.loop-each-test.true c.each-item.is e in
    passed_on valued values_seen c.in_err-value.field-0.0 (value d s (expression x)) _ c.from_residual.result c.from_residual.ensures.1 none
    c.in_err-value.ensures

pub values-returns : goal.values-returns
values-returns t c =
    let all = take_all c.loop-each.each-index c.deref-each-items.result.now c.loop-each-test.false ∙ c.deref-each-items.ensures.value in
    ap (λ l. values (declared c.args.declarations.now) c.args.variables.now (trees_of (map expression l))) (sym all) ∙ c.loop-each.invariant
