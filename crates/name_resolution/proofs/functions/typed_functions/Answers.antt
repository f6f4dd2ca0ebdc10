use Rattle.std.proofs.Common.{◌+◌, [], ◌∷◌, ◌≡◌, ◌++◌, ap, ◌∙◌, sym, take, get_or, Some, None}
use Rattle.std.specs.Prelude.{map}
use Rattle.std.proofs.lemmas.List.{take_all, take_more, map-append}
use Rattle.declarations.specs.Views.{declared, tree_at}
use Rattle.program_trees.specs.TypedPrograms.{typed_function_tree}
use Rattle.name_resolution.specs.Functions.{typed_function, typed_functions}
use Rattle.name_resolution.specs.inner.Views.{functions_seen}
use Rattle.name_resolution.proofs.Growing.{map_one, typed_functions_more}
use Rattle.name_resolution.proofs.Missing.{passed_on, functions_none}
use Rattle.name_resolution.proofs.functions.typed_functions.Goals as goal

pub loop-each-preserved : goal.loop-each-preserved
loop-each-preserved c =
    let xs = c.deref-each-items.result.now in
    let i = c.loop-each.each-index in
    let x = c.each-item.result in
    let d = declared c.args.declarations.now in
    let ts = map tree_at (take i xs) in
    let more : map tree_at (take (i + 1) xs) ≡ ts ++ tree_at x ∷ [] =
    ap (map tree_at) (take_more xs i x c.loop-each-test.true) ∙ map-append tree_at (take i xs) (get_or xs i x ∷ [])
    ∙ ap (λ z. ts ++ tree_at z ∷ []) (sym c.each-item.is) in
    ap (typed_functions d) more
    ∙ typed_functions_more d ts (tree_at x) (map typed_function_tree c.loop-each.made.items)
    (typed_function_tree c.in_ok-next.next) c.loop-each.invariant c.in_ok-next.ensures
    ∙ ap Some (sym (ap (map typed_function_tree) c.in_ok-push.ensures.items ∙ map_one typed_function_tree c.loop-each.made.items c.in_ok-next.next))

pub returns-in_err-next : goal.returns-in_err-next
returns-in_err-next c =
    let xs = c.deref-each-items.result.now in
    let x = c.each-item.result in
    let d = declared c.args.declarations.now in
    let none : typed_function d (tree_at x) ≡ None → typed_functions d (map tree_at c.args.declarations.now.functions.items) ≡ None =
    λ e. ap (λ l. typed_functions d (map tree_at l)) (sym c.deref-each-items.ensures.value)
    ∙ functions_none d xs c.loop-each.each-index x c.loop-each-test.true c.each-item.is e in
    passed_on typed_function_tree functions_seen c.in_err-next.field-0.0
    (typed_function d (tree_at x)) _ c.from_residual.result c.from_residual.ensures.1 none c.in_err-next.ensures

pub returns : goal.returns
returns c =
    let all = take_all c.loop-each.each-index c.deref-each-items.result.now c.loop-each-test.false ∙ c.deref-each-items.ensures.value in
    ap (λ l. typed_functions (declared c.args.declarations.now) (map tree_at l)) (sym all) ∙ c.loop-each.invariant
