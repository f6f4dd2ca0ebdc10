use Rattle.std.proofs.Common.{◌+◌, [], ◌∷◌, ◌≡◌, ◌++◌, ap, ◌∙◌, sym, take, get_or}
use Rattle.std.specs.Prelude.{map}
use Rattle.std.proofs.lemmas.List.{take_more, map-append}
use Rattle.program_trees.specs.Tree.{expression, trees_of}
use Rattle.name_resolution.specs.Sizes.{nodes, nodes_all, counted}
use Rattle.name_resolution.proofs.Counts.{nodes_all_more}
use Rattle.name_resolution.proofs.sizes.+nodes.Goals as goal

pub nodes_all-loop-each-preserved : goal.nodes_all-loop-each-preserved
nodes_all-loop-each-preserved t c =
    let xs = c.deref-each-items.result.now in
    let i = c.loop-each.each-index in
    let x = c.each-item.result in
    let ts = map expression (take i xs) in
    let more : map expression (take (i + 1) xs) ≡ ts ++ expression x ∷ [] = ap (map expression) (take_more xs i x c.loop-each-test.true)
    ∙ map-append expression (take i xs) (get_or xs i x ∷ []) ∙ ap (λ z. ts ++ expression z ∷ []) (sym c.each-item.is) in
    c.both-count.ensures (nodes_all (trees_of ts)) (nodes (expression x)) c.loop-each.invariant c.nodes.ensures
    ∙ ap counted (sym (nodes_all_more ts (expression x)) ∙ ap (λ l. nodes_all (trees_of l)) (sym more))
