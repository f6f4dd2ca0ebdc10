use Rattle.std.proofs.Common.{◌+◌, [], ◌∷◌, ◌≡◌, ◌++◌, ap, ◌∙◌, sym, take, get_or}
use Rattle.std.specs.Prelude.{map}
use Rattle.std.proofs.lemmas.List.{take_more, map-append}
use Rattle.program_trees.specs.Statements.{statement, statements_of}
use Rattle.name_resolution.specs.Sizes.{statement_nodes, statements_nodes, counted}
use Rattle.name_resolution.proofs.Counts.{statements_nodes_more}
use Rattle.name_resolution.proofs.sizes.+statements.Goals as goal

pub statements_nodes-loop-each-preserved : goal.statements_nodes-loop-each-preserved
statements_nodes-loop-each-preserved t c =
    let xs = c.deref-each-items.result.now in
    let i = c.loop-each.each-index in
    let x = c.each-item.result in
    let ts = map statement (take i xs) in
    let more : map statement (take (i + 1) xs) ≡ ts ++ statement x ∷ [] = ap (map statement) (take_more xs i x c.loop-each-test.true)
    ∙ map-append statement (take i xs) (get_or xs i x ∷ []) ∙ ap (λ z. ts ++ statement z ∷ []) (sym c.each-item.is) in
    c.both-count.ensures (statements_nodes (statements_of ts)) (statement_nodes (statement x)) c.loop-each.invariant c.statement_nodes.ensures
    ∙ ap counted (sym (statements_nodes_more ts (statement x)) ∙ ap (λ l. statements_nodes (statements_of l)) (sym more))
