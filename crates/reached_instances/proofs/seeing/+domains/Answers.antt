use Rattle.std.proofs.Common.{◌≡◌, ◌+◌, [], ◌∷◌, ◌++◌, sym, ap, ap₂, ◌∙◌, take, get_or}
use Rattle.std.specs.Prelude.{map}
use Rattle.std.proofs.lemmas.List.{take_more, map-append}
use Rattle.program_trees.specs.TypedTree.{typed_tree, typed_trees_of}
use Rattle.reached_instances.specs.Domains.{domains}
use Rattle.reached_instances.specs.Views.{setting}
use Rattle.reached_instances.proofs.Growing.{domains_more}
use Rattle.reached_instances.proofs.seeing.+domains.Goals as goal

pub domains-loop-each-preserved : goal.domains-loop-each-preserved
domains-loop-each-preserved t c =
    let xs = c.deref-each-items.result.now in
    let i = c.loop-each.each-index in
    let x = c.each-item.result in
    let ts = map typed_tree (take i xs) in
    let w = setting c.args.here.now in
    let more : map typed_tree (take (i + 1) xs) ≡ ts ++ typed_tree x ∷ [] = ap (map typed_tree) (take_more xs i x c.loop-each-test.true)
    ∙ map-append typed_tree (take i xs) (get_or xs i x ∷ []) ∙ ap (λ z. ts ++ typed_tree z ∷ []) (sym c.each-item.is) in
    c.in_ok-push.ensures.items
    ∙ ap₂ (λ ds d. ds ++ d ∷ []) c.loop-each.invariant c.in_ok-domain.ensures
    ∙ sym (domains_more w ts (typed_tree x))
    ∙ ap (λ l. domains w (typed_trees_of l)) (sym more)
