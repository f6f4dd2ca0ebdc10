use Rattle.std.proofs.Common.{◌≡◌, ◌+◌, [], ◌∷◌, ◌++◌, sym, ap, ap₂, ◌∙◌, take, get_or}
use Rattle.std.specs.Prelude.{map}
use Rattle.std.proofs.lemmas.List.{take_more, map-append}
use Rattle.program_trees.specs.TypedTree.{typed_tree, typed_trees_of}
use Rattle.reached_instances.specs.Domains.{domains}
use Rattle.reached_instances.specs.Calls.{calls, calls_of_all}
use Rattle.reached_instances.specs.Views.{setting, instances_seen}
use Rattle.reached_instances.proofs.Growing.{domains_more, calls_of_all_more, then_calls}
use Rattle.reached_instances.proofs.expressions.+expressions.Goals as goal

pub expressions-loop-each-preserved : goal.expressions-loop-each-preserved
expressions-loop-each-preserved t c =
    let xs = c.deref-each-items.result.now in
    let i = c.loop-each.each-index in
    let x = c.each-item.result in
    let ts = map typed_tree (take i xs) in
    let w = setting c.args.here.now in
    let before = instances_seen c.args.found.now.items in
    let more : map typed_tree (take (i + 1) xs) ≡ ts ++ typed_tree x ∷ [] = ap (map typed_tree) (take_more xs i x c.loop-each-test.true)
    ∙ map-append typed_tree (take i xs) (get_or xs i x ∷ []) ∙ ap (λ z. ts ++ typed_tree z ∷ []) (sym c.each-item.is) in
    record {
      domains =
          c.in_ok-push.ensures.items
          ∙ ap₂ (λ ds d. ds ++ d ∷ []) c.loop-each.invariant.domains c.in_ok-domain.ensures.domain
          ∙ sym (domains_more w ts (typed_tree x))
          ∙ ap (λ l. domains w (typed_trees_of l)) (sym more);
      calls =
          then_calls before (instances_seen c.loop-each.found.items) (instances_seen c.expression.new.found.items)
          (calls_of_all w (typed_trees_of ts)) (calls w (typed_tree x)) c.loop-each.invariant.calls c.in_ok-domain.ensures.calls
          ∙ ap (λ l. before ++ l) (sym (calls_of_all_more w ts (typed_tree x)) ∙ ap (λ l. calls_of_all w (typed_trees_of l)) (sym more));
    }
