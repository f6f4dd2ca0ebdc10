use Rattle.std.proofs.Common.{◌≡◌, ◌+◌, [], ◌∷◌, ◌++◌, sym, ap, ◌∙◌, take, get_or}
use Rattle.std.specs.Prelude.{map}
use Rattle.std.proofs.lemmas.List.{take_more, map-append}
use Rattle.program_trees.specs.TypedStatements.{typed_statement, typed_statements_of}
use Rattle.reached_instances.specs.Calls.{typed_statement_calls, typed_statements_calls}
use Rattle.reached_instances.specs.Views.{setting, instances_seen}
use Rattle.reached_instances.proofs.Growing.{typed_statements_calls_more, then_calls}
use Rattle.reached_instances.proofs.statements.+statements.Goals as goal

pub statements-loop-each-preserved : goal.statements-loop-each-preserved
statements-loop-each-preserved t c =
    let xs = c.deref-each-items.result.now in
    let i = c.loop-each.each-index in
    let x = c.each-item.result in
    let cs = map typed_statement (take i xs) in
    let w = setting c.args.here.now in
    let before = instances_seen c.args.found.now.items in
    let more : map typed_statement (take (i + 1) xs) ≡ cs ++ typed_statement x ∷ [] =
    ap (map typed_statement) (take_more xs i x c.loop-each-test.true) ∙ map-append typed_statement (take i xs) (get_or xs i x ∷ [])
    ∙ ap (λ z. cs ++ typed_statement z ∷ []) (sym c.each-item.is) in
    then_calls before (instances_seen c.loop-each.found.items) (instances_seen c.statement.new.found.items) (typed_statements_calls w (typed_statements_of cs))
    (typed_statement_calls w (typed_statement x)) c.loop-each.invariant c.in_ok-statement.ensures
    ∙ ap (λ l. before ++ l) (sym (typed_statements_calls_more w cs (typed_statement x)) ∙ ap (λ l. typed_statements_calls w (typed_statements_of l)) (sym more))
