use Rattle.std.proofs.Common.{◌+◌, [], ◌∷◌, ◌≡◌, ◌++◌, ap, ◌∙◌, sym, take, get_or, Some, None}
use Rattle.std.specs.Prelude.{map}
use Rattle.std.proofs.lemmas.List.{take_all, take_more, map-append}
use Rattle.program_trees.specs.Statements.{statement, statements_of, start_tree, step_tree, optional}
use Rattle.program_trees.specs.Equations.{for_statement_is}
use Rattle.declarations.specs.Views.{declared}
use Rattle.program_trees.specs.TypedStatements.{typed_statement, typed_statements_of}
use Rattle.name_resolution.specs.Scopes.{FunctionScope}
use Rattle.name_resolution.specs.Bodies.{looped, resolved, resolved_all}
use Rattle.name_resolution.specs.inner.Views.{place_seen, with_place, typed_statements_seen}
use Rattle.name_resolution.proofs.Growing.{map_one}
use Rattle.name_resolution.proofs.Missing.{passed_on, statements_none}
use Rattle.name_resolution.proofs.Sequences.{resolved_all_more, place_made}
use Rattle.name_resolution.proofs.Blocks.{block_fits, block_left, block_made}
use Rattle.name_resolution.proofs.statements.+statements.Goals as goal

pub statements-loop-each-preserved : goal.statements-loop-each-preserved
statements-loop-each-preserved t c =
    let xs = c.deref-each-items.result.now in
    let i = c.loop-each.each-index in
    let x = c.each-item.result in
    let ts = map statement (take i xs) in
    let d = declared c.args.declarations.now in
    let more : map statement (take (i + 1) xs) ≡ ts ++ statement x ∷ [] = ap (map statement) (take_more xs i x c.loop-each-test.true)
    ∙ map-append statement (take i xs) (get_or xs i x ∷ []) ∙ ap (λ z. ts ++ statement z ∷ []) (sym c.each-item.is) in
    record {
      made =
          ap (λ l. resolved_all d (statements_of l) (place_seen c.args.place.now)) more
          ∙ resolved_all_more d ts (statement x) (place_seen c.args.place.now) (place_seen c.loop-each.place) (place_seen c.statement.new.place)
          (map typed_statement c.loop-each.made.items) (typed_statement c.in_ok-next.next) c.loop-each.invariant.made c.in_ok-next.ensures.made
          ∙ ap (λ l. Some (place_made (typed_statements_of l) (place_seen c.statement.new.place)))
          (sym (ap (map typed_statement) c.in_ok-push.ensures.items ∙ map_one typed_statement c.loop-each.made.items c.in_ok-next.next));
      outer = c.in_ok-next.ensures.outer ∙ c.loop-each.invariant.outer;
    }

pub statements-returns-in_err-next-clause-made : goal.statements-returns-in_err-next-clause-made
statements-returns-in_err-next-clause-made t c =
    let xs = c.deref-each-items.result.now in
    let x = c.each-item.result in
    let d = declared c.args.declarations.now in
    let s = place_seen c.args.place.now in
    let r = place_seen c.loop-each.place in
    let none : resolved d (statement x) r ≡ None → resolved_all d (statements_of (map statement c.args.list.now.items)) s ≡ None =
    λ e. ap (λ l. resolved_all d (statements_of (map statement l)) s) (sym c.deref-each-items.ensures.value)
    ∙ statements_none d xs c.loop-each.each-index x s r (typed_statements_of (map typed_statement c.loop-each.made.items)) c.loop-each-test.true
    c.each-item.is c.loop-each.invariant.made e in
    passed_on (with_place typed_statement (place_seen c.statement.new.place)) (with_place typed_statements_seen (place_seen c.statement.new.place))
    c.in_err-next.field-0.0 (resolved d (statement x) r) _ c.from_residual.result c.from_residual.ensures.1 none c.in_err-next.ensures.made

pub statements-returns-clause-made : goal.statements-returns-clause-made
statements-returns-clause-made t c =
    let all = take_all c.loop-each.each-index c.deref-each-items.result.now c.loop-each-test.false ∙ c.deref-each-items.ensures.value in
    ap (λ l. resolved_all (declared c.args.declarations.now) (statements_of (map statement l)) (place_seen c.args.place.now)) (sym all)
    ∙ c.loop-each.invariant.made

pub statement-leave-requires : goal.statement-leave-requires
statement-leave-requires t c =
    block_fits (place_seen c.args.place.now) (place_seen c.enter-outer.new.self)
    (place_seen c.statements.new.place) c.enter-outer.result c.enter-outer.ensures.inner c.enter-outer.ensures.outer c.in_ok-inner-in-Block.ensures.outer

pub statement-leave-requires-in-For : goal.statement-leave-requires-in-For
statement-leave-requires-in-For t c =
    block_fits (place_seen c.args.place.now) (place_seen c.enter-outer-in-For.new.self)
    (place_seen c.looped.new.place) c.enter-outer-in-For.result c.enter-outer-in-For.ensures.inner c.enter-outer-in-For.ensures.outer
    c.in_ok-made-in-For.ensures.outer

pub statement-returns-in_ok-made-in-For-clause-made : goal.statement-returns-in_ok-made-in-For-clause-made
statement-returns-in_ok-made-in-For-clause-made t c =
    let d = declared c.args.declarations.now in
    let s = place_seen c.args.place.now in
    let e = place_seen c.enter-outer-in-For.new.self in
    let body : c.deref-in-For.result.now ≡ c.in-For.body.value = cc in
    let parts = looped d (start_tree c.in-For.start) (optional c.in-For.e) (step_tree c.in-For.step) in
    ap (λ t. resolved d t s) (ap statement c.in-For.is ∙ for_statement_is _ _ _ _ _)
    ∙ block_made (parts (resolved d (statement c.in-For.body.value))) s e (place_seen c.looped.new.place)
    (place_seen c.leave-in-For.new.self) c.enter-outer-in-For.result (typed_statement c.in_ok-made-in-For.made) c.enter-outer-in-For.ensures.inner
    c.enter-outer-in-For.ensures.outer
    (ap (λ z. parts (resolved d (statement z)) e) (sym body) ∙ c.in_ok-made-in-For.ensures.made) c.in_ok-made-in-For.ensures.outer c.leave-in-For.ensures

pub statement-returns-in_ok-made-in-For-clause-outer : goal.statement-returns-in_ok-made-in-For-clause-outer
statement-returns-in_ok-made-in-For-clause-outer t c =
    ap (λ (p : FunctionScope). p.scope.outer)
    (block_left (place_seen c.args.place.now) (place_seen c.enter-outer-in-For.new.self) (place_seen c.looped.new.place)
    (place_seen c.leave-in-For.new.self) c.enter-outer-in-For.result c.enter-outer-in-For.ensures.inner c.enter-outer-in-For.ensures.outer
    c.in_ok-made-in-For.ensures.outer c.leave-in-For.ensures)

pub inside-leave-requires : goal.inside-leave-requires
inside-leave-requires t c =
    block_fits (place_seen c.args.place.now) (place_seen c.enter-outer.new.self)
    (place_seen c.statement.new.place) c.enter-outer.result c.enter-outer.ensures.inner c.enter-outer.ensures.outer c.in_ok-made.ensures.outer
