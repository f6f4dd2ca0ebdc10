use Rattle.std.proofs.Common.{◌≡◌, ℕ, ◌+◌, ◌-◌, ◌<◌, true, false, [], ◌∷◌, ◌++◌, length, take, get_or, refl, sym, ap, ◌∙◌, subst, arith, rules}
use Rattle.std.specs.Prelude.{map}
use Rattle.std.proofs.lemmas.List.{take_more, map-append, length-set}
use Rattle.program_trees.specs.declared.typed_statement.TypedStatement.{TypedStatement}
use Rattle.program_trees.specs.TypedTree.{typed_tree}
use Rattle.program_trees.specs.TypedStatements.{typed_statement, typed_statements_of}
use Rattle.verified_code.specs.Steps.{Branch, Jump, ReturnNone}
use Rattle.code_model.specs.Expressions.{stands_at, expression_code}
use Rattle.code_model.specs.Statements.{first_free}
use Rattle.lowered_expressions.specs.Built.{Built, whole}
use Rattle.lowered_expressions.specs.Parts.{with_expression}
use Rattle.lowered_expressions.specs.Views.{built}
use Rattle.lowering.specs.inner.Pieces.{statement_pieces, with_statements}
use Rattle.lowering.specs.inner.Views.{numbers_at, place_seen}
use Rattle.lowering.proofs.Weights.{weight, weights, weights_item}
use Rattle.lowering.proofs.SettledParts.{part_length}
use Rattle.lowering.proofs.Behind.{places_behind, places_step}
use Rattle.lowering.proofs.Choices.{if_made}
use Rattle.lowering.proofs.Loops.{loop_made, do_made}
use Rattle.lowering.proofs.Sequences.{statements_begin, statements_more}
use Rattle.lowering.proofs.statements.+statements.Goals as goal

-- ---- ONE STATEMENT AFTER ANOTHER

pub statements-statement-requires : goal.statements-statement-requires
statements-statement-requires t c =
    let es = c.deref-each-items.result.now in
    let i = c.loop-each.each-index in
    let x = c.each-item.result in
    let smaller : weight (typed_statement x) < weights (typed_statements_of (map typed_statement c.args.list.now.items)) + 1 =
    subst (λ ys. weight (typed_statement x) < weights (typed_statements_of (map typed_statement ys)) + 1) c.deref-each-items.ensures.value
    (subst (λ (y : TypedStatement). weight (typed_statement y) < weights (typed_statements_of (map typed_statement es)) + 1) (sym c.each-item.is)
    (weights_item es i x c.loop-each-test.true)) in
    search rules

pub statements-loop-each-init : goal.statements-loop-each-init
statements-loop-each-init t c = statements_begin (numbers_at c.args.at.now) (place_seen c.args.at.now) (built c.args.body.now)

pub statements-loop-each-preserved : goal.statements-loop-each-preserved
statements-loop-each-preserved t c =
    let xs = c.deref-each-items.result.now in
    let i = c.loop-each.each-index in
    let x = c.each-item.result in
    let cs = map typed_statement (take i xs) in
    let number = numbers_at c.args.at.now in
    let at = place_seen c.args.at.now in
    let b = built c.args.body.now in
    let more : map typed_statement (take (i + 1) xs) ≡ cs ++ typed_statement x ∷ [] =
    ap (map typed_statement) (take_more xs i x c.loop-each-test.true) ∙ map-append typed_statement (take i xs) (get_or xs i x ∷ [])
    ∙ ap (λ z. cs ++ typed_statement z ∷ []) (sym c.each-item.is) in
    statements_more number at b (built c.loop-each.body) (built c.statement.new.body) cs (typed_statement x) c.loop-each.invariant c.in_ok-statement.ensures
    ∙ ap (λ l. with_statements number at b (typed_statements_of l)) (sym more)

-- ---- IF

pub choice-set-requires : goal.choice-set-requires
choice-set-requires t c =
    let number = numbers_at c.args.at.now in
    let at = place_seen c.args.at.now in
    let b2 = built c.push.new.self in
    let b4 = built c.push-2.new.self in
    let p2 = places_step (built c.expression.new.body) b2 ReturnNone c.in_ok-push.ensures in
    let p3 = places_behind b2 (built c.statement.new.body)
    (statement_pieces number at (first_free at.here.slots) (length b2.pieces) (typed_statement c.args.first.now)) c.in_ok-statement.ensures in
    let p4 = places_step (built c.statement.new.body) b4 ReturnNone c.in_ok-push-2.ensures in
    let p5 = places_behind b4 (built c.statement-2.new.body)
    (statement_pieces number at (first_free at.here.slots) (length b4.pieces) (typed_statement c.args.second.now)) c.in_ok-statement-2.ensures in
    omega (arith, p2, p3, p4, p5, c.next_place-branch.ensures)

pub choice-set-requires-2 : goal.choice-set-requires-2
choice-set-requires-2 t c =
    let number = numbers_at c.args.at.now in
    let at = place_seen c.args.at.now in
    let b4 = built c.push-2.new.self in
    let p4 = places_step (built c.statement.new.body) b4 ReturnNone c.in_ok-push-2.ensures in
    let p5 = places_behind b4 (built c.statement-2.new.body)
    (statement_pieces number at (first_free at.here.slots) (length b4.pieces) (typed_statement c.args.second.now)) c.in_ok-statement-2.ensures in
    let p6 = ap (λ (z : Built). length z.pieces) c.set.ensures
    ∙ length-set (built c.statement-2.new.body).pieces c.next_place-branch.result
    (whole (Branch c.in_ok-condition.condition false c.next_place-target.result)) in
    omega (arith, p4, p5, p6, c.next_place-jump.ensures)

pub choice-returns : goal.choice-returns
choice-returns t c =
    let number = numbers_at c.args.at.now in
    let at = place_seen c.args.at.now in
    let e = typed_tree c.args.e.now in
    let x = typed_statement c.args.first.now in
    let y = typed_statement c.args.second.now in
    let row = first_free at.here.slots in
    if_made (built c.args.body.now) (built c.expression.new.body) (built c.push.new.self) (built c.statement.new.body) (built c.push-2.new.self)
    (built c.statement-2.new.body) (built c.set.new.self) (built c.set-2.new.self)
    (λ p. expression_code number at.here row p e) (λ p. statement_pieces number at row p x) (λ p. statement_pieces number at row p y)
    c.in_ok-condition.condition (stands_at at.here e row) c.next_place-branch.result c.next_place-jump.result c.next_place-target.result
    c.next_place-end.result
    (c.in_ok-condition.ensures.built ∙ ap (λ (t : ℕ). with_expression number at.here (built c.args.body.now) t e) c.first_row.ensures) c.in_ok-push.ensures c.in_ok-statement.ensures c.in_ok-push-2.ensures c.in_ok-statement-2.ensures c.set.ensures
    c.set-2.ensures
    (c.in_ok-condition.ensures.register ∙ ap (stands_at at.here e) c.first_row.ensures) c.next_place-branch.ensures c.next_place-jump.ensures
    c.next_place-target.ensures c.next_place-end.ensures

-- ---- LOOPS

pub turns-set-requires : goal.turns-set-requires
turns-set-requires t c =
    let number = numbers_at c.args.at.now in
    let at = place_seen c.args.at.now in
    let b1 = built c.push.new.self in
    let b2 = built c.statement.new.body in
    let b3 = built c.statement-2.new.body in
    let b4 = built c.expression.new.body in
    let e = typed_tree c.args.e.now in
    let p1 = places_step (built c.args.body.now) b1 ReturnNone c.in_ok-push.ensures in
    let p2 = places_behind b1 b2
    (statement_pieces number at (first_free at.here.slots) (length b1.pieces) (typed_statement c.args.repeated.now)) c.in_ok-statement.ensures in
    let p3 = places_behind b2 b3
    (statement_pieces number at (first_free at.here.slots) (length b2.pieces) (typed_statement c.args.step.now)) c.in_ok-statement-2.ensures in
    let p4 = places_behind b3 b4 (map whole (expression_code number at.here c.first_row.result (length b3.pieces) e))
    c.in_ok-condition.ensures.built in
    let p5 = places_step b4 (built c.push-2.new.self) (Branch c.in_ok-condition.condition true c.next_place-start.result) c.in_ok-push-2.ensures in
    omega (arith, p1, p2, p3, p4, p5, c.next_place-jump.ensures)

pub turns-settle-requires : goal.turns-settle-requires
turns-settle-requires t c =
    let number = numbers_at c.args.at.now in
    let at = place_seen c.args.at.now in
    let b1 = built c.push.new.self in
    let b2 = built c.statement.new.body in
    let b3 = built c.statement-2.new.body in
    let b4 = built c.expression.new.body in
    let e = typed_tree c.args.e.now in
    let p2 = places_behind b1 b2
    (statement_pieces number at (first_free at.here.slots) (length b1.pieces) (typed_statement c.args.repeated.now)) c.in_ok-statement.ensures in
    let p3 = places_behind b2 b3
    (statement_pieces number at (first_free at.here.slots) (length b2.pieces) (typed_statement c.args.step.now)) c.in_ok-statement-2.ensures in
    let p4 = places_behind b3 b4 (map whole (expression_code number at.here c.first_row.result (length b3.pieces) e))
    c.in_ok-condition.ensures.built in
    let p5 = places_step b4 (built c.push-2.new.self) (Branch c.in_ok-condition.condition true c.next_place-start.result) c.in_ok-push-2.ensures in
    let p6 = ap (λ (z : Built). length z.pieces) c.set.ensures
    ∙ length-set (built c.push-2.new.self).pieces c.next_place-jump.result (whole (Jump c.next_place-test.result)) in
    record {
      order = omega (arith, p2, c.next_place-start.ensures, c.next_place-onward.ensures);
      within = omega (arith, p3, p4, p5, p6, c.next_place-onward.ensures);
    }

pub turns-settle-requires-2 : goal.turns-settle-requires-2
turns-settle-requires-2 t c =
    let number = numbers_at c.args.at.now in
    let at = place_seen c.args.at.now in
    let b2 = built c.statement.new.body in
    let b3 = built c.statement-2.new.body in
    let b4 = built c.expression.new.body in
    let e = typed_tree c.args.e.now in
    let p3 = places_behind b2 b3
    (statement_pieces number at (first_free at.here.slots) (length b2.pieces) (typed_statement c.args.step.now)) c.in_ok-statement-2.ensures in
    let p4 = places_behind b3 b4 (map whole (expression_code number at.here c.first_row.result (length b3.pieces) e))
    c.in_ok-condition.ensures.built in
    let p5 = places_step b4 (built c.push-2.new.self) (Branch c.in_ok-condition.condition true c.next_place-start.result) c.in_ok-push-2.ensures in
    let p6 = ap (λ (z : Built). length z.pieces) c.set.ensures
    ∙ length-set (built c.push-2.new.self).pieces c.next_place-jump.result (whole (Jump c.next_place-test.result)) in
    let p7 = ap (λ (z : Built). length z.pieces) c.settle.ensures
    ∙ part_length c.next_place-end.result c.next_place-onward.result c.next_place-start.result (c.next_place-onward.result - c.next_place-start.result)
    (built c.set.new.self).pieces in
    record {
      order = omega (arith, p3, c.next_place-test.ensures, c.next_place-onward.ensures);
      within = omega (arith, p4, p5, p6, p7, c.next_place-test.ensures);
    }

pub turns-returns : goal.turns-returns
turns-returns t c =
    let number = numbers_at c.args.at.now in
    let at = place_seen c.args.at.now in
    let e = typed_tree c.args.e.now in
    loop_made (numbers_at c.args.at.now) (place_seen c.args.at.now) (typed_tree c.args.e.now) (typed_statement c.args.step.now)
    (typed_statement c.args.repeated.now)
    (built c.args.body.now) (built c.push.new.self) (built c.statement.new.body) (built c.statement-2.new.body) (built c.expression.new.body)
    (built c.push-2.new.self) (built c.set.new.self) (built c.settle.new.body) (built c.settle-2.new.body)
    c.next_place-jump.result c.next_place-start.result c.next_place-onward.result c.next_place-test.result c.in_ok-condition.condition
    c.next_place-end.result
    (c.next_place-onward.result - c.next_place-start.result) (c.next_place-test.result - c.next_place-onward.result)
    c.in_ok-push.ensures c.in_ok-statement.ensures c.in_ok-statement-2.ensures
    (c.in_ok-condition.ensures.built ∙ ap (λ (t : ℕ). with_expression number at.here (built c.statement-2.new.body) t e) c.first_row.ensures)
    c.in_ok-push-2.ensures c.set.ensures
    c.settle.ensures c.settle-2.ensures c.next_place-jump.ensures c.next_place-start.ensures c.next_place-onward.ensures c.next_place-test.ensures
    (c.in_ok-condition.ensures.register ∙ ap (stands_at at.here e) c.first_row.ensures) c.next_place-end.ensures refl refl

pub repeats-settle-requires : goal.repeats-settle-requires
repeats-settle-requires t c =
    let number = numbers_at c.args.at.now in
    let at = place_seen c.args.at.now in
    let b0 = built c.args.body.now in
    let b1 = built c.statement.new.body in
    let b2 = built c.expression.new.body in
    let e = typed_tree c.args.e.now in
    let p1 = places_behind b0 b1
    (statement_pieces number at (first_free at.here.slots) (length b0.pieces) (typed_statement c.args.repeated.now)) c.in_ok-statement.ensures in
    let p2 = places_behind b1 b2 (map whole (expression_code number at.here c.first_row.result (length b1.pieces) e))
    c.in_ok-condition.ensures.built in
    let p3 = places_step b2 (built c.push.new.self) (Branch c.in_ok-condition.condition true c.next_place-start.result) c.in_ok-push.ensures in
    record {
      order = omega (arith, p1, c.next_place-start.ensures, c.next_place-test.ensures);
      within = omega (arith, p2, p3, c.next_place-test.ensures);
    }

pub repeats-returns : goal.repeats-returns
repeats-returns t c =
    let number = numbers_at c.args.at.now in
    let at = place_seen c.args.at.now in
    let e = typed_tree c.args.e.now in
    do_made (numbers_at c.args.at.now) (place_seen c.args.at.now) (typed_tree c.args.e.now) (typed_statement c.args.repeated.now)
    (built c.args.body.now) (built c.statement.new.body) (built c.expression.new.body) (built c.push.new.self) (built c.settle.new.body)
    c.next_place-start.result c.next_place-test.result c.in_ok-condition.condition c.next_place-end.result
    (c.next_place-test.result - c.next_place-start.result)
    c.in_ok-statement.ensures
    (c.in_ok-condition.ensures.built ∙ ap (λ (t : ℕ). with_expression number at.here (built c.statement.new.body) t e) c.first_row.ensures)
    c.in_ok-push.ensures c.settle.ensures c.next_place-start.ensures c.next_place-test.ensures
    (c.in_ok-condition.ensures.register ∙ ap (stands_at at.here e) c.first_row.ensures) c.next_place-end.ensures refl
