use Rattle.std.proofs.Common.{subst, ◌+◌, ◌-◌, [], ◌∷◌, sym, ap, ◌∙◌, Ok, length, arith}
use Rattle.std.specs.Prelude.{map}
use Rattle.std.proofs.lemmas.List.{map-append}
use Rattle.std.proofs.lemmas.Result.{err_from_is_err_and}
use Rattle.secrec_lexer.specs.declared.sign.Sign.TheVariants as signs
use Rattle.program_trees.specs.Tree.{expression}
use Rattle.program_trees.specs.Statements.{statement}
use Rattle.program_trees.specs.Equations.{branch_statement_is, choice_statement_is}
use Rattle.expression_parser.specs.Steps.{◌>>=◌, expect}
use Rattle.secrec_parser.specs.inner.Given.{Takes}
use Rattle.secrec_parser.specs.inner.Steps.{at_sign, braced, list_from, statement_at_most}
use Rattle.secrec_parser.proofs.Turns.{list_stops, list_goes_on, list_fails, passes, taken, takes_less, closed_takes, if_alone, if_chosen, led_short}
use Rattle.secrec_parser.proofs.Turns.{statement_none, statement_high, statement_declares, statement_names, statement_evaluates, statement_led}
use Rattle.secrec_parser.proofs.statement.+statements.Goals as goal

pub braced-returns-in_err-next : goal.braced-returns-in_err-next
braced-returns-in_err-next t c =
    let i = c.loop-alloc.invariant.step in
    let inner = statement_at_most c.args.max_height c.args.in_loop in
    let found = map statement c.loop-alloc.found.items in
    let p = err_from_is_err_and c.from_residual.result c.from_residual.ensures.1 in
    rw (p.1, p.2)
    (passes c.in_err-next.field-0.0 (inner c.loop-alloc.rest.now) (braced inner c.args.tokens.now) (length c.loop-alloc.rest.now) (length c.args.tokens.now)
    (λ q r e.
    ap (λ o. o >>= λ ss. expect signs.RightBrace ss.1 >>= λ b. Ok (ss.0, b.1))
    (i.2 ∙ list_fails (λ found w. at_sign signs.RightBrace w) inner i.0 found c.loop-alloc.rest.now r q (omega (arith, i.1))
    (sym c.at_sign.ensures ∙ c.loop-alloc-test.true) e))
    c.in_err-next.ensures)

pub braced-loop-alloc-preserved : goal.braced-loop-alloc-preserved
braced-loop-alloc-preserved t c =
    let i = c.loop-alloc.invariant.step in
    let inner = statement_at_most c.args.max_height c.args.in_loop in
    let found = map statement c.loop-alloc.found.items in
    let e = c.in_ok-next.ensures in
    let l = e.1 in
    let one_more = ap (map statement) c.in_ok-push.ensures.items ∙ map-append statement c.loop-alloc.found.items (c.in_ok-next.next ∷ []) in
    record {
      shorter = omega (arith, l, c.loop-alloc.invariant.shorter);
      step = (
        i.0 - 1,
        omega (arith, l, i.1),
        i.2
            ∙ list_goes_on (λ found w. at_sign signs.RightBrace w) inner i.0 found c.loop-alloc.rest.now c.in_ok-next.behind.now
            (statement c.in_ok-next.next) (omega (arith, i.1)) (sym c.at_sign.ensures ∙ c.loop-alloc-test.true) e.0
            ∙ ap (λ l. list_from (λ found w. at_sign signs.RightBrace w) inner (i.0 - 1) l c.in_ok-next.behind.now) (sym one_more),
      );
    }

pub braced-returns : goal.braced-returns
braced-returns t c =
    let i = c.loop-alloc.invariant.step in
    let inner = statement_at_most c.args.max_height c.args.in_loop in
    let found = map statement c.loop-alloc.found.items in
    let w = c.loop-alloc.rest.now in
    subst (λ o. Takes (λ x. (map statement x.0.items, x.1.now)) c.closed.result (o >>= λ ss. expect signs.RightBrace ss.1 >>= λ b. Ok (ss.0, b.1))
    (length c.args.tokens.now))
    (sym (i.2 ∙ list_stops (λ found w. at_sign signs.RightBrace w) inner i.0 found w (sym c.at_sign.ensures ∙ c.loop-alloc-test.false)))
    (closed_takes c.loop-alloc.found c.expect.result c.closed.result (λ v. map statement v.items) (λ p. p) (expect signs.RightBrace w) (length w)
    (length c.args.tokens.now) c.loop-alloc.invariant.shorter c.closed.ensures c.expect.ensures.step c.expect.ensures.shorter)

pub if_statement-returns-then-not-at_sign : goal.if_statement-returns-then-not-at_sign
if_statement-returns-then-not-at_sign t c =
    let inner = statement_at_most c.args.max_height c.args.in_loop in
    let w = c.in_ok-test.rest.now in
    let w2 = c.in_ok-body.rest.now in
    let test = c.in_ok-test.test in
    let body = c.in_ok-body.body in
    let tested = c.in_ok-test.ensures in
    let held = taken statement c.statement-first.result (inner w) (length w) _ c.in_ok-body.ensures c.statement-first.ensures in
    let l = tested.1 in
    let l2 = held.1 in (
      if_alone c.args.max_height inner c.args.place c.args.tokens.now (expression test) w (statement body.value) w2 tested.0 held.0
          (sym c.at_sign.ensures ∙ c.if-not-at_sign.true)
          ∙ ap (λ z. Ok (z, w2)) (sym (branch_statement_is c.args.place test body)),
      omega (arith, l, l2),
    )

pub if_statement-returns : goal.if_statement-returns
if_statement-returns t c =
    let inner = statement_at_most c.args.max_height c.args.in_loop in
    let w = c.in_ok-test.rest.now in
    let w2 = c.in_ok-body.rest.now in
    let w3 = c.in_ok-rest.rest.now in
    let w4 = c.in_ok-other.rest.now in
    let test = c.in_ok-test.test in
    let body = c.in_ok-body.body in
    let other = c.in_ok-other.other in
    let tested = c.in_ok-test.ensures in
    let held = taken statement c.statement-first.result (inner w) (length w) _ c.in_ok-body.ensures c.statement-first.ensures in
    let chosen = taken statement c.statement-second.result (inner w3) (length w3) _ c.in_ok-other.ensures c.statement-second.ensures in
    let l = tested.1 in
    let l2 = held.1 in
    let l4 = chosen.1 in (
      if_chosen c.args.max_height inner c.args.place c.args.tokens.now (expression test) w (statement body.value) w2 tested.0 held.0 _ w3
          (statement other.value) w4 (sym c.at_sign.ensures ∙ c.if-not-at_sign.false) c.in_ok-rest.ensures.step chosen.0
          ∙ ap (λ z. Ok (z, w4)) (sym (choice_statement_is c.args.place test body other)),
      omega (arith, l, l2, c.in_ok-rest.ensures.shorter, l4),
    )

pub led-returns-in_default : goal.led-returns-in_default
led-returns-in_default t c =
    rw (led_short c.args.leader c.args.max_height (statement_at_most (c.args.max_height - 1)) c.args.in_loop c.args.place c.args.tokens.now
    c.in_default.not-Block
    c.in_default.not-If c.in_default.not-While c.in_default.not-DoWhile c.in_default.not-For) c.short_statement.ensures

pub statement-returns-in_default : goal.statement-returns-in_default
statement-returns-in_default t c = statement_none c.args.max_height c.args.in_loop c.args.tokens.now c.in_default.ensures.cases

pub statement-returns-then-max_height-least_height : goal.statement-returns-then-max_height-least_height
statement-returns-then-max_height-least_height t c =
    statement_high c.args.max_height c.args.in_loop c.args.tokens.now c.in-Some.token.now c.in-Some.rest.now c.leader_of-leader.result
    c.least_height.result c.in-Some.ensures.cases.0 c.leader_of-leader.ensures c.least_height.ensures c.if-max_height-least_height.true

pub statement-returns-in-Declaration : goal.statement-returns-in-Declaration
statement-returns-in-Declaration t c =
    rw (statement_declares c.args.max_height c.args.in_loop c.args.tokens.now c.in-Some.token.now c.in-Some.rest.now c.leader_of-leader.result
    c.least_height.result c.in-Some.ensures.cases.0 c.leader_of-leader.ensures c.least_height.ensures c.if-max_height-least_height.false
    c.in-Declaration.is) c.declaration_statement.ensures

pub statement-returns-in-Name : goal.statement-returns-in-Name
statement-returns-in-Name t c =
    rw (statement_names c.args.max_height c.args.in_loop c.args.tokens.now c.in-Some.token.now c.in-Some.rest.now c.leader_of-leader.result
    c.least_height.result c.in-Some.ensures.cases.0 c.leader_of-leader.ensures c.least_height.ensures c.if-max_height-least_height.false
    c.in-Name.is) c.name_statement.ensures

pub statement-returns-in-Expression : goal.statement-returns-in-Expression
statement-returns-in-Expression t c =
    rw (statement_evaluates c.args.max_height c.args.in_loop c.args.tokens.now c.in-Some.token.now c.in-Some.rest.now c.leader_of-leader.result
    c.least_height.result c.in-Some.ensures.cases.0 c.leader_of-leader.ensures c.least_height.ensures c.if-max_height-least_height.false
    c.in-Expression.is) c.action_statement.ensures

pub statement-returns-in_default-leader : goal.statement-returns-in_default-leader
statement-returns-in_default-leader t c =
    let front = c.in-Some.ensures.cases.0 in
    let longer = ap length front in
    takes_less statement c.led.result (statement_at_most c.args.max_height c.args.in_loop c.args.tokens.now) (length c.in-Some.rest.now + 1)
    (length c.args.tokens.now) (omega (arith, longer))
    (rw (statement_led c.args.max_height c.args.in_loop c.args.tokens.now c.in-Some.token.now c.in-Some.rest.now c.leader_of-leader.result
    c.least_height.result front c.leader_of-leader.ensures c.least_height.ensures c.if-max_height-least_height.false
    c.in_default-leader.not-Declaration c.in_default-leader.not-Name c.in_default-leader.not-Expression) c.led.ensures)
