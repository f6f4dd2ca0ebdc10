use Rattle.std.proofs.Common.{◌≡◌, ◌+◌, ◌-◌, true, [], ◌∷◌, sym, ap, ◌∙◌, length, arith}
use Rattle.std.proofs.lemmas.Result.{err_from_is_err_and}
use Rattle.secrec_parser.specs.inner.Steps.{comma_then, domain_variable, list_from, listed, no_more_variables}
use Rattle.secrec_parser.proofs.Turns.{list_stops, list_goes_on, list_fails, passes, variables_go, variables_alone, variables_full, comma_fails, comma_reads}
use Rattle.secrec_parser.proofs.function.more_variables.Goals.{then-loop-found-test+else-len-lt-MOST_VARIABLES, else-loop-found-test}
use Rattle.secrec_parser.proofs.function.more_variables.Goals as goal

pub returns-in_err-next : goal.returns-in_err-next
returns-in_err-next c =
    let i = c.loop-found.invariant.step in
    let found = c.loop-found.found.items in
    let w = c.loop-found.rest.now in
    let p = err_from_is_err_and c.from_residual-in_err-next.result c.from_residual-in_err-next.ensures.1 in
    let go = variables_go found w (sym c.at_sign.ensures ∙ c.loop-found-test.true) (omega (arith, c.if-len-lt-MOST_VARIABLES.true, c.len.ensures)) in
    rw (p.1, p.2) (passes c.in_err-next.field-0.0 (domain_variable c.in_ok-behind.behind.now)
    (listed no_more_variables (comma_then domain_variable) (c.args.first ∷ []) c.args.tokens.now) (length c.in_ok-behind.behind.now)
    (length c.args.tokens.now + 1)
    (λ q r e.
    i.2 ∙ list_fails no_more_variables (comma_then domain_variable) i.0 found w r q (omega (arith, i.1)) go
    (comma_fails domain_variable w c.in_ok-behind.behind.now r _ q c.in_ok-behind.ensures.step e))
    c.in_err-next.ensures)

pub loop-found-preserved : goal.loop-found-preserved
loop-found-preserved c =
    let i = c.loop-found.invariant.step in
    let found = c.loop-found.found.items in
    let w = c.loop-found.rest.now in
    let e = c.in_ok-next.ensures in
    let l = e.1 in
    let b = c.in_ok-behind.ensures in
    let go = variables_go found w (sym c.at_sign.ensures ∙ c.loop-found-test.true) (omega (arith, c.if-len-lt-MOST_VARIABLES.true, c.len.ensures)) in
    record {
      shorter = omega (arith, l, b.shorter, c.loop-found.invariant.shorter);
      step = (
        i.0 - 1,
        omega (arith, l, b.shorter, i.1),
        i.2
            ∙ list_goes_on no_more_variables (comma_then domain_variable) i.0 found w c.in_ok-next.behind.now c.in_ok-next.next (omega (arith, i.1))
            go (comma_reads domain_variable w c.in_ok-behind.behind.now c.in_ok-next.behind.now _ c.in_ok-next.next b.step e.0)
            ∙ ap (λ l. list_from no_more_variables (comma_then domain_variable) (i.0 - 1) l c.in_ok-next.behind.now) (sym c.in_ok-push-2.ensures.items),
      );
    }

pub returns : goal.returns
returns c =
    let i = c.loop-found.invariant.step in
    let found = c.loop-found.found.items in
    let rest = c.loop-found.rest.now in
    let stops : no_more_variables found rest ≡ true =
    elim c.loop-found-test.branch [
      | then-loop-found-test+else-len-lt-MOST_VARIABLES w ↦ variables_full found rest
          (omega (arith, w.if-len-lt-MOST_VARIABLES.false, w.len.ensures))
      | else-loop-found-test w ↦ variables_alone found rest
          (sym c.at_sign.ensures ∙ w.loop-found-test.false)
    ] in
    (i.2 ∙ list_stops no_more_variables (comma_then domain_variable) i.0 found rest stops, omega (arith, c.loop-found.invariant.shorter))
