use Rattle.std.proofs.Common.{◌+◌, ◌-◌, [], ◌∷◌, sym, ap, ◌∙◌, length, arith}
use Rattle.std.specs.Prelude.{not}
use Rattle.std.proofs.lemmas.Result.{err_from_is_err_and}
use Rattle.secrec_parser.specs.inner.Steps.{comma_then, list_from, listed, no_comma, parameter}
use Rattle.secrec_parser.proofs.Turns.{list_stops, list_goes_on, list_fails, passes, comma_fails, comma_reads}
use Rattle.secrec_parser.proofs.function.more_parameters.Goals as goal

pub returns-in_err-next : goal.returns-in_err-next
returns-in_err-next c =
    let i = c.loop-alloc.invariant.step in
    let found = c.loop-alloc.found.items in
    let w = c.loop-alloc.rest.now in
    let p = err_from_is_err_and c.from_residual-in_err-next.result c.from_residual-in_err-next.ensures.1 in
    let go = ap not (sym c.at_sign.ensures ∙ c.loop-alloc-test.true) in
    rw (p.1, p.2) (passes c.in_err-next.field-0.0 (parameter c.in_ok-behind.behind.now)
    (listed no_comma (comma_then parameter) (c.args.first ∷ []) c.args.tokens.now) (length c.in_ok-behind.behind.now)
    (length c.args.tokens.now + 1)
    (λ q r e.
    i.2 ∙ list_fails no_comma (comma_then parameter) i.0 found w r q (omega (arith, i.1)) go
    (comma_fails parameter w c.in_ok-behind.behind.now r _ q c.in_ok-behind.ensures.step e))
    c.in_err-next.ensures)

pub loop-alloc-preserved : goal.loop-alloc-preserved
loop-alloc-preserved c =
    let i = c.loop-alloc.invariant.step in
    let found = c.loop-alloc.found.items in
    let w = c.loop-alloc.rest.now in
    let e = c.in_ok-next.ensures in
    let l = e.1 in
    let b = c.in_ok-behind.ensures in
    let go = ap not (sym c.at_sign.ensures ∙ c.loop-alloc-test.true) in
    record {
      shorter = omega (arith, l, b.shorter, c.loop-alloc.invariant.shorter);
      step = (
        i.0 - 1,
        omega (arith, l, b.shorter, i.1),
        i.2
            ∙ list_goes_on no_comma (comma_then parameter) i.0 found w c.in_ok-next.behind.now c.in_ok-next.next (omega (arith, i.1)) go
            (comma_reads parameter w c.in_ok-behind.behind.now c.in_ok-next.behind.now _ c.in_ok-next.next b.step e.0)
            ∙ ap (λ l. list_from no_comma (comma_then parameter) (i.0 - 1) l c.in_ok-next.behind.now) (sym c.in_ok-push-2.ensures.items),
      );
    }

pub returns : goal.returns
returns c =
    let i = c.loop-alloc.invariant.step in (
      i.2 ∙ list_stops no_comma (comma_then parameter) i.0 c.loop-alloc.found.items c.loop-alloc.rest.now
          (ap not (sym c.at_sign.ensures ∙ c.loop-alloc-test.false)),
      omega (arith, c.loop-alloc.invariant.shorter),
    )
