use Rattle.std.proofs.Common.{◌-◌, [], ◌∷◌, sym, ap, ◌∙◌, length, arith}
use Rattle.std.specs.Prelude.{map}
use Rattle.std.proofs.lemmas.List.{map-append}
use Rattle.std.proofs.lemmas.Result.{err_from_is_err_and}
use Rattle.program_trees.specs.Programs.{item_tree}
use Rattle.secrec_parser.specs.inner.Steps.{at_end, item, list_from, listed}
use Rattle.secrec_parser.proofs.Turns.{list_stops, list_goes_on, list_fails, passes_on}
use Rattle.secrec_parser.proofs.program.items.Goals as goal

pub returns-in_err-next : goal.returns-in_err-next
returns-in_err-next c =
    let i = c.loop-alloc.invariant.step in
    let found = map item_tree c.loop-alloc.found.items in
    let w = c.loop-alloc.rest.now in
    let p = err_from_is_err_and c.from_residual.result c.from_residual.ensures.1 in
    record {
      step =
          rw (p.1, p.2)
          (passes_on c.in_err-next.field-0.0 (item c.args.max_height w) (listed (λ found w. at_end w) (item c.args.max_height) [] c.args.tokens.now) (length w)
          (λ q r e. i.2 ∙ list_fails (λ found w. at_end w) (item c.args.max_height) i.0 found w r q (omega (arith, i.1))
          (sym c.at_end.ensures ∙ c.loop-alloc-test.true) e)
          c.in_err-next.ensures);
    }

pub loop-alloc-preserved : goal.loop-alloc-preserved
loop-alloc-preserved c =
    let i = c.loop-alloc.invariant.step in
    let found = map item_tree c.loop-alloc.found.items in
    let w = c.loop-alloc.rest.now in
    let e = c.in_ok-next.ensures in
    let l = e.1 in
    let one_more = ap (map item_tree) c.in_ok-push.ensures.items ∙ map-append item_tree c.loop-alloc.found.items (c.in_ok-next.next ∷ []) in
    record {
      step = (
        i.0 - 1,
        omega (arith, l, i.1),
        i.2
            ∙ list_goes_on (λ found w. at_end w) (item c.args.max_height) i.0 found w c.in_ok-next.behind.now (item_tree c.in_ok-next.next)
            (omega (arith, i.1)) (sym c.at_end.ensures ∙ c.loop-alloc-test.true) e.0
            ∙ ap (λ l. list_from (λ found w. at_end w) (item c.args.max_height) (i.0 - 1) l c.in_ok-next.behind.now) (sym one_more),
      );
    }

pub returns : goal.returns
returns c =
    let i = c.loop-alloc.invariant.step in
    record {
      step = i.2 ∙ list_stops (λ found w. at_end w) (item c.args.max_height) i.0 (map item_tree c.loop-alloc.found.items) c.loop-alloc.rest.now
          (sym c.at_end.ensures ∙ c.loop-alloc-test.false);
    }
