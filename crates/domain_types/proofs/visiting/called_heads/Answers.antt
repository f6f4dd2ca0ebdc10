use Rattle.std.proofs.Common.{◌≡◌, ◌+◌, [], ◌∷◌, drop, arith, suc, sym, ap, ◌∙◌, Bool}
use Rattle.std.specs.Prelude.{map, if◌then◌else◌}
use Rattle.std.specs.BTreeSet.{contains}
use Rattle.std.specs.Ordering.{nat_cmp}
use Rattle.std.proofs.Math.Seq.{drop-cons}
use Rattle.domain_types.specs.FunctionTypes.{domain_variables_faults}
use Rattle.declarations.specs.Views.{declared, tree_at}
use Rattle.domain_types.specs.inner.WorkList.{heads_faults}
use Rattle.domain_types.specs.inner.LeastFault.{least}
use Rattle.domain_types.proofs.Faults.{least-append}
use Rattle.domain_types.proofs.visiting.called_heads.Goals as goal

pub loop-number-preserved : goal.loop-number-preserved
loop-number-preserved c =
    let d = declared c.args.declarations.now in
    let ps = c.args.protections.now in
    let test = contains nat_cmp c.args.called.now in
    let fs = c.args.declarations.now.functions.items in
    let gs = c.as_slice-functions.result.now in
    let n = c.loop-number.number-counter in
    let w = c.loop-number.least_fault in
    let x = c.index-functions-number.result in
    let behind : suc n ≡ n + 1 = omega arith in
    let there : drop n gs ≡ x ∷ drop (n + 1) gs =
    drop-cons gs n x c.loop-number-test.true ∙ ap (λ z. z ∷ drop (suc n) gs) (sym c.index-functions-number.is) ∙ ap (λ m. x ∷ drop m gs) behind in
    let next : drop n fs ≡ x ∷ drop (n + 1) fs = ap (drop n) (sym c.as_slice-functions.ensures.value) ∙ there
    ∙ ap (λ l. x ∷ drop (n + 1) l) c.as_slice-functions.ensures.value in
    let own = domain_variables_faults d ps (tree_at x).parameters [] (tree_at x).variables in
    let rest = heads_faults d ps test (n + 1) (map tree_at (drop (n + 1) fs)) in
    let step : c.head_if.new.least_fault ≡ least w (if test n then own else []) =
    c.head_if.ensures ∙ ap (λ (b : Bool). least w (if b then own else [])) c.contains-wanted.ensures in
    c.loop-number.invariant
    ∙ ap (λ l. least w (heads_faults d ps test n (map tree_at l))) next
    ∙ least-append w (if test n then own else []) rest
    ∙ ap (λ z. least z rest) (sym step)
