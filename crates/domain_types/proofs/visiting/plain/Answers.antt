use Rattle.std.proofs.Common.{◌≡◌, ◌+◌, [], ◌∷◌, drop, arith, suc, sym, ap, ◌∙◌, Bool}
use Rattle.std.specs.Prelude.{map, if◌then◌else◌}
use Rattle.std.proofs.Math.Seq.{drop-cons}
use Rattle.domain_types.specs.Types.{is_without}
use Rattle.declarations.specs.Views.{tree_at}
use Rattle.domain_types.specs.inner.WorkList.{added, with_plain}
use Rattle.domain_types.proofs.visiting.plain.Goals as goal
use Rattle.domain_types.proofs.visiting.plain.Goals.{then-is_plain+in_ok-list, else-is_plain}

pub loop-number-preserved : goal.loop-number-preserved
loop-number-preserved c =
    let fs = c.args.functions.now in
    let n = c.loop-number.number in
    let is = c.loop-number.list in
    let x = c.index-functions-number.result in
    let behind : suc n ≡ n + 1 = omega arith in
    let next : drop n fs ≡ x ∷ drop (n + 1) fs =
    drop-cons fs n x c.loop-number-test.true ∙ ap (λ z. z ∷ drop (suc n) fs) (sym c.index-functions-number.is) ∙ ap (λ m. x ∷ drop m fs) behind in
    let told : c.is_plain.result ≡ is_without x.now.variables.items = c.is_plain.ensures in
    let choose = λ (b : Bool). if b then added is (record { function = n; binding = [] }) else is in
    let chosen : choose (is_without x.now.variables.items) ≡ c.if-is_plain.list =
    elim c.if-is_plain.branch [
      | then-is_plain+in_ok-list w ↦ ap choose (sym told ∙ w.if-is_plain.true) ∙ sym (w.list-is ∙ w.in_ok-list.ensures)
      | else-is_plain w ↦ ap choose (sym told ∙ w.if-is_plain.false) ∙ sym w.list-is
    ] in
    c.loop-number.invariant
    ∙ ap (λ l. with_plain is n (map tree_at l)) next
    ∙ ap (λ l. with_plain l (n + 1) (map tree_at (drop (n + 1) fs))) chosen
