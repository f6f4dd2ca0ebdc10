use Rattle.std.proofs.Common.{◌≡◌, ◌+◌, ◌-◌, suc, [], ◌∷◌, ◌++◌, sym, ap, ap₂, ◌∙◌, arith, append_assoc}
use Rattle.lowered_expressions.specs.declared.notes.Note.{Note}
use Rattle.lowered_expressions.specs.inner.Notes.{first_note, behind_part, noted_domains}
use Rattle.lowered_expressions.proofs.notes.noted_domains.Goals as goal

pub loop-number-preserved : goal.loop-number-preserved
loop-number-preserved c =
    let ds = c.loop-number.domains.items in
    let rest = c.loop-number.rest.now in
    let i = c.loop-number.number in
    let k = c.args.count - (i + 1) in
    let more : c.args.count - i ≡ suc k = omega arith in
    ap₂ (λ l ns. l ++ noted_domains k ns)
    (c.in_ok-push.ensures.items ∙ ap (λ (n : Note). ds ++ n.given.domain ∷ []) c.first_note.ensures) c.parted.ensures.behind
    ∙ append_assoc ds ((first_note rest).given.domain ∷ []) (noted_domains k (behind_part rest))
    ∙ ap (λ z. ds ++ noted_domains z rest) (sym more)
    ∙ c.loop-number.invariant
