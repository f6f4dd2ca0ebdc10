use Rattle.std.proofs.Common.{◌≡◌, ◌+◌, [], ◌∷◌, ◌++◌, All, take, sym, ◌∙◌, ap, subst}
use Rattle.std.proofs.lemmas.List.{take_all, take_more}
use Rattle.std.proofs.lemmas.List.Elements.{All-push}
use Rattle.input_share.specs.OfWords.{IsPartOfWords}
use Rattle.input_share.proofs.words.see_shares.Goals as goal

pub loop-entry-preserved : goal.loop-entry-preserved
loop-entry-preserved c =
    let entries = c.args.entries.now in
    let k = c.loop-entry.entry-index in
    let entry = c.entry-item.result in
    let more : take (k + 1) entries ≡ take k entries ++ entry ∷ [] =
    take_more entries k entry c.loop-entry-test.true ∙ ap (λ e. take k entries ++ e ∷ []) (sym c.entry-item.is) in
    subst (λ es. All (λ e. IsPartOfWords e.part) es) (sym more) (All-push (λ e. IsPartOfWords e.part) (take k entries) entry c.loop-entry.invariant c.see_part.ensures)

pub returns : goal.returns
returns c = subst (λ es. All (λ e. IsPartOfWords e.part) es) (take_all c.loop-entry.entry-index c.args.entries.now c.loop-entry-test.false) c.loop-entry.invariant
