use Rattle.std.proofs.Common.{◌≡◌, ◌+◌, [], ◌∷◌, ◌++◌, take, sym, ◌∙◌, ap}
use Rattle.std.proofs.lemmas.List.{take_more}
use Rattle.view_model.specs.Dealing.{private_shares}
use Rattle.view_model.proofs.ShareWords.{shares_append}
use Rattle.view_model.proofs.dealt.own_shares.Goals as goal

pub loop-entry-preserved : goal.loop-entry-preserved
loop-entry-preserved c =
    let items = c.args.entries.now in
    let k = c.loop-entry.entry-index in
    let entry = c.entry-item.result in
    let more : take (k + 1) items ≡ take k items ++ entry ∷ [] =
    take_more items k entry c.loop-entry-test.true ∙ ap (λ e. take k items ++ e ∷ []) (sym c.entry-item.is) in
    c.in_ok-push_shares.ensures
    ∙ ap (λ v. v ++ private_shares (entry ∷ [])) c.loop-entry.invariant
    ∙ sym (shares_append (take k items) (entry ∷ []))
    ∙ ap private_shares (sym more)
