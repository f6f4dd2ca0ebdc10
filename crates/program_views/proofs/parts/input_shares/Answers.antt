use Rattle.std.proofs.Common.{◌≡◌, ◌+◌, List, [], ◌∷◌, ◌++◌, take, sym, ◌∙◌, ap}
use Rattle.std.proofs.lemmas.List.{take_more}
use Rattle.input_share.specs.declared.entry.ShareEntry.{ShareEntry}
use Rattle.view_text.specs.View.{InputShare}
use Rattle.program_views.specs.Views.{input_shares}
use Rattle.program_views.proofs.Shares.{shares_append}
use Rattle.program_views.proofs.parts.input_shares.Goals as goal

pub loop-entry-preserved : goal.loop-entry-preserved
loop-entry-preserved c =
    let items = c.args.entries.now in
    let k = c.loop-entry.entry-index in
    let entry = c.entry-item.result in
    let more : take (k + 1) items ≡ take k items ++ entry ∷ [] =
    take_more items k entry c.loop-entry-test.true ∙ ap (λ (e : ShareEntry). take k items ++ e ∷ []) (sym c.entry-item.is) in
    c.in_ok-push_share.ensures
    ∙ ap (λ (v : List InputShare). v ++ input_shares (entry ∷ [])) c.loop-entry.invariant
    ∙ sym (shares_append (take k items) (entry ∷ []))
    ∙ ap input_shares (sym more)
