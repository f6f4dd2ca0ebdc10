use Rattle.std.proofs.Common.{◌≡◌, ◌+◌, List, [], ◌∷◌, ◌++◌, map, take, sym, ◌∙◌, ap}
use Rattle.std.proofs.lemmas.List.{map-append, take_more}
use Rattle.sc_text.specs.declared.elements.Element.{Element}
use Rattle.viewed_run.specs.CodeViews.{shown_in}
use Rattle.miner_core.specs.declared.notice.Notice.{Notice}
use Rattle.miner_core.specs.Views.{notice_seen}
use Rattle.viewed_run.proofs.Pieces.{shown_append}
use Rattle.viewed_run.proofs.parts.openings.Goals as goal

pub loop-notice-preserved : goal.loop-notice-preserved
loop-notice-preserved c =
    let items = c.args.notices.now in
    let k = c.loop-notice.notice-index in
    let notice = c.notice-item.result in
    let more : take (k + 1) items ≡ take k items ++ notice ∷ [] =
    take_more items k notice c.loop-notice-test.true ∙ ap (λ (n : Notice). take k items ++ n ∷ []) (sym c.notice-item.is) in
    c.in_ok-push_opening.ensures
    ∙ ap (λ (v : List (List Element)). v ++ shown_in (notice_seen notice ∷ [])) c.loop-notice.invariant
    ∙ sym (shown_append (map notice_seen (take k items)) (notice_seen notice ∷ []))
    ∙ ap shown_in (sym (map-append notice_seen (take k items) (notice ∷ [])) ∙ ap (map notice_seen) (sym more))
