use Rattle.std.proofs.Common.{◌≡◌, ◌+◌, ℕ, List, [], ◌∷◌, ◌++◌, map, take, sym, ◌∙◌, ap, append-nil}
use Rattle.std.specs.List.{flat_map}
use Rattle.std.proofs.lemmas.List.{map-append, take_more}
use Rattle.std.proofs.lemmas.List.Concat.{flat_map-append}
use Rattle.miner_core.specs.declared.notice.Notice.{Notice}
use Rattle.miner_core.specs.Story.{shown_by}
use Rattle.miner_core.specs.Views.{notice_seen}
use Rattle.miner_core.proofs.notice.shown_words.Goals as goal

pub loop-notice-preserved : goal.loop-notice-preserved
loop-notice-preserved c =
    let items = c.args.notices.now in
    let k = c.loop-notice.notice-index in
    let notice = c.notice-item.result in
    let more : take (k + 1) items ≡ take k items ++ notice ∷ [] =
    take_more items k notice c.loop-notice-test.true ∙ ap (λ (n : Notice). take k items ++ n ∷ []) (sym c.notice-item.is) in
    c.in_ok-add_shown.ensures
    ∙ ap (λ (v : List ℕ). v ++ shown_by (notice_seen notice)) c.loop-notice.invariant
    ∙ ap (λ (v : List ℕ). flat_map shown_by (map notice_seen (take k items)) ++ v) (sym (append-nil (shown_by (notice_seen notice))))
    ∙ sym (flat_map-append shown_by (map notice_seen (take k items)) (notice_seen notice ∷ []))
    ∙ ap (flat_map shown_by) (sym (map-append notice_seen (take k items) (notice ∷ [])) ∙ ap (map notice_seen) (sym more))
