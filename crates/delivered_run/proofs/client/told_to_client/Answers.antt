use Rattle.std.proofs.Common.{◌+◌, List, [], ◌∷◌, ◌++◌, drop, map, sym, ◌∙◌, ap, append_assoc}
use Rattle.sc_text.specs.declared.event.Event.{Event}
use Rattle.code_runs.specs.ClientTold.{first_words, told_beside, told_by_three}
use Rattle.miner_core.specs.declared.notice.Notice.{Notice}
use Rattle.miner_core.specs.Views.{notice_seen}
use Rattle.delivered_run.proofs.Telling.{told_more}
use Rattle.delivered_run.proofs.client.told_to_client.Goals as goal

pub loop-place-preserved : goal.loop-place-preserved
loop-place-preserved c =
    let k = c.loop-place.place in
    let first = c.args.first.now in
    let two = drop k (map notice_seen c.args.second.now) in
    let three = drop k (map notice_seen c.args.third.now) in
    let rest = told_beside (drop (k + 1) (map notice_seen first)) (drop (k + 1) (map notice_seen c.args.second.now))
    (drop (k + 1) (map notice_seen c.args.third.now)) in
    let item = c.index-first-place.result in
    let told =
    c.in_ok-event.ensures
    ∙ ap (λ ws. told_by_three (notice_seen item) ws c.words_at-three.result.now) c.words_at-two.ensures
    ∙ ap (told_by_three (notice_seen item) (first_words two)) c.words_at-three.ensures
    ∙ ap (λ (n : Notice). told_by_three (notice_seen n) (first_words two) (first_words three)) c.index-first-place.is in
    ap (λ (es : List Event). es ++ rest) c.in_ok-push.ensures.items
    ∙ append_assoc c.loop-place.events.items (c.in_ok-event.event ∷ []) rest
    ∙ ap (λ (e : Event). c.loop-place.events.items ++ e ∷ rest) told
    ∙ ap (λ (es : List Event). c.loop-place.events.items ++ es)
    (sym (told_more first c.args.second.now c.args.third.now k item c.loop-place-test.true))
    ∙ c.loop-place.invariant
