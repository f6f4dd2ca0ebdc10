use Rattle.std.proofs.Common.{◌<◌, ◌++◌, ◌∷◌, [], map, length, drop, sym, ◌∙◌, ap, arith, length-drop}
use Rattle.std.proofs.lemmas.List.{map-append}
use Rattle.miner_core.specs.TurnViews.{speech_seen}
use Rattle.miner_core.specs.Views.{notice_seen, if_any}
use Rattle.miner_core.proofs.Notices.{made_is}
use Rattle.miner_core.proofs.notice.tell.Goals as goal

pub returns-in_ok-push : goal.returns-in_ok-push
returns-in_ok-push c =
    let made = c.args.stage.now.events.items in
    let since = c.args.before.events in
    let opened = drop c.args.before.opened c.args.stage.now.opened.items in
    let some : 0 < length (drop since made) = omega (arith, length-drop since made, c.if-len-before.false, c.len.ensures) in
    let before = c.args.notices.now.items in
    let words = c.words_behind-opened.ensures ∙ ap (drop c.args.before.opened) c.deref.ensures.value in
    ap (map notice_seen) c.in_ok-push.ensures.items
    ∙ map-append notice_seen before (c.in-Some.notice ∷ [])
    ∙ ap (λ ns. map notice_seen before ++ ns)
    (sym (ap if_any c.in-Some.is) ∙ c.in_ok-notice.ensures
    ∙ ap (λ ws. speech_seen c.args.speech.now ws c.args.last.now) words
    ∙ sym (made_is (drop since made) (speech_seen c.args.speech.now opened c.args.last.now) some))
