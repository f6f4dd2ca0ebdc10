use Rattle.std.proofs.Common.{sym, ◌∙◌, ap}
use Rattle.rand_chacha.specs.ChaCha.{ChaCha}
use Rattle.counted_net.proofs.Made.{shuffled_all, shuffling_more, shuffling_none}
use Rattle.counted_net.proofs.answer.shuffled.Goals as goal

pub loop-link-init : goal.loop-link-init
loop-link-init c =
    let seeded = c.from_seed-words.ensures in
    let set = c.set_stream.ensures in
    shuffling_none c.args.scripts.now c.args.seed c.set_stream.new.self c.new-net.result c.new-net.ensures
    (ap (λ (g : ChaCha). g.key) set ∙ ap (λ (g : ChaCha). g.key) seeded)
    (ap (λ (g : ChaCha). g.stream) set)
    (ap (λ (g : ChaCha). g.word_pos) set ∙ ap (λ (g : ChaCha). g.word_pos) seeded)

pub loop-link-preserved : goal.loop-link-preserved
loop-link-preserved c =
    shuffling_more c.args.scripts.now c.args.seed c.loop-link.words c.loop-link.net c.loop-link.invariant c.next_word.result c.next_word.new.self
    c.in-Some.link c.give.new.self c.next_word.ensures (sym c.chosen.ensures ∙ c.in-Some.is) c.in_ok-give.ensures.after c.in_ok-give.ensures.bound

pub returns : goal.returns
returns c =
    shuffled_all c.args.scripts.now c.args.seed c.loop-link.words c.loop-link.net c.loop-link.invariant c.next_word.result c.next_word.new.self
    c.into_delivered.result c.next_word.ensures (sym c.chosen.ensures ∙ c.in_default.is) c.into_delivered.ensures
