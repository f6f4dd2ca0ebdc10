use Rattle.std.proofs.Common.{◌∙◌, ap, length, sym, arith}
use Rattle.std.proofs.lemmas.Result.{err_from_is_err_and}
use Rattle.std.specs.Prelude.{Err, OnOk}
use Rattle.rand_chacha.specs.ChaCha.{ChaCha}
use Rattle.tape_file.specs.Seeds.{stream_word}
use Rattle.link_schedule.specs.Orders.{Makes}
use Rattle.link_schedule.proofs.Nets.{chosen_on_way, use_of}
use Rattle.link_schedule.proofs.Making.{Shuffling}
use Rattle.link_schedule.proofs.Ordering.{Delivered, lost_on, shuffling_end, shuffling_on, shuffling_start}
use Rattle.link_schedule.proofs.net.Net3.shuffled.Goals as goal

pub loop-link-init : goal.loop-link-init
loop-link-init g c = λ s is going left.
    let seeded = c.from_seed-words.ensures in
    let set = c.set_stream.ensures in
    let links = sym (ap length is.recorded) in
    let small = c.args.self.now.recorded.small in
    let ok = c.args.self.now.recorded.ok in
    record {
      then = s;
      along =
          shuffling_start c.args.seed c.set_stream.new.self s (g.T.TapeSource.state c.args.tapes.now) going left
          (ap (λ (g : ChaCha). g.key) set ∙ ap (λ (g : ChaCha). g.key) seeded)
          (ap (λ (g : ChaCha). g.stream) set)
          (ap (λ (g : ChaCha). g.word_pos) set ∙ ap (λ (g : ChaCha). g.word_pos) seeded)
          (omega (arith, links, small, ok));
      is = is;
    }

pub deliver_full-requires : goal.deliver_full-requires
deliver_full-requires g c =
    let r = c.requires in
    let h = c.loop-link.invariant r.0 r.1 (use_of c.args.self.now r.0 r.1 c.in_default.is) r.2 in (
      h.then,
      h.is,
      h.along.state.going,
      λ going. h.along.state.left,
      chosen_on_way h.then _ c.chosen.result c.in-Some-chosen.link (c.chosen.ensures h.then h.is) c.in-Some-chosen.is,
    )

pub loop-link-preserved : goal.loop-link-preserved
loop-link-preserved g c = λ s is going left.
    let state = g.T.TapeSource.state in
    let h = c.loop-link.invariant s is going left in
    let on = chosen_on_way h.then _ c.chosen.result c.in-Some-chosen.link (c.chosen.ensures h.then h.is) c.in-Some-chosen.is in
    let d = c.in_ok-deliver_full.ensures.delivers h.then h.is h.along.state.going (λ same. h.along.state.left) on in
    let links = sym (ap length h.is.recorded) in
    let small = c.loop-link.self.recorded.small in
    let ok = c.loop-link.self.recorded.ok in
    record {
      then = d.then;
      along =
          shuffling_on c.args.seed c.loop-link.words c.next_word.new.self c.next_word.result s h.then (state c.args.tapes.now)
          (state c.loop-link.tapes) c.chosen.result (c.chosen.ensures h.then h.is) c.next_word.ensures h.along c.in-Some-chosen.link d.then
          (state c.deliver_full.new.tapes) c.in-Some-chosen.is (omega (arith, links, small, ok)) d.along;
      is = d.is;
    }

pub loop-link-smaller : goal.loop-link-smaller
loop-link-smaller g c =
    let one = c.in_ok-deliver_full.ensures.recorded in
    let small = c.loop-link.self.recorded.small in
    let ok = c.loop-link.self.recorded.ok in
    omega (arith, one, small, ok)

pub returns-in_err-deliver_full-clause-made : goal.returns-in_err-deliver_full-clause-made
returns-in_err-deliver_full-clause-made g c = λ s is going left.
    let state = g.T.TapeSource.state in
    let why = c.in_err-deliver_full.field-0.0 in
    let p = err_from_is_err_and c.from_residual.result c.from_residual.ensures.1 in
    let h = c.loop-link.invariant s is going left in
    let on = chosen_on_way h.then _ c.chosen.result c.in-Some-chosen.link (c.chosen.ensures h.then h.is) c.in-Some-chosen.is in
    let d = c.in_err-deliver_full.ensures.delivers h.then h.is h.along.state.going (λ same. h.along.state.left) on in
    rw (p.1, p.2)
    (record {
      then = d.then;
      along =
          lost_on s h.then d.then (state c.args.tapes.now) (state c.loop-link.tapes) (state c.deliver_full.new.tapes)
          (Shuffling c.args.seed c.loop-link.words) (Delivered c.in-Some-chosen.link (Err why))
          (λ x y. OnOk {T = Unit {0}} (Err why) (Makes (stream_word c.args.seed 4) x y)) why h.along d.along (λ x y. tt);
      is = d.is;
    })

pub returns-clause-made : goal.returns-clause-made
returns-clause-made g c = λ s is going left.
    let state = g.T.TapeSource.state in
    let h = c.loop-link.invariant s is going left in
    record {
      then = h.then;
      along =
          shuffling_end c.args.seed c.loop-link.words c.next_word.new.self c.next_word.result s h.then (state c.args.tapes.now)
          (state c.loop-link.tapes) c.chosen.result (c.chosen.ensures h.then h.is) c.next_word.ensures h.along c.in_default-chosen.is;
      is = h.is;
    }
