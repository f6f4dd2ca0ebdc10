use Rattle.std.proofs.Common.{refl, arith}
use Rattle.link_schedule.proofs.Nets.{use_of}
use Rattle.link_schedule.proofs.Ordering.{entry_empty, entry_end, entry_lost, entry_on, entry_start}
use Rattle.link_schedule.proofs.net.Net3.run.Goals as goal

pub loop-link-init : goal.loop-link-init
loop-link-init g c = λ s is going left.
    record { then = s; along = entry_start s (g.T.TapeSource.state c.args.tapes.now) c.args.schedule.now going left; is = is }

pub deliver-requires : goal.deliver-requires
deliver-requires g c =
    let r = c.requires in
    let h = c.loop-link.invariant r.0 r.1 (use_of c.args.self.now r.0 r.1 c.in_default.is) r.2 in
    (h.then, h.is, λ going. h.along.state.left)

pub loop-link-preserved : goal.loop-link-preserved
loop-link-preserved g c = λ s is going left.
    let state = g.T.TapeSource.state in
    let h = c.loop-link.invariant s is going left in
    let d = c.in-Ok.ensures.answers h.then h.is h.along.state.going (λ same. h.along.state.left) in
    record {
      then = d.then;
      along =
          entry_on s h.then d.then (state c.args.tapes.now) (state c.loop-link.tapes) (state c.deliver.new.tapes)
          c.args.schedule.now c.loop-link.link-index (omega arith) _ _ refl h.along d.along;
      is = d.is;
    }

pub returns-in-Err-EmptyLink-clause-answers : goal.returns-in-Err-EmptyLink-clause-answers
returns-in-Err-EmptyLink-clause-answers g c =
    let state = g.T.TapeSource.state in
    let e = c.in-Err-EmptyLink in
    rw e.field-0-is
    (λ s is going left.
    let h = c.loop-link.invariant s is going left in
    let d = e.ensures.answers h.then h.is h.along.state.going (λ same. h.along.state.left) in
    record {
      then = d.then;
      along =
          entry_empty s h.then d.then (state c.args.tapes.now) (state c.loop-link.tapes) (state c.deliver.new.tapes)
          c.args.schedule.now c.loop-link.link-index (omega arith) _ _ refl h.along e.entry e.link e.sent e.field-0 e.field-0-is d.along;
      is = d.is;
    })

pub returns-in-Err-Lost-clause-answers : goal.returns-in-Err-Lost-clause-answers
returns-in-Err-Lost-clause-answers g c =
    let state = g.T.TapeSource.state in
    let e = c.in-Err-Lost in
    rw e.field-0-is
    (λ s is going left.
    let h = c.loop-link.invariant s is going left in
    let d = e.ensures.answers h.then h.is h.along.state.going (λ same. h.along.state.left) in
    record {
      then = d.then;
      along =
          entry_lost s h.then d.then (state c.args.tapes.now) (state c.loop-link.tapes) (state c.deliver.new.tapes)
          c.args.schedule.now c.loop-link.link-index (omega arith) _ _ refl h.along e.lost e.field-0 e.field-0-is d.along;
      is = d.is;
    })

pub returns-clause-answers : goal.returns-clause-answers
returns-clause-answers g c = λ s is going left.
    let state = g.T.TapeSource.state in
    let h = c.loop-link.invariant s is going left in
    record {
      then = h.then;
      along =
          entry_end s h.then (state c.args.tapes.now) (state c.loop-link.tapes) c.args.schedule.now c.loop-link.link-index (omega arith)
          h.along c.stalled.result (c.stalled.ensures h.then h.is);
      is = h.is;
    }
