use Rattle.std.proofs.Common.{◌∙◌, ap, length, refl, arith}
use Rattle.protocol_model.proofs.Choosing.{one_longer}
use Rattle.link_schedule.proofs.Giving.{given_few}
use Rattle.link_schedule.proofs.Nets.{can_pass, goes_delivered, goes_late, goes_lost, work_held}
use Rattle.link_schedule.proofs.net.Net3.deliver_full.Goals as goal

pub pass-requires : goal.pass-requires
pass-requires g c =
    let r = c.requires in
    let h = r.1.works r.2 in
    (h.states, can_pass r.0 c.args.self.now h c.args.link (g.T.TapeSource.state c.args.tapes.now) r.3 r.4)

pub returns-in-Err-clause-delivers : goal.returns-in-Err-clause-delivers
returns-in-Err-clause-delivers g c = λ s is going left full.
    let a = g.T.TapeSource.state c.args.tapes.now in
    let h = is.works going in
    goes_lost s c.args.self.now h c.args.link a left full _ (g.T.TapeSource.state c.pass.new.tapes) c.in-Err.lost
    (c.in-Err.ensures h.states (can_pass s c.args.self.now h c.args.link a left full)) refl

pub returns-in-Err-push-clause-delivers : goal.returns-in-Err-push-clause-delivers
returns-in-Err-push-clause-delivers g c = λ s is going left full.
    let a = g.T.TapeSource.state c.args.tapes.now in
    let h = is.works going in
    goes_late s c.args.self.now h c.args.link a left full _ (g.T.TapeSource.state c.pass.new.tapes)
    (c.in_default.ensures h.states (can_pass s c.args.self.now h c.args.link a left full)) refl

pub add-requires : goal.add-requires
add-requires g c =
    let r = c.requires in
    let s = r.0 in
    let n = c.args.self.now in
    let h = r.1.works r.2 in
    let few = given_few s (work_held s n h) h.same (λ k. h.joined) r.2 c.args.link in
    let counted = h.counted c.args.link in
    let small = n.recorded.small in
    let ok = n.recorded.ok in
    omega (arith, few, counted, small, ok)

pub returns-clause-delivers : goal.returns-clause-delivers
returns-clause-delivers g c = λ s is going left full.
    let a = g.T.TapeSource.state c.args.tapes.now in
    let h = is.works going in
    goes_delivered s c.args.self.now h c.args.link a left full _ (g.T.TapeSource.state c.pass.new.tapes)
    (c.in_default.ensures h.states (can_pass s c.args.self.now h c.args.link a left full)) c.in_default-push.ensures.items c.add.ensures
    (is.lost ∙ going)

pub returns-clause-recorded : goal.returns-clause-recorded
returns-clause-recorded g c = ap length c.in_default-push.ensures.items ∙ one_longer c.args.self.now.recorded.items c.args.link
