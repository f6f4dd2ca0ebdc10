use Rattle.std.proofs.Common.{◌∙◌, ap}
use Rattle.std.proofs.lemmas.Result.{err_from_is_err_and}
use Rattle.proto_core.specs.declared.party.P1.{P1}
use Rattle.proto_core.specs.declared.party.P2.{P2}
use Rattle.proto_core.specs.declared.party.P3.{P3}
use Rattle.miner_core.specs.Miners.{MinerSeen}
use Rattle.proto_core.specs.declared.party.Number.TheVariants.{One, Two, Three}
use Rattle.view_model.specs.Dealing.{private_shares}
use Rattle.link_schedule.specs.Miners.{IsNetOf}
use Rattle.link_schedule.proofs.Drawing.{both, net_drew_more, net_drew_none, none, of_one, only}
use Rattle.delivered_run.proofs.Netting.{alike, fresh, makes_lost, makes_net}
use Rattle.delivered_run.proofs.net.net.Goals as goal

pub returns-in_err-one-clause-makes : goal.returns-in_err-one-clause-makes
returns-in_err-one-clause-makes g c =
    let state = g.T.TapeSource.state in
    let a = state c.args.tapes.now in
    let is = err_from_is_err_and c.from_residual.result c.from_residual.ensures.1 in
    rw (is.1, is.2)
    (makes_lost IsNetOf c.args.setting.now c.args.files.now One a a (state c.miner.new.tapes) none (net_drew_none a) (λ s. s) c.in_err-one.field-0.0
    c.in_err-one.ensures.draws)

pub returns-in_err-two-clause-makes : goal.returns-in_err-two-clause-makes
returns-in_err-two-clause-makes g c =
    let state = g.T.TapeSource.state in
    let a = state c.args.tapes.now in
    let b = state c.miner.new.tapes in
    let first = c.in_ok-one.ensures.made.made in
    let is = err_from_is_err_and c.from_residual-in_err-two.result c.from_residual-in_err-two.ensures.1 in
    rw (is.1, is.2)
    (makes_lost IsNetOf c.args.setting.now c.args.files.now Two a b (state c.miner-2.new.tapes) (only One first.taken)
    (of_one a b One first.taken first.drew)
    c.in_ok-one.ensures.draws.still c.in_err-two.field-0.0 c.in_err-two.ensures.draws)

pub returns-in_err-three-clause-makes : goal.returns-in_err-three-clause-makes
returns-in_err-three-clause-makes g c =
    let state = g.T.TapeSource.state in
    let a = state c.args.tapes.now in
    let b = state c.miner.new.tapes in
    let d = state c.miner-2.new.tapes in
    let first = c.in_ok-one.ensures.made.made in
    let second = c.in_ok-two.ensures.made.made in
    let is = err_from_is_err_and c.from_residual-in_err-three.result c.from_residual-in_err-three.ensures.1 in
    rw (is.1, is.2)
    (makes_lost IsNetOf c.args.setting.now c.args.files.now Three a d (state c.miner-3.new.tapes) (both (only One first.taken) (only Two second.taken))
    (net_drew_more a b d (only One first.taken) (only Two second.taken) (of_one a b One first.taken first.drew) (of_one b d Two second.taken second.drew))
    (λ s. c.in_ok-two.ensures.draws.still (c.in_ok-one.ensures.draws.still s)) c.in_err-three.field-0.0 c.in_err-three.ensures.draws)

pub returns-clause-makes : goal.returns-clause-makes
returns-clause-makes g c =
    let state = g.T.TapeSource.state in
    let files = c.args.files.now in
    let setting = c.args.setting.now in
    let a = state c.args.tapes.now in
    let b = state c.miner.new.tapes in
    let d = state c.miner-2.new.tapes in
    let e = state c.miner-3.new.tapes in
    let one = c.in_ok-one.ensures in
    let two = c.in_ok-two.ensures in
    let three = c.in_ok-three.ensures in
    let m = one.made in
    let n = two.made in
    let k = three.made in
    let x = private_shares files.first.entries in
    let y = private_shares files.second.entries in
    let z = private_shares files.third.entries in
    makes_net setting files a b d e m.stream n.stream k.stream m.made n.made k.made IsNetOf c.new.result
    (c.new.ensures.net m.stream n.stream k.stream
    (record {
      first = m.is;
      second = n.is;
      third = k.is;
      alike_second = alike setting x y a b b d One Two m.stream n.stream m.made n.made;
      alike_third = alike setting x z a b d e One Three m.stream k.stream m.made k.made;
      fresh_first = fresh setting x a b One m.stream m.made;
      fresh_second = fresh setting y b d Two n.stream n.made;
      fresh_third = fresh setting z d e Three k.stream k.made;
    }))
    (λ s. three.draws.still (two.draws.still (one.draws.still s)))

pub returns-clause-kept : goal.returns-clause-kept
returns-clause-kept g c =
    let one = c.in_ok-one.ensures in
    let two = c.in_ok-two.ensures in
    let three = c.in_ok-three.ensures in
    record {
      one = ap (λ (m : MinerSeen P1). m.past) c.new.ensures.one ∙ one.made.past_is;
      two = ap (λ (m : MinerSeen P2). m.past) c.new.ensures.two ∙ two.made.past_is;
      three = ap (λ (m : MinerSeen P3). m.past) c.new.ensures.three ∙ three.made.past_is;
    }
