use Rattle.std.proofs.Common.{◌≡◌}
use Rattle.std.proofs.lemmas.Result.{err_from_is_err_and}
use Rattle.proto_core.specs.Parties.{receiver_of}
use Rattle.miner_core.specs.Miners.{held}
use Rattle.miner_core.specs.Streams.{with_tape}
use Rattle.miner_node.proofs.Along.{along_here, along_as}
use Rattle.miner_node.proofs.Rounds.{not_own, untaken, takes}
use Rattle.miner_node.proofs.serving.take_message.Goals as goal

pub returns-then-not-ends_here : goal.returns-then-not-ends_here
returns-then-not-ends_here g c =
    along_here g.P.Party.me (held c.args.miner.now) (g.T.TapeSource.state c.args.tapes.now) _ _ c.requires.going c.requires.left
    (λ tape of. not_own g.P.Party.me c.args.link (with_tape (held c.args.miner.now) tape) (g.L.Links.state c.args.links.now))

pub returns-in_err-message : goal.returns-in_err-message
returns-in_err-message g c =
    let i = g.P.Party.me in
    let m = held c.args.miner.now in
    let l = c.args.link in
    let a = g.L.Links.state c.args.links.now in
    let b = g.L.Links.state c.read_of.new.links in
    let s = g.T.TapeSource.state c.args.tapes.now in
    let e = c.in_err-message.field-0.0 in
    let own : receiver_of l ≡ i = c.ends_here.ensures c.if-not-ends_here.false in
    let p = err_from_is_err_and c.from_residual.result c.from_residual.ensures.1 in
    rw (p.1, p.2)
    (along_here i m s _ _ c.requires.going c.requires.left (λ tape of. untaken i l own (with_tape m tape) a b e c.in_err-message.ensures))

pub returns : goal.returns
returns g c =
    let i = g.P.Party.me in
    let m = held c.args.miner.now in
    let n = held c.deliver.new.miner in
    let s = g.T.TapeSource.state c.args.tapes.now in
    let t = g.T.TapeSource.state c.deliver.new.tapes in
    let l = c.args.link in
    let a = g.L.Links.state c.args.links.now in
    let b = g.L.Links.state c.read_of.new.links in
    let own : receiver_of l ≡ i = c.ends_here.ensures c.if-not-ends_here.false in
    along_as i m n s t c.deliver.result c.deliver.result _ _ c.deliver.ensures c.requires.left
    (λ tape of q. takes i l own (with_tape m tape) a b c.in_ok-message.message c.in_ok-message.ensures (with_tape n tape) c.deliver.result q) (λ
    taken k. k)
