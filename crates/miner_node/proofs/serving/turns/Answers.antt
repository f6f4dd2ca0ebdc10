use Rattle.std.proofs.Common.{rules, refl, ap, ◌∙◌, Ok, Err}
use Rattle.std.proofs.lemmas.Result.{err_from_is_err_and}
use Rattle.miner_core.specs.Miners.{held}
use Rattle.miner_core.specs.Streams.{has_lost, with_tape}
use Rattle.miner_node.specs.Turns.{IsServing, EndsTurns}
use Rattle.miner_node.proofs.Along.{along_here, along_as, along_on, along_ok, along_err}
use Rattle.miner_node.proofs.Faulting.{later_self}
use Rattle.miner_node.proofs.Ordering.{order_first}
use Rattle.miner_node.proofs.Turning.{serves_first}
use Rattle.miner_node.proofs.Rounds.{turns_end, turns_stop, turns_go, turns_unended}
use Rattle.miner_node.proofs.serving.turns.Goals as goal

pub loop-init : goal.loop-init
loop-init g c =
    let start = g.L.Links.state c.args.links.now in
    let m = held c.args.miner.now in
    along_here g.P.Party.me m (g.T.TapeSource.state c.args.tapes.now) _ _ c.requires.going c.requires.left
    (λ tape of. serves_first g.P.Party.me start (with_tape m tape) (ap has_lost c.requires.going) c.requires.previous c.requires.next
    (record { to_next = 0; to_previous = 0 }) refl refl (later_self start)
    (order_first g.P.Party.me start (with_tape m tape)))

pub turn-requires : goal.turn-requires
turn-requires g c = record { kept = c.loop.invariant.ok.past ∙ c.requires.kept; going = c.loop.invariant.ok.going; left = c.loop.invariant.ok.left }

pub loop-preserved : goal.loop-preserved
loop-preserved g c =
    let i = g.P.Party.me in
    let a = g.L.Links.state c.args.links.now in
    let b = g.L.Links.state c.turn.new.links in
    let s = g.T.TapeSource.state c.args.tapes.now in
    let t = g.T.TapeSource.state c.loop.tapes in
    let u = g.T.TapeSource.state c.turn.new.tapes in
    let m = held c.args.miner.now in
    let n = held c.loop.miner in
    let k = held c.turn.new.miner in
    let all =
    along_on i m n k s t u tt (Ok c.in_ok-ending.field-0) _ _
    (λ tape. IsServing i a b (with_tape m tape) (with_tape k tape) c.turn.new.counts) c.loop.invariant c.in_ok-ending.ensures
    (λ tape q r. turns_go i a b (with_tape m tape) (with_tape k tape) c.turn.new.counts c.in_ok-ending.field-0 (search rules) (r a (with_tape m tape) q)) in
    along_ok i m k s u c.in_ok-ending.field-0 tt _ all

pub returns-in_err-ending : goal.returns-in_err-ending
returns-in_err-ending g c =
    let i = g.P.Party.me in
    let a = g.L.Links.state c.args.links.now in
    let b = g.L.Links.state c.turn.new.links in
    let s = g.T.TapeSource.state c.args.tapes.now in
    let t = g.T.TapeSource.state c.loop.tapes in
    let u = g.T.TapeSource.state c.turn.new.tapes in
    let m = held c.args.miner.now in
    let n = held c.loop.miner in
    let k = held c.turn.new.miner in
    let e = c.in_err-ending.field-0.0 in
    let p = err_from_is_err_and c.from_residual.result c.from_residual.ensures.1 in
    rw (p.1, p.2)
    (along_err i m k s u e _
    (along_on i m n k s t u tt (Err e) _ _ (λ tape. EndsTurns i a b (with_tape m tape) (with_tape k tape) (Err e)) c.loop.invariant c.in_err-ending.ensures
    (λ tape q r. turns_stop i a b (with_tape m tape) (with_tape k tape) c.turn.new.counts e (r a (with_tape m tape) q))))

pub returns-in-Some : goal.returns-in-Some
returns-in-Some g c =
    let i = g.P.Party.me in
    let a = g.L.Links.state c.args.links.now in
    let b = g.L.Links.state c.turn.new.links in
    let s = g.T.TapeSource.state c.args.tapes.now in
    let t = g.T.TapeSource.state c.loop.tapes in
    let u = g.T.TapeSource.state c.turn.new.tapes in
    let m = held c.args.miner.now in
    let n = held c.loop.miner in
    let k = held c.turn.new.miner in
    let o = c.in_ok-ending.field-0 in
    along_ok i m k s u o c.in-Some.ending _
    (along_on i m n k s t u tt (Ok o) _ _ (λ tape. EndsTurns i a b (with_tape m tape) (with_tape k tape) (Ok c.in-Some.ending)) c.loop.invariant
    c.in_ok-ending.ensures
    (λ tape q r. turns_end i a b (with_tape m tape) (with_tape k tape) c.turn.new.counts o c.in-Some.ending c.in-Some.is (r a (with_tape m tape) q)))

pub returns : goal.returns
returns g c =
    let i = g.P.Party.me in
    let links = g.L.Links.state in
    let m = held c.args.miner.now in
    let n = held c.loop.miner in
    along_as i m n (g.T.TapeSource.state c.args.tapes.now) (g.T.TapeSource.state c.loop.tapes) _ _ _ _ c.loop.invariant c.requires.left
    (λ tape of q. turns_unended i (links c.args.links.now) (links c.loop.links) (with_tape m tape) (with_tape n tape) c.loop.counts q) (λ taken k. tt)
