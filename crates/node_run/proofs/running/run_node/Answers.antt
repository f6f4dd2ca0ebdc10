use Rattle.std.proofs.Common.{◌∙◌}
use Rattle.miner_core.specs.Miners.{held}
use Rattle.std.proofs.lemmas.Result.{err_from_is_err_and}
use Rattle.node_run.proofs.Answered.{ends_from, ready_so, stops_from, unbegun_from, untold_from}
use Rattle.node_run.proofs.running.run_node.Goals as goal

pub returns-in-Err-clause-runs : goal.returns-in-Err-clause-runs
returns-in-Err-clause-runs g c =
    let tapes = g.T.TapeSource.state in
    rw c.unbegun.ensures
    (unbegun_from g.P.Party.me c.args.own c.args.port (tapes c.args.tapes.now) (tapes c.begin.new.tapes) (g.L.Links.state c.args.links.now) c.in-Err.lost
    c.in-Err.ensures.draws)

pub serve_joined-requires-clause-ready : goal.serve_joined-requires-clause-ready
serve_joined-requires-clause-ready g c =
    let tapes = g.T.TapeSource.state in
    let h = c.in-Ok.ensures in
    let b = c.in-Ok.begun in
    ready_so g.P.Party.me c.args.own c.args.port b.hello (held b.miner) (tapes c.args.tapes.now) (tapes c.begin.new.tapes) h.hello h.miner h.past

pub returns-in_err-served-clause-runs : goal.returns-in_err-served-clause-runs
returns-in_err-served-clause-runs g c =
    let tapes = g.T.TapeSource.state in
    let links = g.L.Links.state in
    let h = c.in-Ok.ensures in
    let b = c.in-Ok.begun in
    let p = err_from_is_err_and c.from_residual.result c.from_residual.ensures.1 in
    rw (p.1, p.2)
    (stops_from g.P.Party.me c.args.own c.args.port b.hello (held b.miner) (tapes c.args.tapes.now) (tapes c.begin.new.tapes) h.hello h.miner
    (links c.args.links.now) (links c.serve_joined.new.links) (tapes c.serve_joined.new.tapes) _ _ h.draws.still c.in_err-served.field-0.0
    c.in_err-served.ensures.serves)

pub text_served-requires : goal.text_served-requires
text_served-requires g c = c.in_ok-served.ensures.serves.serves.ok.gone.past ∙ c.in-Ok.ensures.past

pub returns-in-Ok-text_served-clause-runs : goal.returns-in-Ok-text_served-clause-runs
returns-in-Ok-text_served-clause-runs g c =
    let tapes = g.T.TapeSource.state in
    let links = g.L.Links.state in
    let h = c.in-Ok.ensures in
    let b = c.in-Ok.begun in
    ends_from g.P.Party.me c.args.own c.args.port b.hello (held b.miner) (tapes c.args.tapes.now) (tapes c.begin.new.tapes) h.hello h.miner
    (links c.args.links.now) (links c.serve_joined.new.links) (tapes c.serve_joined.new.tapes) _ _ h.draws.still c.in_ok-served.served
    c.in_ok-served.ensures.serves b.undealt h.undealt c.in-Ok-text_served.told c.in-Ok-text_served.ensures

pub returns-in-Err-text_served-clause-runs : goal.returns-in-Err-text_served-clause-runs
returns-in-Err-text_served-clause-runs g c =
    let tapes = g.T.TapeSource.state in
    let links = g.L.Links.state in
    let h = c.in-Ok.ensures in
    let b = c.in-Ok.begun in
    untold_from g.P.Party.me c.args.own c.args.port b.hello (held b.miner) (tapes c.args.tapes.now) (tapes c.begin.new.tapes) h.hello h.miner
    (links c.args.links.now) (links c.serve_joined.new.links) (tapes c.serve_joined.new.tapes) _ _ h.draws.still c.in_ok-served.served
    c.in_ok-served.ensures.serves
