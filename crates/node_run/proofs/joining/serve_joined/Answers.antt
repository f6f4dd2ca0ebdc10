use Rattle.std.proofs.Common.{◌≡◌, ◌∙◌, ap, subst}
use Rattle.outside.specs.Links.{OneMore, joined}
use Rattle.proto_core.specs.Parties.{count_of}
use Rattle.miner_core.specs.Miners.{held}
use Rattle.node_run.proofs.Joins.{unjoined_by, joined_from}
use Rattle.node_run.proofs.joining.serve_joined.Goals as goal

pub returns-in-Ok-clause-serves : goal.returns-in-Ok-clause-serves
returns-in-Ok-clause-serves g c =
    let state = g.L.Links.state in
    let h = c.in-Ok.ensures in
    let me : c.as_u8.result ≡ count_of g.P.Party.me = c.as_u8.ensures ∙ ap count_of c.number.ensures in
    joined_from g.P.Party.me c.args.port (state c.args.links.now) (state c.connect.new.self) h.moves_none
    (record { told = h.moves_none.told; faults = h.cause.later; still = h.still }) c.args.hello.now (held c.args.miner)
    (g.T.TapeSource.state c.args.tapes.now) (state c.serve_from.new.links) (g.T.TapeSource.state c.serve_from.new.tapes) c.serve_from.result _ _
    (subst (λ n. OneMore (state c.args.links.now) (state c.connect.new.self) (joined n c.args.port)) me h.called) c.serve_from.ensures.serves

pub returns-in-Err-clause-serves : goal.returns-in-Err-clause-serves
returns-in-Err-clause-serves g c =
    let state = g.L.Links.state in
    let h = c.in-Err.ensures in
    rw c.unjoined.ensures
    (unjoined_by g.P.Party.me c.args.port (state c.args.links.now) (state c.connect.new.self) h.moves_none
    (record { told = h.moves_none.told; faults = h.cause.later; still = h.still }) c.args.hello.now (held c.args.miner)
    (g.T.TapeSource.state c.args.tapes.now) _ _ c.in-Err.e h.cause h.steady h.err)
