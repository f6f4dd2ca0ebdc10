use Rattle.std.proofs.Common.{◌≡◌, ◌∙◌, ap}
use Rattle.proto_core.specs.declared.party.Number.{Number}
use Rattle.proto_core.specs.Parties.{count_of, previous_of}
use Rattle.miner_core.specs.Story.{sent_to_previous}
use Rattle.miner_core.specs.Miners.{held}
use Rattle.miner_core.specs.Streams.{with_tape}
use Rattle.miner_node.proofs.sending.send_previous.Goals as goal

pub returns : goal.returns
returns g c = λ going tape of.
    let peer : c.as_u8-peer.result ≡ count_of (previous_of g.P.Party.me) =
    c.as_u8-peer.ensures ∙ ap count_of c.previous.ensures ∙ ap (λ (q : Number). count_of (previous_of q)) c.number.ensures in
    let messages : c.sent_to_previous.result.now ≡ sent_to_previous g.P.Party.me (with_tape (held c.args.miner.now) tape) = c.sent_to_previous.ensures going tape of in
    rw (peer, messages) at c.send_from.ensures
