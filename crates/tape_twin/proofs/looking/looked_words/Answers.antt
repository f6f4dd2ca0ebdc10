use Rattle.std.proofs.Common.{◌≡◌, length, ◌∙◌, ap, sym}
use Rattle.proto_core.specs.declared.party.Number.{Number}
use Rattle.proto_core.specs.declared.party.Number.TheVariants.{Three}
use Rattle.blocked_protocol.specs.Blocked.{blocked}
use Rattle.joint_run.specs.Three.{each_of, joint}
use Rattle.joint_run.specs.Exchanges.{protocol_of}
use Rattle.tape_twin.specs.declared.way.Looker.{Looker}
use Rattle.tape_twin.specs.Maps.{block_map, looked_protocol, rows_map, exchange_rows}
use Rattle.tape_twin.proofs.Looks.{miner-words, client-words}
use Rattle.tape_twin.proofs.Passing.{if-ok}
use Rattle.tape_twin.proofs.looking.looked_words.Goals as goal

pub returns-in-Miner-clause-words : goal.returns-in-Miner-clause-words
returns-in-Miner-clause-words c =
    let p = blocked (protocol_of c.args.exchanged.exchange) in
    let n = length c.args.operands.u.first in
    let j = joint c.args.operands in
    let way = c.args.map.way in
    if-ok (λ made. (k : Number) → each_of made k ≡ block_map way p n c.in-Miner.miner j k)
    (λ made. (k : Number) → each_of made k ≡ block_map way (looked_protocol c.args.map.looker c.args.gate.now p) n Three j k)
    (λ made same k.
    same k
    ∙ miner-words way c.in-Miner.miner c.args.gate.now p n j k
    ∙ ap (λ (l : Looker). block_map way (looked_protocol l c.args.gate.now p) n Three j k) (sym c.in-Miner.is))
    c.map_gate.result c.map_gate.ensures.words

pub returns-in-Client-clause-words : goal.returns-in-Client-clause-words
returns-in-Client-clause-words c =
    let p = blocked (protocol_of c.args.exchanged.exchange) in
    let n = length c.args.operands.u.first in
    let j = joint c.args.operands in
    let way = c.args.map.way in
    if-ok (λ made. (k : Number) → each_of made k ≡ rows_map way (exchange_rows c.args.exchanged.exchange) n j k)
    (λ made. (k : Number) → each_of made k ≡ block_map way (looked_protocol c.args.map.looker c.args.gate.now p) n Three j k)
    (λ made same k.
    same k
    ∙ client-words way c.args.gate.now c.args.exchanged c.requires.is p n j k
    ∙ ap (λ (l : Looker). block_map way (looked_protocol l c.args.gate.now p) n Three j k) (sym c.in-Client.is))
    c.client_words.result c.client_words.ensures.words
