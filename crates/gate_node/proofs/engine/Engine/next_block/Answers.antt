use Rattle.std.proofs.Common.{◌≡◌, ◌+◌, ◌-◌, ◌++◌, take, length, sym, ◌∙◌, ap, arith, length-drop}
use Rattle.proto_core.specs.Strand.{Ends}
use Rattle.gates.specs.Clear.{value}
use Rattle.blocked_protocol.specs.Blocked.{joined}
use Rattle.gate_exchanges.specs.Exchanges.{protocol_of}
use Rattle.gate_exchanges.specs.Exchanged.{second_value}
use Rattle.block_steps.specs.Outcomes.{outcome_of}
use Rattle.block_steps.specs.Pendings.{pending_left}
use Rattle.gate_node.specs.Shares.{shares_of}
use Rattle.gate_node.specs.Plans.{then_wanted}
use Rattle.gate_node.specs.Nodes.{blocks_then, protocol_at, gates_then, filled}
use Rattle.gate_node.proofs.Plans.{outcome-wanted}
use Rattle.gate_node.specs.declared.engine.AtWork.TheVariants.{Between, Within}
use Rattle.gate_node.proofs.Blocks.{draws-apart}
use Rattle.gate_node.proofs.Tapes.{front-more, further}
use Rattle.gate_node.proofs.Turns.{next-turn, reaches, begun-left, of-made, put-to-work, sound-work}
use Rattle.gate_node.proofs.engine.Engine.next_block.Goals as goal

pub returns-in-Stands-clause-same : goal.returns-in-Stands-clause-same
returns-in-Stands-clause-same g c =
    let i = g.P.Party.me in
    let e = c.args.self.now in
    let r = c.args.running in
    let x = r.gate.exchange in
    let b = c.begin.new.links in
    λ more.
    let front = front-more (c.draws-count.result) e.tape.1 more
    (reaches i r.gate.exchange r.begun c.min-size.result (value e.values r.gate.u) c.value-u.result.now
    c.draws-count.result e.tape.1 c.value-u.ensures c.if-begun-u.false c.min-size.ensures
    (c.draws-count.ensures ∙ ap (λ k. (protocol_of x).draws c.min-size.result k) c.number.ensures) c.requires.sound.reach) in
    put-to-work i (filled (record e { tape = c.draw.new.self; links = c.begin.new.links; work = c.put-in-Stands.new.place }) more)
    (Within (record { gate = r.gate; begun = r.begun + c.min-size.result; made = r.made }) c.in-Stands.block) c.put-in-Stands.ensures
    ∙ outcome-wanted i e.dealt e.wanted b e.links _ _
    (next-turn i x r.begun c.min-size.result (value e.values r.gate.u) (second_value e.values r.gate.v) (e.tape.1 ++ more) r.made (gates_then i (filled e more))
    e.links b (pending_left i c.in-Stands.block) (c.draw.new.self.1 ++ more) c.value-u.result.now c.second_value.result.now c.left.result.now
    c.second-from.result c.second.result c.draws-count.result
    c.value-u.ensures c.second_value.ensures (ap (take c.draws-count.result) c.left.ensures ∙ sym front.0) c.second-from.ensures c.second.ensures
    (c.draws-count.ensures ∙ ap (λ k. (protocol_of x).draws c.min-size.result k) c.number.ensures)
    (ap (λ l. l ++ more) c.draw.ensures.left ∙ sym front.1) c.if-begun-u.false c.min-size.ensures
    (further ((protocol_of x).draws (length (value e.values r.gate.u) - r.begun) i) e.tape.1 more c.requires.sound.reach)
    (ap (outcome_of i b) (sym (begun-left (pending_left i) c.in_ok-progress.progress c.in-Stands.block c.in-Stands.is)) ∙ c.in_ok-progress.ensures.same))

pub returns-in-Stands-clause-sound : goal.returns-in-Stands-clause-sound
returns-in-Stands-clause-sound g c =
    let i = g.P.Party.me in
    let e = c.args.self.now in
    let r = c.args.running in
    let x = r.gate.exchange in
    let u = value e.values r.gate.u in
    let size = c.min-size.result in
    let w : length c.value-u.result.now ≡ length u = ap length c.value-u.ensures in
    let k = length u - r.begun in
    let rest = length u - (r.begun + size) in
    let is = c.min-size.ensures in
    let some = c.if-begun-u.false in
    let apart : size + rest ≡ k = omega (arith, w, is, some) in
    let draws = draws-apart x i size rest k apart in
    let count : c.draws-count.result ≡ (protocol_of x).draws size i = c.draws-count.ensures ∙ ap (λ k. (protocol_of x).draws size k) c.number.ensures in
    let left : length c.draw.new.self.1 ≡ length e.tape.1 - c.draws-count.result = ap length c.draw.ensures.left ∙ length-drop c.draws-count.result e.tape.1 in
    record {
      gates = c.requires.gates;
      work =
          sound-work i (record e { tape = c.draw.new.self; links = c.begin.new.links; work = c.put-in-Stands.new.place })
          (Within (record { gate = r.gate; begun = r.begun + c.min-size.result; made = r.made }) c.in-Stands.block) c.put-in-Stands.ensures (record {
            within = omega (arith, w, is, some);
            second = c.requires.sound.second;
            reach = omega (arith, draws, count, left, c.requires.sound.reach);
          });
    }

pub returns-in_ok-through-in-Made-clause-sound : goal.returns-in_ok-through-in-Made-clause-sound
returns-in_ok-through-in-Made-clause-sound g c =
    let i = g.P.Party.me in
    let e = c.args.self.now in
    let r = c.args.running in
    let x = r.gate.exchange in
    let u = value e.values r.gate.u in
    let size = c.min-size.result in
    let w : length c.value-u.result.now ≡ length u = ap length c.value-u.ensures in
    let k = length u - r.begun in
    let rest = length u - (r.begun + size) in
    let is = c.min-size.ensures in
    let some = c.if-begun-u.false in
    let apart : size + rest ≡ k = omega (arith, w, is, some) in
    let draws = draws-apart x i size rest k apart in
    let count : c.draws-count.result ≡ (protocol_of x).draws size i = c.draws-count.ensures ∙ ap (λ k. (protocol_of x).draws size k) c.number.ensures in
    let left : length c.draw.new.self.1 ≡ length e.tape.1 - c.draws-count.result = ap length c.draw.ensures.left ∙ length-drop c.draws-count.result e.tape.1 in
    record {
      gates = c.requires.gates;
      work =
          sound-work i (record e { tape = c.draw.new.self; links = c.begin.new.links; work = c.put.new.place })
          (Between (record { gate = r.gate; begun = r.begun + c.min-size.result; made = joined r.made (shares_of c.in-Made.first c.in-Made.second) }))
          (c.put.ensures ∙ ap Between c.in_ok-through-in-Made.ensures) (record {
            within = omega (arith, w, is, some);
            second = c.requires.sound.second;
            reach = omega (arith, draws, count, left, c.requires.sound.reach);
          });
    }

pub returns-in_ok-through-in-Made-clause-same : goal.returns-in_ok-through-in-Made-clause-same
returns-in_ok-through-in-Made-clause-same g c =
    let i = g.P.Party.me in
    let e = c.args.self.now in
    let r = c.args.running in
    let x = r.gate.exchange in
    let b = c.begin.new.links in
    λ more.
    let front = front-more (c.draws-count.result) e.tape.1 more
    (reaches i r.gate.exchange r.begun c.min-size.result (value e.values r.gate.u) c.value-u.result.now
    c.draws-count.result e.tape.1 c.value-u.ensures c.if-begun-u.false c.min-size.ensures
    (c.draws-count.ensures ∙ ap (λ k. (protocol_of x).draws c.min-size.result k) c.number.ensures) c.requires.sound.reach) in
    put-to-work i (filled (record e { tape = c.draw.new.self; links = c.begin.new.links; work = c.put.new.place }) more)
    (Between c.in_ok-through-in-Made.field-0) c.put.ensures
    ∙ ap (λ q.
    outcome_of i b
    (then_wanted i e.dealt e.wanted
    (blocks_then (protocol_at q) i q.begun (value e.values q.gate.u) (second_value e.values q.gate.v) (c.draw.new.self.1 ++ more) q.made
    (gates_then i (filled e more)))))
    c.in_ok-through-in-Made.ensures
    ∙ outcome-wanted i e.dealt e.wanted b e.links _ _
    (next-turn i x r.begun c.min-size.result (value e.values r.gate.u) (second_value e.values r.gate.v) (e.tape.1 ++ more) r.made (gates_then i (filled e more))
    e.links b (Ends (shares_of c.in-Made.first c.in-Made.second)) (c.draw.new.self.1 ++ more) c.value-u.result.now c.second_value.result.now c.left.result.now
    c.second-from.result c.second.result c.draws-count.result
    c.value-u.ensures c.second_value.ensures (ap (take c.draws-count.result) c.left.ensures ∙ sym front.0) c.second-from.ensures c.second.ensures
    (c.draws-count.ensures ∙ ap (λ k. (protocol_of x).draws c.min-size.result k) c.number.ensures)
    (ap (λ l. l ++ more) c.draw.ensures.left ∙ sym front.1) c.if-begun-u.false c.min-size.ensures
    (further ((protocol_of x).draws (length (value e.values r.gate.u) - r.begun) i) e.tape.1 more c.requires.sound.reach)
    (ap (outcome_of i b) (sym (of-made (pending_left i) c.in_ok-progress.progress c.in-Made.first c.in-Made.second c.in-Made.is))
    ∙ c.in_ok-progress.ensures.same))
