use Rattle.std.proofs.Common.{◌≡◌, ◌≤◌, ℕ, length, take, sym, ◌∙◌, ap, subst}
use Rattle.proto_core.specs.declared.party.Number.{Number}
use Rattle.proto_core.specs.declared.party.Number.TheVariants.{One, Three}
use Rattle.proto_core.specs.Protocol.{Joint, Protocol}
use Rattle.blocked_protocol.specs.Blocked.{blocked}
use Rattle.joint_run.specs.Three.{each_of, joint, values_of}
use Rattle.joint_run.specs.Parts.{ThreeLists}
use Rattle.joint_run.specs.Exchanges.{protocol_of, IsSized}
use Rattle.tape_twin.specs.Maps.{block_map, looked_protocol}
use Rattle.tape_twin.specs.Stands.{size_of_operand, drawn_for}
use Rattle.tape_twin.proofs.Passing.{drawn-operands, takes-sized}
use Rattle.tape_twin.proofs.gate.map_exchange.Goals as goal

pub looked_words-requires : goal.looked_words-requires
looked_words-requires c =
    let x = c.args.gate in
    let p = protocol_of x.exchange in
    let shares = values_of c.args.shares.now in
    let rest = each_of c.args.passing.now.rest in
    let j = joint c.operands-operands.result in
    let n = length c.value-n.result.now in
    let size : n ≡ size_of_operand x shares = ap length c.value-n.ensures in
    let words : (k : Number) → j.words k ≡ take (p.draws n k) (rest k) =
    λ k. c.operands-operands.ensures.words k ∙ ap (λ (t : ThreeLists). each_of t k) c.given.view_is ∙ c.in_ok-given.ensures.drawn k in
    let same : j ≡ drawn_for x shares rest =
    drawn-operands x shares rest j n size c.operands-operands.ensures.u c.operands-operands.ensures.v words in
    let first : length (j.u One) ≡ size_of_operand x shares = ap length (c.operands-operands.ensures.u One) in
    let reach : (k : Number) → p.draws (size_of_operand x shares) k ≤ length (rest k) =
    λ k. subst (λ (m : ℕ). p.draws m k ≤ length (rest k)) size (c.in_ok-given.ensures.reach k) in
    record {
      is = c.requires.is;
      sized =
          subst (λ (b : Joint). IsSized p (length (j.u One)) b) (sym same)
          (subst (λ (m : ℕ). IsSized p m (drawn_for x shares rest)) (sym first)
          (takes-sized c.args.placed.gate.now x shares rest c.requires reach));
    }

pub returns-clause-mapped : goal.returns-clause-mapped
returns-clause-mapped c =
    let x = c.args.gate in
    let p = protocol_of x.exchange in
    let shares = values_of c.args.shares.now in
    let rest = each_of c.args.passing.now.rest in
    let j = joint c.operands-operands.result in
    let n = length c.value-n.result.now in
    let size : n ≡ size_of_operand x shares = ap length c.value-n.ensures in
    let words : (k : Number) → j.words k ≡ take (p.draws n k) (rest k) =
    λ k. c.operands-operands.ensures.words k ∙ ap (λ (t : ThreeLists). each_of t k) c.given.view_is ∙ c.in_ok-given.ensures.drawn k in
    let same : j ≡ drawn_for x shares rest =
    drawn-operands x shares rest j n size c.operands-operands.ensures.u c.operands-operands.ensures.v words in
    let first : length (j.u One) ≡ size_of_operand x shares = ap length (c.operands-operands.ensures.u One) in
    let q : Protocol = looked_protocol c.args.map.looker c.args.placed.gate.now (blocked p) in
    λ k.
    c.in_ok-mapped.ensures.words k
    ∙ ap (λ (m : ℕ). block_map c.args.map.way q m Three j k) first
    ∙ ap (λ (b : Joint). block_map c.args.map.way q (size_of_operand x shares) Three b k) same

pub returns-clause-len : goal.returns-clause-len
returns-clause-len c =
    λ k.
    c.in_ok-mapped.ensures.len k
    ∙ ap (λ (m : ℕ). (protocol_of c.args.gate.exchange).draws m k) (ap length (c.operands-operands.ensures.u One))
