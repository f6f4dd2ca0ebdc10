use Rattle.std.proofs.Common.{◌≡◌, ◌+◌, ◌<◌, ◌↔◌, IsTrue, length, get_or, slice_index_or, sym, ◌∙◌, ap, subst, arith}
use Rattle.protocol_model.specs.Gates.{sizes_of}
use Rattle.gates.specs.declared.gate.Gate.TheVariants.{Put}
use Rattle.gates.specs.Clear.{value, first_word}
use Rattle.gate_exchanges.specs.Model.{SizesSuit}
use Rattle.gate_node.proofs.Storing.{stores-last}
use Rattle.gate_node.proofs.Stores.{busy-no-store, planned-no-store, many-no-store, other-no-store, unfit-no-store, else-no-store, is-store}
use Rattle.gate_node.proofs.engine.Engine.last_store.Goals as goal
use Rattle.gate_node.proofs.engine.Engine.last_store.Goals.{then-not-is_idle-via-then-not-is_idle}
use Rattle.gate_node.proofs.engine.Engine.last_store.Goals.{then-not-is_idle-via-else-not-is_idle+then-not-is_all}
use Rattle.gate_node.proofs.engine.Engine.last_store.Goals.{then-not-is_idle-via-else-not-is_idle+else-not-is_all+then-len-self-ne1}
use Rattle.gate_node.proofs.engine.Engine.last_store.Goals.{then-operand-array-via-then-operand-array}
use Rattle.gate_node.proofs.engine.Engine.last_store.Goals.{then-operand-array-via-else-operand-array+then-not-suits}

pub returns-then-not-is_idle-clause-exactly : goal.returns-then-not-is_idle-clause-exactly
returns-then-not-is_idle-clause-exactly g c =
    let i = g.P.Party.me in
    let array = c.args.array in
    let e = c.args.self.now in
    elim c.then-not-is_idle.branch [
      | then-not-is_idle-via-then-not-is_idle w ↦ busy-no-store i array e (c.is_idle.ensures.at_work w.if-not-is_idle.true)
      | then-not-is_idle-via-else-not-is_idle+then-not-is_all w ↦ planned-no-store i array e (w.is_all.ensures.not_all w.if-not-is_all.true)
      | then-not-is_idle-via-else-not-is_idle+else-not-is_all+then-len-self-ne1 w ↦
          many-no-store i array e (λ one. w.if-len-self-ne1.true (omega (arith, one, w.len.ensures)))
    ]

pub returns-then-operand-array-clause-exactly : goal.returns-then-operand-array-clause-exactly
returns-then-operand-array-clause-exactly g c =
    let i = g.P.Party.me in
    let array = c.args.array in
    let e = c.args.self.now in
    let gate = c.index-gate.result.now in
    let some : e.begun < length e.gates.items = omega (arith, c.if-len-self-ne1.false, c.len.ensures) in
    elim c.then-operand-array.branch [
      | then-operand-array-via-then-operand-array w ↦
          other-no-store i array e gate some (sym c.index-gate.ensures) c.in-Put.operand c.in-Put.index c.in-Put.element c.in-Put.is w.if-operand-array.true
      | then-operand-array-via-else-operand-array+then-not-suits w ↦
          unfit-no-store i array e gate some (sym c.index-gate.ensures) w.suits.result w.suits.ensures w.if-not-suits.true
    ]

pub returns-in_default-clause-exactly : goal.returns-in_default-clause-exactly
returns-in_default-clause-exactly g c =
    let e = c.args.self.now in
    let some : e.begun < length e.gates.items = omega (arith, c.if-len-self-ne1.false, c.len.ensures) in
    else-no-store g.P.Party.me c.args.array e c.index-gate.result.now some (sym c.index-gate.ensures) c.in_default.not-Put

pub returns-else-not-suits-clause-exactly : goal.returns-else-not-suits-clause-exactly
returns-else-not-suits-clause-exactly g c =
    let e = c.args.self.now in
    let gate = c.index-gate.result.now in
    let is : gate ≡ Put c.args.array c.in-Put.index c.in-Put.element = c.in-Put.is ∙ ap (λ a. Put a c.in-Put.index c.in-Put.element) c.if-operand-array.false in
    let some : e.begun < length e.gates.items = omega (arith, c.if-len-self-ne1.false, c.len.ensures) in
    let last : e.begun + 1 ≡ length e.gates.items = omega (arith, c.if-len-self-ne1.false, c.len.ensures) in
    is-store g.P.Party.me c.args.array e gate some (sym c.index-gate.ensures) c.in-Put.index c.in-Put.element c.suits.result
    (c.is_idle.ensures.idle c.if-not-is_idle.false) (c.is_all.ensures.all c.if-not-is_all.false) last is c.suits.ensures c.if-not-suits.false

pub returns-else-not-suits-clause-stores : goal.returns-else-not-suits-clause-stores
returns-else-not-suits-clause-stores g c =
    let e = c.args.self.now in
    let gate = c.index-gate.result.now in
    let is : gate ≡ Put c.args.array c.in-Put.index c.in-Put.element = c.in-Put.is ∙ ap (λ a. Put a c.in-Put.index c.in-Put.element) c.if-operand-array.false in
    let last : e.begun + 1 ≡ length e.gates.items = omega (arith, c.if-len-self-ne1.false, c.len.ensures) in
    let word : slice_index_or c.value.result.now 0 0 ≡ first_word (value e.values c.in-Put.element) = ap first_word c.value.ensures in
    stores-last g.P.Party.me e c.args.array c.in-Put.index c.in-Put.element (slice_index_or c.value.result.now 0 0) c.suits.result
    (c.is_idle.ensures.idle c.if-not-is_idle.false) (c.is_all.ensures.all c.if-not-is_all.false) last
    (subst (λ x. get_or e.gates.items e.begun x ≡ x) is (sym c.index-gate.ensures))
    (subst (λ x. IsTrue c.suits.result ↔ SizesSuit (sizes_of e.dealt) (sizes_of e.values) x) is c.suits.ensures) c.if-not-suits.false word
