use Rattle.std.proofs.Common.{◌<◌, List, ◌++◌, length, sym, ◌∙◌, ap, arith}
use Rattle.proto_core.specs.declared.party.Number.TheVariants.{One, Two}
use Rattle.gates.specs.Clear.{ring_of}
use Rattle.client_model.specs.Given.{Given}
use Rattle.client_simulator.proofs.MakingSteps.{taken, as-many, made-inside}
use Rattle.client_simulator.proofs.making.push_handed.Goals as goal
use Rattle.client_simulator.proofs.making.push_handed.Goals.{in-Arithmetic+in_ok-given-in-Arithmetic, in-Boolean+in_ok-given-in-Boolean}

pub slice_bounds-first-end : goal.slice_bounds-first-end
slice_bounds-first-end c =
    taken _ c.args.run.now c.run.view_is c.args.handed.ring c.args.handed.operand c.requires c.value-n.result.now c.value-n.ensures One

pub slice_bounds-second-end : goal.slice_bounds-second-end
slice_bounds-second-end c =
    taken _ c.args.run.now c.run.view_is c.args.handed.ring c.args.handed.operand c.requires c.value-n.result.now c.value-n.ensures Two

pub made_of-requires : goal.made_of-requires
made_of-requires c =
    as-many _ c.args.run.now c.run.view_is c.args.handed.ring c.args.handed.operand c.requires c.value-n.result.now c.value-n.ensures

pub made_of-requires-in-Boolean : goal.made_of-requires-in-Boolean
made_of-requires-in-Boolean c =
    as-many _ c.args.run.now c.run.view_is c.args.handed.ring c.args.handed.operand c.requires c.value-n.result.now c.value-n.ensures

pub returns-clause-made : goal.returns-clause-made
returns-clause-made c =
    let lt : c.args.number < length c.args.words.now = omega (arith, c.if-number-len.false, c.len.ensures) in
    c.in_ok-push.ensures.items
    ∙ ap (λ (gs : List Given). c.args.made.now.items ++ gs)
    (elim c.match-handed.branch [
      | in-Arithmetic+in_ok-given-in-Arithmetic w ↦
          made-inside _ c.args.run.now c.run.view_is c.args.handed.ring c.args.handed.operand c.requires c.value-n.result.now c.value-n.ensures _
          c.args.words.now c.args.number c.value-own.result.now c.match-handed.given (sym (ap ring_of w.in-Arithmetic.is)) lt c.value-own.ensures
          (w.given-is ∙ w.in_ok-given-in-Arithmetic.ensures)
      | in-Boolean+in_ok-given-in-Boolean w ↦
          made-inside _ c.args.run.now c.run.view_is c.args.handed.ring c.args.handed.operand c.requires c.value-n.result.now c.value-n.ensures _
          c.args.words.now c.args.number c.value-own.result.now c.match-handed.given (sym (ap ring_of w.in-Boolean.is)) lt c.value-own.ensures
          (w.given-is ∙ w.in_ok-given-in-Boolean.ensures)
    ])
