use Rattle.std.proofs.Common.{true, refl, arith}
use Rattle.counted_net.proofs.Settling.{none_left, step_behind, step_goes, step_places, step_settles}
use Rattle.counted_net.proofs.cursor.Cursor.go_on.Goals as goal

pub step-requires-clause-few : goal.step-requires-clause-few
step-requires-clause-few c = c.loop-self.invariant.placed.few

pub returns-then-not-step : goal.returns-then-not-step
returns-then-not-step c =
    λ got h.
    step_settles c.args.script.now c.loop-self.self c.step.new.self _ (omega arith) got (c.loop-self.invariant.keeps got h) _ refl
    (rw c.if-not-step.true at c.step.ensures)

pub loop-self-smaller : goal.loop-self-smaller
loop-self-smaller c =
    let goes = step_goes c.loop-self.self c.step.new.self _ (rw c.if-not-step.false at c.step.ensures) in
    omega arith

pub loop-self-preserved : goal.loop-self-preserved
loop-self-preserved c =
    let inv = c.loop-self.invariant in
    let steps = rw c.if-not-step.false at c.step.ensures in
    record {
      placed = step_places c.args.script.now c.loop-self.self c.step.new.self (omega arith) _ true inv.placed steps;
      keeps = λ got h. step_behind c.args.script.now c.loop-self.self c.step.new.self _ (omega arith) got (inv.keeps got h) _ refl steps;
    }

pub returns : goal.returns
returns c = λ got h. none_left c.args.script.now c.loop-self.self got c.loop-self-test.false (c.loop-self.invariant.keeps got h)
