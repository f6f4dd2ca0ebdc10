use Rattle.std.proofs.Common.{◌≡◌, ◌++◌, length, ◌∙◌, ap}
use Rattle.joint_run.specs.Three.{each_of, values_of}
use Rattle.joint_run.specs.GateByGate.{RefusesGate}
use Rattle.joint_run.specs.declared.joint_err.JointErr.TheVariants.{Memory}
use Rattle.tape_twin.specs.Stands.{stand_of, begun_with, RunsWith, Passes, CanPass}
use Rattle.tape_twin.proofs.Passing.{
  if-ok,
  if-err,
  handed-on,
  refused-memory,
  local-passes,
  given-real,
  given-length,
  mapped-real,
  exchange-reach,
  exchange-can,
  exchange-passes,
}
use Rattle.tape_twin.proofs.gate.pass_gate.Goals as goal

pub returns-in-None-clause-ok : goal.returns-in-None-clause-ok
returns-in-None-clause-ok c =
    let dealt = values_of c.args.dealt.now in
    let gate = c.args.placed.gate.now in
    let s = stand_of c.args.shares c.args.passing.now in
    let words = each_of c.no_words.result in
    if-ok (λ after. RunsWith dealt gate (values_of c.args.shares) words (values_of after))
    (λ after. Passes c.args.map dealt gate s (stand_of after c.args.passing.now))
    (λ after runs. local-passes c.args.map dealt gate s c.in-None.ensures.none words (values_of after) runs)
    c.run_with.result c.run_with.ensures.ok

pub returns-in_err-given-in-Some-clause-err : goal.returns-in_err-given-in-Some-clause-err
returns-in_err-given-in-Some-clause-err c =
    let dealt = values_of c.args.dealt.now in
    let gate = c.args.placed.gate.now in
    let s = stand_of c.args.shares c.args.passing.now in
    handed-on (CanPass dealt gate s) c.from_residual.result c.in_err-given-in-Some.field-0.0 c.from_residual.ensures.1
    (λ can. c.in_err-given-in-Some.ensures.memory (exchange-can c.args.map dealt gate s c.in-Some.gate c.in-Some.ensures.some can))

pub returns-in-ToView-clause-ok : goal.returns-in-ToView-clause-ok
returns-in-ToView-clause-ok c =
    let dealt = values_of c.args.dealt.now in
    let gate = c.args.placed.gate.now in
    let s = stand_of c.args.shares c.args.passing.now in
    let x = c.in-Some.gate in
    let given = each_of c.in_ok-given-in-Some.given in
    if-ok (λ after. RunsWith dealt gate (values_of c.args.shares) given (values_of after))
    (λ after. Passes c.args.map dealt gate s (stand_of after c.map_exchange.new.passing))
    (λ after runs.
    exchange-passes c.args.map dealt gate s x c.in-Some.ensures.some given (stand_of after c.map_exchange.new.passing) runs
    (given-real c.args.map dealt gate s x c.in-Some.ensures.some c.in-ToView.is given c.in_ok-given-in-Some.ensures.given)
    (given-length c.args.map dealt gate s x c.in-Some.ensures.some given c.in_ok-given-in-Some.ensures.reach
    c.in_ok-given-in-Some.ensures.given)
    (λ k. c.in_ok-given-in-Some.ensures.made k ∙ ap (λ w. s.made k ++ w) (c.in_ok-given-in-Some.ensures.mapped k))
    c.in_ok-given-in-Some.ensures.left)
    c.run_with-in-ToView.result c.run_with-in-ToView.ensures.ok

pub returns-in-ToView-clause-err : goal.returns-in-ToView-clause-err
returns-in-ToView-clause-err c =
    let dealt = values_of c.args.dealt.now in
    let gate = c.args.placed.gate.now in
    let s = stand_of c.args.shares c.args.passing.now in
    let x = c.in-Some.gate in
    let given = each_of c.in_ok-given-in-Some.given in
    if-err (RefusesGate dealt gate (begun_with (values_of c.args.shares) given) c.args.placed.place) (λ err. CanPass dealt gate s → err ≡ Memory)
    (λ err refuses can.
    refused-memory dealt gate (begun_with (values_of c.args.shares) given) c.args.placed.place err refuses can.suits
    (exchange-reach c.args.map dealt gate s x c.in-Some.ensures.some given
    (given-length c.args.map dealt gate s x c.in-Some.ensures.some given c.in_ok-given-in-Some.ensures.reach
    c.in_ok-given-in-Some.ensures.given)))
    c.run_with-in-ToView.result c.run_with-in-ToView.ensures.err

pub returns-clause-ok : goal.returns-clause-ok
returns-clause-ok c =
    let dealt = values_of c.args.dealt.now in
    let gate = c.args.placed.gate.now in
    let s = stand_of c.args.shares c.args.passing.now in
    let x = c.in-Some.gate in
    let words = each_of c.as_tapes.result in
    if-ok (λ after. RunsWith dealt gate (values_of c.args.shares) words (values_of after))
    (λ after. Passes c.args.map dealt gate s (stand_of after c.map_exchange.new.passing))
    (λ after runs.
    exchange-passes c.args.map dealt gate s x c.in-Some.ensures.some words (stand_of after c.map_exchange.new.passing) runs
    (mapped-real c.args.map dealt gate s x c.in-Some.ensures.some c.in-FromView.is words
    (λ k. c.as_tapes.ensures k ∙ c.in_ok-given-in-Some.ensures.mapped k))
    (λ k. ap length (c.as_tapes.ensures k) ∙ c.in_ok-given-in-Some.ensures.len k)
    (λ k. c.in_ok-given-in-Some.ensures.made k ∙ ap (λ w. s.made k ++ w) (c.in_ok-given-in-Some.ensures.mapped k))
    c.in_ok-given-in-Some.ensures.left)
    c.run_with-in-FromView.result c.run_with-in-FromView.ensures.ok

pub returns-clause-err : goal.returns-clause-err
returns-clause-err c =
    let dealt = values_of c.args.dealt.now in
    let gate = c.args.placed.gate.now in
    let s = stand_of c.args.shares c.args.passing.now in
    let x = c.in-Some.gate in
    let words = each_of c.as_tapes.result in
    if-err (RefusesGate dealt gate (begun_with (values_of c.args.shares) words) c.args.placed.place) (λ err. CanPass dealt gate s → err ≡ Memory)
    (λ err refuses can.
    refused-memory dealt gate (begun_with (values_of c.args.shares) words) c.args.placed.place err refuses can.suits
    (exchange-reach c.args.map dealt gate s x c.in-Some.ensures.some words
    (λ k. ap length (c.as_tapes.ensures k) ∙ c.in_ok-given-in-Some.ensures.len k)))
    c.run_with-in-FromView.result c.run_with-in-FromView.ensures.err
