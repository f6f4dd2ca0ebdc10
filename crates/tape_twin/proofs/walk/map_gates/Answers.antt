use Rattle.std.proofs.Common.{◌≡◌, ◌+◌, [], ◌∷◌, ◌++◌, drop, refl, ◌∙◌, ap, subst}
use Rattle.std.proofs.lemmas.List.{drop_all}
use Rattle.shared_gates.proofs.GatesBehind.{next-gate}
use Rattle.joint_run.specs.Parts.{ThreeLists}
use Rattle.joint_run.specs.Three.{each_of, values_of}
use Rattle.joint_run.specs.JointRuns.{CanRun}
use Rattle.tape_twin.specs.Stands.{stand_of}
use Rattle.tape_twin.proofs.Passing.{handed-on}
use Rattle.tape_twin.proofs.Walking.{Walked, begun, can-pass, passed, ended}
use Rattle.tape_twin.proofs.walk.map_gates.Goals as goal

pub loop-place-init : goal.loop-place-init
loop-place-init c =
    begun c.args.map (values_of c.args.dealt.now) c.args.gates.now (each_of c.args.tapes)
    (stand_of c.new-shares.result (record { rest = c.args.tapes; made = c.new.result }))
    c.new-shares.ensures refl c.new.ensures

pub returns-in_err-shares-clause-memory : goal.returns-in_err-shares-clause-memory
returns-in_err-shares-clause-memory c =
    let dealt = values_of c.args.dealt.now in
    let gates = c.args.gates.now in
    let tapes = each_of c.args.tapes in
    let gate = c.index-gates-place.result in
    let s = stand_of c.loop-place.shares c.loop-place.passing in
    let next : drop c.loop-place.place gates ≡ gate ∷ drop (c.loop-place.place + 1) gates =
    next-gate gates c.loop-place.place gate c.loop-place-test.true c.index-gates-place.is in
    handed-on (CanRun dealt gates tapes) c.from_residual.result c.in_err-shares.field-0.0 c.from_residual.ensures.1
    (λ can.
    c.in_err-shares.ensures.err
    (can-pass c.args.map dealt gates tapes gate (drop (c.loop-place.place + 1) gates) s
    (subst (λ l. Walked c.args.map dealt gates tapes l s) next c.loop-place.invariant) can))

pub loop-place-preserved : goal.loop-place-preserved
loop-place-preserved c =
    let dealt = values_of c.args.dealt.now in
    let gates = c.args.gates.now in
    let tapes = each_of c.args.tapes in
    let gate = c.index-gates-place.result in
    let s = stand_of c.loop-place.shares c.loop-place.passing in
    let next : drop c.loop-place.place gates ≡ gate ∷ drop (c.loop-place.place + 1) gates =
    next-gate gates c.loop-place.place gate c.loop-place-test.true c.index-gates-place.is in
    passed c.args.map dealt gates tapes gate (drop (c.loop-place.place + 1) gates) s
    (subst (λ l. Walked c.args.map dealt gates tapes l s) next c.loop-place.invariant)
    (stand_of c.in_ok-shares.shares c.pass_gate.new.passing) c.in_ok-shares.ensures.ok

pub returns-clause-words : goal.returns-clause-words
returns-clause-words c = λ k.
    let dealt = values_of c.args.dealt.now in
    let gates = c.args.gates.now in
    let tapes = each_of c.args.tapes in
    let s = stand_of c.loop-place.shares c.loop-place.passing in
    let all : drop c.loop-place.place gates ≡ [] = drop_all c.loop-place.place gates c.loop-place-test.false in
    c.in_ok-extend.ensures k
    ∙ ap (λ (t : ThreeLists). s.made k ++ each_of t k) c.rest.view_is
    ∙ ended c.args.map dealt gates tapes s (subst (λ l. Walked c.args.map dealt gates tapes l s) all c.loop-place.invariant) k
