use Rattle.std.proofs.Common.{◌≡◌, ◌≤◌, ℕ, length, refl, ◌∙◌, ap, arith}
use Rattle.std.proofs.lemmas.List.{drop_all}
use Rattle.proto_core.specs.declared.party.Number.{Number}
use Rattle.proto_core.specs.Parties.{of_three}
use Rattle.protocol_model.specs.Runs.{Tapes}
use Rattle.joint_run.specs.Three.{values_of}
use Rattle.joint_run.specs.States.{state_of}
use Rattle.joint_run.specs.RunState.{RunState}
use Rattle.joint_run.specs.GateByGate.{draws_for}
use Rattle.joint_steps.proofs.joint.Joint.step.Goals as goal

pub returns-in-Ok : goal.returns-in-Ok
returns-in-Ok c =
    let words : Tapes = of_three c.args.first.now c.args.second.now c.args.third.now in
    let n : Number → ℕ = λ i. draws_for (values_of c.args.self.now.dealt) (state_of c.args.self.now.run) c.args.gate.now i in
    record {
      dealt = refl;
      is = c.in-Ok.ensures.ok.is;
      left = λ (i : Number).
          let drawn : length (words i) ≡ n i = c.requires.drawn i in
          let all : length (words i) ≤ n i = omega (arith, drawn) in
          ap (λ (s : RunState). s.tapes i) c.in-Ok.ensures.ok.is ∙ drop_all (n i) (words i) all;
      sizes = c.in-Ok.ensures.ok.sizes;
    }
