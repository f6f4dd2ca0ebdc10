use Rattle.std.proofs.Common.{◌≡◌, []}
use Rattle.proto_core.specs.declared.party.Number.{Number}
use Rattle.proto_core.specs.declared.party.Number.TheVariants.{One, Two, Three}
use Rattle.joint_run.specs.Three.{values_of}
use Rattle.joint_run.specs.States.{state_of}
use Rattle.joint_run.specs.RunState.{RunState, begun}
use Rattle.joint_run.proofs.InSteps.{same_state}
use Rattle.view_model.specs.Dealing.{dealt_to}
use Rattle.joint_steps.proofs.Steps.{some-says}
use Rattle.joint_steps.proofs.joint.Joint.start.Goals as goal

pub returns : goal.returns
returns c =
    record {
      dealt =
          some-says (λ shares. (i : Number) → values_of shares i ≡ dealt_to c.args.inputs.now c.args.dealer.now i) c.in_ok-dealt.field-0 c.in-Some.dealt
          c.in-Some.is c.in_ok-dealt.ensures.shares;
      run = same_state s (begun (λ i. [])) c.new.ensures.shares none c.new.ensures.messages c.new.ensures.opened;
    }
  where
    s : RunState
    s = state_of c.new.result

    none : (i : Number) → s.tapes i ≡ []
    none One = c.new.ensures.tapes One
    none Two = c.new.ensures.tapes Two
    none Three = c.new.ensures.tapes Three
