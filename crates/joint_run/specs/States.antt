-- A joint run as what it is in definitions.
use Rattle.joint_run.specs.declared.run.JointRun.{JointRun}
use Rattle.joint_run.specs.Three.{each_of, carried, values_of}
use Rattle.joint_run.specs.RunState.{RunState}

abbrev pub state_of : JointRun → RunState
state_of run =
    record {
      shares = values_of run.shares;
      tapes = each_of run.tapes;
      messages = carried run.transcript.traffic;
      opened = run.transcript.opened.items;
    }
