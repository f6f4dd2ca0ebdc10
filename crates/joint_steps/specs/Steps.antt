-- A joint run that is taken on gate by gate, each on words of its own.
use Rattle.std.specs.Prelude.{◌≡◌, ℕ, List, [], ◌∷◌, ◌++◌, length}
use Rattle.proto_core.specs.declared.party.Number.{Number}
use Rattle.protocol_model.specs.Runs.{Tapes}
use Rattle.gates.specs.declared.gate.Gate.{Gate}
use Rattle.gates.specs.Clear.{Values}
use Rattle.shared_gates.specs.Model.{SizesSuit, sizes_made, run_gate}
use Rattle.joint_run.specs.Three.{values_of}
use Rattle.joint_run.specs.RunState.{RunState, begun, behind}
use Rattle.joint_run.specs.States.{state_of}
use Rattle.joint_run.specs.JointRuns.{IsEven, dealt_sizes}
use Rattle.joint_run.specs.GateByGate.{HaveSizes, own_sizes, draws_for}
use Rattle.value_file.specs.declared.inputs.Entry.{Entry}
use Rattle.view_model.specs.Dealing.{dealt_to}
use Rattle.joint_steps.specs.declared.joint.Joint.{Joint}

-- what the miners were dealt, and what they have and have said
abbrev pub dealt_in : Joint → Number → Values
dealt_in joint = values_of joint.dealt

abbrev pub run_in : Joint → RunState
run_in joint = state_of joint.run

-- the private inputs are dealt, and no gate has run
pub record Begins (entries : List Entry) (dealer : List ℕ) (joint : Joint) : Type 0 where
  pub dealt : (i : Number) → dealt_in joint i ≡ dealt_to entries dealer i
  pub run : run_in joint ≡ begun (λ i. [])

-- all miners have shares of the same sizes, the gate suits these, and the words are those that it draws
pub record CanStep (gate : Gate) (words : Tapes) (joint : Joint) : Type 0 where
  pub even : IsEven (dealt_in joint)
  pub own : HaveSizes (own_sizes (run_in joint)) (run_in joint)
  pub suits : SizesSuit (dealt_sizes (dealt_in joint)) (own_sizes (run_in joint)) gate
  pub drawn : (i : Number) → length (words i) ≡ draws_for (dealt_in joint) (run_in joint) gate i

-- with these words to draw
abbrev pub given_words : Tapes → RunState → RunState
given_words words s = record s { tapes = words }

-- the run has the gate more, no word is left, and all miners have shares of the sizes that it makes
pub record HasStepped (gate : Gate) (words : Tapes) (before after : Joint) : Type 0 where
  pub dealt : dealt_in after ≡ dealt_in before
  pub is :
      run_in after
      ≡ behind (run_gate (dealt_in before) (dealt_sizes (dealt_in before)) (own_sizes (run_in before)) gate ∷ []) (given_words words (run_in before))
  pub left : (i : Number) → (run_in after).tapes i ≡ []
  pub sizes :
      HaveSizes (own_sizes (run_in before) ++ sizes_made (dealt_sizes (dealt_in before)) (own_sizes (run_in before)) gate) (run_in after)
