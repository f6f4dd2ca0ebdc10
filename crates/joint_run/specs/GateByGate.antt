-- One gate of a joint run, after those that went well.
use Rattle.std.specs.Prelude.{◌≡◌, ℕ, ◌<◌, ◌≤◌, List, [], ◌∷◌, ◌++◌, ◌⊎◌, length}
use Rattle.proto_core.specs.declared.party.Number.{Number}
use Rattle.proto_core.specs.declared.party.Number.TheVariants.{One, Two, Three}
use Rattle.protocol_model.specs.Gates.{sizes_of, needed}
use Rattle.protocol_model.specs.Runs.{Tapes}
use Rattle.gates.specs.declared.gate.Gate.{Gate}
use Rattle.gates.specs.Clear.{Values}
use Rattle.shared_gates.specs.Model.{SizesSuit, sizes_made, run_gate}
use Rattle.joint_run.specs.declared.joint_err.JointErr.{JointErr}
use Rattle.joint_run.specs.declared.joint_err.JointErr.TheVariants.{Memory, Unsuited, TapeEnds}
use Rattle.joint_run.specs.RunState.{RunState, behind}
use Rattle.joint_run.specs.JointRuns.{dealt_sizes, sizes_behind, EarlierReach, IsRun}

-- all three miners' shares have these sizes
abbrev pub HaveSizes : List ℕ → RunState → Type 0
HaveSizes sizes s = (i : Number) → sizes_of (s.shares i) ≡ sizes

abbrev pub own_sizes : RunState → List ℕ
own_sizes s = sizes_of (s.shares One)

-- the gates so far are run, and all miners have shares of the sizes that they make
pub record Through (dealt : Number → Values) (gates : List Gate) (tapes : Tapes) (s : RunState) : Type 0 where
  pub run : IsRun dealt gates tapes s
  pub sizes : HaveSizes (sizes_behind dealt gates) s

-- how many words a miner draws for the gate
abbrev pub draws_for : (Number → Values) → RunState → Gate → Number → ℕ
draws_for dealt s gate i = needed (run_gate dealt (dealt_sizes dealt) (own_sizes s) gate ∷ []) i

abbrev pub left_of : RunState → Number → ℕ
left_of s i = length (s.tapes i)

pub record RunsGate (dealt : Number → Values) (gate : Gate) (before after : RunState) : Type 0 where
  pub suits : SizesSuit (dealt_sizes dealt) (own_sizes before) gate
  pub reach : (i : Number) → draws_for dealt before gate i ≤ left_of before i
  pub is : after ≡ behind (run_gate dealt (dealt_sizes dealt) (own_sizes before) gate ∷ []) before
  pub sizes : HaveSizes (own_sizes before ++ sizes_made (dealt_sizes dealt) (own_sizes before) gate) after

-- each miner has as many words as it needs
pub record AllReach (need have : Number → ℕ) : Type 0 where
  pub first : need One ≤ have One
  pub second : need Two ≤ have Two
  pub third : need Three ≤ have Three

-- this miner has not
pub record IsShort (need have place : ℕ) (miner : Number) (err : JointErr) : Type 0 where
  pub short : have < need
  pub is : err ≡ TapeEnds place miner need have

-- the first of the miners that have not
pub record Lacks (need have : Number → ℕ) (place : ℕ) (err : JointErr) : Type 0 where
  pub miner : Number
  pub short : have miner < need miner
  pub earlier : EarlierReach need have miner
  pub is : err ≡ TapeEnds place miner (need miner) (have miner)

pub record DoesNotSuit (dealt : Number → Values) (gate : Gate) (before : RunState) (place : ℕ) (err : JointErr) : Type 0 where
  pub fails : SizesSuit (dealt_sizes dealt) (own_sizes before) gate → ⊥
  pub is : err ≡ Unsuited place

pub record Ends (dealt : Number → Values) (gate : Gate) (before : RunState) (place : ℕ) (err : JointErr) : Type 0 where
  pub suits : SizesSuit (dealt_sizes dealt) (own_sizes before) gate
  pub lacks : Lacks (draws_for dealt before gate) (left_of before) place err

abbrev pub RefusesGate : (Number → Values) → Gate → RunState → ℕ → JointErr → Type 0
RefusesGate dealt gate before place err = (err ≡ Memory) ⊎ (DoesNotSuit dealt gate before place err ⊎ Ends dealt gate before place err)
