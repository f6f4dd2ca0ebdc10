-- When a list of gates can be run with these shares and tapes, what its joint run is, and why it can't be.
use Rattle.std.specs.Prelude.{◌≡◌, ℕ, ◌+◌, ◌<◌, ◌≤◌, List, [], ◌∷◌, ◌++◌, length}
use Rattle.proto_core.specs.declared.party.Number.{Number}
use Rattle.proto_core.specs.declared.party.Number.TheVariants.{One, Two, Three}
use Rattle.protocol_model.specs.Gates.{sizes_of, needed}
use Rattle.protocol_model.specs.Runs.{Tapes}
use Rattle.gates.specs.declared.gate.Gate.{Gate}
use Rattle.gates.specs.Clear.{Values}
use Rattle.shared_gates.specs.Model.{SizesSuit, AllSizesSuit, run_gate, run_gates, sizes_after}
use Rattle.joint_run.specs.declared.joint_err.JointErr.{JointErr}
use Rattle.joint_run.specs.declared.joint_err.JointErr.TheVariants.{Memory, Dealt, Unsuited, TapeEnds}
use Rattle.joint_run.specs.RunState.{RunState, begun, behind}

-- the sizes of what is dealt, which all three miners' shares have
abbrev pub dealt_sizes : (Number → Values) → List ℕ
dealt_sizes dealt = sizes_of (dealt One)

abbrev pub IsEven : (Number → Values) → Type 0
IsEven dealt = (i : Number) → sizes_of (dealt i) ≡ dealt_sizes dealt

-- how many words a miner draws for gates, or for the one that comes after them
abbrev pub words_for : (Number → Values) → List Gate → Number → ℕ
words_for dealt gates i = needed (run_gates dealt (dealt_sizes dealt) [] gates) i

abbrev pub sizes_behind : (Number → Values) → List Gate → List ℕ
sizes_behind dealt gates = sizes_after (dealt_sizes dealt) [] gates

abbrev pub words_for_next : (Number → Values) → List Gate → Gate → Number → ℕ
words_for_next dealt before gate i = needed (run_gate dealt (dealt_sizes dealt) (sizes_behind dealt before) gate ∷ []) i

-- each gate suits the values before it, and the tapes have as many words as are drawn
pub record CanRun (dealt : Number → Values) (gates : List Gate) (tapes : Tapes) : Type 0 where
  pub even : IsEven dealt
  pub suit : AllSizesSuit (dealt_sizes dealt) [] gates
  pub reach : (i : Number) → words_for dealt gates i ≤ length (tapes i)

-- the joint run
pub record IsRun (dealt : Number → Values) (gates : List Gate) (tapes : Tapes) (run : RunState) : Type 0 where
  pub can : CanRun dealt gates tapes
  pub is : run ≡ behind (run_gates dealt (dealt_sizes dealt) [] gates) (begun tapes)

-- a place in a list of gates before which all goes well
pub record IsAt (dealt : Number → Values) (gates : List Gate) (tapes : Tapes) (place : ℕ) (before : List Gate) (gate : Gate) (later : List Gate) : Type 0 where
  pub are : gates ≡ before ++ gate ∷ later
  pub count : length before ≡ place
  pub can : CanRun dealt before tapes

-- the gate of this place names a value that isn't there, or one of a size that it does not take
pub record IsUnsuited (dealt : Number → Values) (gates : List Gate) (tapes : Tapes) (place : ℕ) : Type 0 where
  pub before : List Gate
  pub gate : Gate
  pub later : List Gate
  pub at : IsAt dealt gates tapes place before gate later
  pub fails : SizesSuit (dealt_sizes dealt) (sizes_behind dealt before) gate → ⊥

-- the tape of this miner ends within the gate of this place, and those of the miners before it don't
abbrev pub EarlierReach : (Number → ℕ) → (Number → ℕ) → Number → Type 0
EarlierReach need have One = Unit {0}
EarlierReach need have Two = need One ≤ have One
EarlierReach need have Three = (need One ≤ have One) × (need Two ≤ have Two)

pub record EndsTape (dealt : Number → Values) (gates : List Gate) (tapes : Tapes) (place : ℕ) (miner : Number) (need have : ℕ) : Type 0 where
  pub before : List Gate
  pub gate : Gate
  pub later : List Gate
  pub at : IsAt dealt gates tapes place before gate later
  pub suits : SizesSuit (dealt_sizes dealt) (sizes_behind dealt before) gate
  pub needs : need ≡ words_for_next dealt before gate miner
  pub has : have + words_for dealt before miner ≡ length (tapes miner)
  pub short : have < need
  pub earlier : EarlierReach (λ k. words_for dealt before k + words_for_next dealt before gate k) (λ k. length (tapes k)) miner

abbrev pub Refuses : (Number → Values) → List Gate → Tapes → JointErr → Type 0
Refuses dealt gates tapes Memory = Unit {0}
Refuses dealt gates tapes Dealt = IsEven dealt → ⊥
Refuses dealt gates tapes (Unsuited place) = IsUnsuited dealt gates tapes place
Refuses dealt gates tapes (TapeEnds place miner need have) = EndsTape dealt gates tapes place miner need have
