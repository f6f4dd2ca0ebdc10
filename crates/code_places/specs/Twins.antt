-- Where one who is told the opened words stands, beside the run in the clear: only the words of private values and the elements that
-- are published may differ.
use Rattle.std.specs.Prelude.{◌≡◌, ℕ, List, [], length, Some, None}
use Rattle.std.specs.List.{AllZip}
use Rattle.language_model.specs.Effects.{Stage}
use Rattle.language_model.specs.Values.{Secrecy, Plain, Private, Value}
use Rattle.language_model.specs.Evaluation.{Frame}
use Rattle.blind_evaluation.specs.Courses.{LikeEvents}
use Rattle.gate_laws.specs.Machine.{Caller, Machine}
use Rattle.code_places.specs.Places.{Place}

-- a gate's value has as many words, any other the same ones
abbrev pub LikeWords : Secrecy → (words others : List ℕ) → Type 0
LikeWords Plain words others = words ≡ others
LikeWords (Private None) words others = words ≡ others
LikeWords (Private (Some k)) words others = length words ≡ length others

pub record LikeValue (v v' : Value) : Type 0 where
  pub secrecy : v.secrecy ≡ v'.secrecy
  pub shape : v.shape ≡ v'.shape
  pub words : LikeWords v.secrecy v.words v'.words

abbrev pub LikeRegisters : Frame → Frame → Type 0
LikeRegisters registers registers' = (r : ℕ) → LikeValue (registers r) (registers' r)

pub record LikeCaller (c c' : Caller) : Type 0 where
  pub steps : c.steps ≡ c'.steps
  pub pc : c.pc ≡ c'.pc
  pub registers : LikeRegisters c.registers c'.registers
  pub result : c.result ≡ c'.result

pub record LikeMachine (m m' : Machine) : Type 0 where
  pub steps : m.steps ≡ m'.steps
  pub pc : m.pc ≡ m'.pc
  pub registers : LikeRegisters m.registers m'.registers
  pub stack : AllZip LikeCaller m.stack m'.stack

-- no answer is left, and all but the events is the same
pub record LikeStage (s s' : Stage) : Type 0 where
  pub answers : s.answers ≡ []
  pub same : s' ≡ record s { events = s'.events }
  pub events : LikeEvents s.events s'.events

-- the run in the clear goes on from the first place, that of one who is told from the second
pub record GoAlike (p p' : Place) : Type 0 where
  pub machine : LikeMachine p.machine p'.machine
  pub stage : LikeStage p.stage p'.stage
  pub goes_on : p.ended ≡ None
  pub goes_on_too : p'.ended ≡ None

-- and where they are over, they are for the same reason
pub record EndAlike (p p' : Place) : Type 0 where
  pub machine : LikeMachine p.machine p'.machine
  pub stage : LikeStage p.stage p'.stage
  pub ended : p.ended ≡ p'.ended
