-- Values by their numbers: which ones a machine of code can still name.
use Rattle.std.specs.Prelude.{◌≡◌, ◌⊎◌, ℕ, List, [], ◌∷◌, Some}
use Rattle.language_model.specs.Values.{Private}
use Rattle.language_model.specs.Evaluation.{Frame}
use Rattle.code_model.specs.Machine.{Caller, Machine}
pub use Rattle.gates.specs.Taken.{operands, Numbers, or_from, AreAmong, AllOf, Takes, AllTake}

-- the number of a value that is in a register, also in one of a caller: the registers, the callers, the machine name it
abbrev pub FrameNames : Frame → Numbers
FrameNames registers k = (r : ℕ) × ((registers r).secrecy ≡ Private (Some k))

abbrev pub CallersName : List Caller → Numbers
CallersName [] k = ⊥
CallersName (c ∷ cs) k = FrameNames c.registers k ⊎ CallersName cs k

abbrev pub MachineNames : Machine → Numbers
MachineNames m k = FrameNames m.registers k ⊎ CallersName m.stack k
