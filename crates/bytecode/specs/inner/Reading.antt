-- Cited by private functions alone: no contract of another crate rests on it.
-- What a function that reads has answered: what its layout reads there, or the layout's fault, or that memory ran short.
use Rattle.std.specs.Prelude.{◌≡◌, ℕ, List, length, Bool, true, false, Result, Ok, Err}
use Rattle.bytecode.specs.declared.fault.FaultKind.{FaultKind}
use Rattle.bytecode.specs.declared.fault.Stopped.{Stopped}
use Rattle.bytecode.specs.declared.fault.Stopped.TheVariants.{Refused, Memory}
use Rattle.bytecode.specs.Layouts.{Layout, Makes, Read}

-- the fault, with so many bytes from its place on
abbrev pub Refuses : {A : Type 0} → Read A → FaultKind → ℕ → Type 0
Refuses (Ok x) kind left = ⊥
Refuses (Err e) kind left = (e.0 ≡ kind) × (length e.1 ≡ left)

abbrev pub Stops : {A : Type 0} → Read A → Stopped → Type 0
Stops r Memory = Unit {0}
Stops r (Refused kind left) = Refuses r kind left

abbrev pub Reads : {A T : Type 0} → (T → A) → Read A → Result T Stopped → List ℕ → Type 0
Reads view r (Ok t) left = r ≡ Ok (view t, left)
Reads view r (Err e) left = Stops r e

abbrev pub optional : Bool → Layout ℕ → Layout ℕ
optional true layout = layout
optional false layout = Makes 0
