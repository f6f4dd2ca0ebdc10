-- Machines that have the registers which their code names.
use Rattle.std.specs.Prelude.{◌≡◌, ℕ, ◌+◌, ◌^◌, ◌<◌, ◌≤◌, List, [], ◌∷◌, length, map, Option, Some, None, IfSome, option_map}
use Rattle.std.specs.List.{slice_get}
use Rattle.bytecode.specs.declared.kind.Kind.{Kind}
use Rattle.bytecode.specs.declared.instruction.Register.{Register}
use Rattle.bytecode.specs.Raw.{RawCode}
use Rattle.verified_code.specs.InMemory.{place_of, step_at, step_in}
use Rattle.verified_code.specs.declared.step.Step as declared
use Rattle.verified_code.specs.Settled.{settled}
use Rattle.verified_code.specs.Steps.{Step, Literal, Move, Store, Binary, Not, Cast, Classify, Fill, At, Put, Size, Cat, Sum, Bits, Lookup}
use Rattle.verified_code.specs.Steps.{Declassify, Argument, Publish, Assert, Branch, Jump, Call, Return, ReturnNone}
use Rattle.named_values.specs.Machine.{kinds_of}
use Rattle.code_machine.specs.declared.machine.Caller as waiting
use Rattle.code_machine.specs.declared.machine.Machine as running

abbrev pub kinds_at : RawCode → ℕ → List Kind
kinds_at code function = kinds_of (slice_get (settled code) function)

-- if a register is named, it is among so many
abbrev pub HasAny : ℕ → Option ℕ → Type 0
HasAny n None = Unit {0}
HasAny n (Some r) = r < n

abbrev pub AreBelow : ℕ → List ℕ → Type 0
AreBelow n [] = Unit {0}
AreBelow n (r ∷ rs) = (r < n) × AreBelow n rs

-- the registers that a step names are among so many
abbrev pub AreThere : ℕ → Step → Type 0
AreThere n (Literal d e x) = d < n
AreThere n (Move d r) = (d < n) × (r < n)
AreThere n (Store d r) = (d < n) × (r < n)
AreThere n (Binary line op ds d a b) = (d < n) × (a < n) × (b < n)
AreThere n (Not d r) = (d < n) × (r < n)
AreThere n (Cast c d r) = (d < n) × (r < n)
AreThere n (Classify d r) = (d < n) × (r < n)
AreThere n (Fill line d k x) = (d < n) × (k < n) × (x < n)
AreThere n (At line d a i) = (d < n) × (a < n) × (i < n)
AreThere n (Put line a i x) = (a < n) × (i < n) × (x < n)
AreThere n (Size d r) = (d < n) × (r < n)
AreThere n (Cat line d a b) = (d < n) × (a < n) × (b < n)
AreThere n (Sum d r) = (d < n) × (r < n)
AreThere n (Bits line d r) = (d < n) × (r < n)
AreThere n (Lookup line d a i) = (d < n) × (a < n) × (i < n)
AreThere n (Declassify d r) = (d < n) × (r < n)
AreThere n (Argument line k text d) = d < n
AreThere n (Publish text r) = r < n
AreThere n (Assert line r) = r < n
AreThere n (Branch r b target) = r < n
AreThere n (Jump target) = Unit {0}
AreThere n (Call line g d args) = HasAny n d × AreBelow n args
AreThere n (Return r) = r < n
AreThere n ReturnNone = Unit {0}

-- the registers that an instruction in memory names, and a machine has
abbrev pub IsThere : running.Machine → Register → Type 0
IsThere m r = r.0 < length m.registers.items

abbrev pub IsThereIfAny : running.Machine → Option Register → Type 0
IsThereIfAny m r = HasAny (length m.registers.items) (place_of r)

abbrev pub AreAllThere : running.Machine → List Register → Type 0
AreAllThere m rs = AreBelow (length m.registers.items) (map (λ r. r.0) rs)

-- a caller has a register for each kind of its function, and one for the result that it waits for
pub record CanGoOn (code : RawCode) (c : waiting.Caller) : Type 0 where
  pub registers : length (kinds_at code c.function) ≤ length c.registers.items
  pub result : HasAny (length c.registers.items) (place_of c.result)

abbrev pub CanAllGoOn : RawCode → List waiting.Caller → Type 0
CanAllGoOn code [] = Unit {0}
CanAllGoOn code (c ∷ cs) = CanGoOn code c × CanAllGoOn code cs

-- a machine has a register for each kind of its function, and its callers can go on
pub record Stands (code : RawCode) (m : running.Machine) : Type 0 where
  pub registers : length (kinds_at code m.function) ≤ length m.registers.items
  pub callers : CanAllGoOn code m.callers.items

-- in some code
abbrev pub StandsSomewhere : running.Machine → Type 0
StandsSomewhere m = (code : RawCode) × Stands code m

-- what was read of the code is the step that comes next, if it is there: the registers that it names are there, and one more place can be counted
pub record IsComing (code : RawCode) (m : running.Machine) (coming : Option declared.Step) : Type 0 where
  pub step : option_map step_in coming ≡ step_at code m.function m.place
  pub there : IfSome coming (λ s. AreThere (length m.registers.items) (step_in s))
  pub room : IfSome coming (λ s. m.place + 1 < 2 ^ 64)
