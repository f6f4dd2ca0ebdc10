-- What a step changes of a machine.
use Rattle.std.specs.Prelude.{◌≡◌, ℕ, ◌<◌, ◌≤◌, List, [], ◌∷◌, length, Option, Some, None, Result, Ok, Err}
use Rattle.std.specs.List.{slice_get}
use Rattle.language_model.specs.Values.{Value, size}
use Rattle.language_model.specs.Effects.{Effect}
use Rattle.language_model.specs.Evaluation.{Frame, nothing}
use Rattle.bytecode.specs.declared.instruction.Register.{Register}
use Rattle.bytecode.specs.Raw.{RawCode}
use Rattle.verified_code.specs.Settled.{settled}
use Rattle.verified_code.specs.InMemory.{place_of}
use Rattle.named_values.specs.Machine.{Caller, Machine, steps_of, at, next, caller_of, received, resume}
use Rattle.value_steps.specs.declared.halt.Halt.{Halt}
use Rattle.value_steps.specs.declared.value.Value as held
use Rattle.value_steps.specs.Views.{value_seen, written}
use Rattle.code_machine.specs.declared.machine.Machine as running
use Rattle.code_machine.specs.declared.change.Change.{Change}
use Rattle.code_machine.specs.declared.change.Change.TheVariants as change
use Rattle.code_machine.specs.Views.{machine_seen, registers_seen}
use Rattle.code_machine.specs.Standing.{HasAny, kinds_at}

-- the value of a register, or another where none is named
abbrev pub returned : Option ℕ → Value → Frame → Value
returned None v fr = v
returned (Some r) v fr = fr r

-- a caller goes on with a value, where these called it
abbrev pub resumed : Caller → Value → List Caller → Machine
resumed c v cs = record { steps = c.steps; pc = c.pc; registers = received c.result v c.registers; stack = cs }

-- the last caller goes on with a value
abbrev pub back_to : List Caller → Value → Machine → Machine
back_to [] v m = m
back_to (c ∷ cs) v m = resumed c v cs

abbrev pub changed : RawCode → Machine → Change → Machine
changed code m (change.Value d v) = next d.0 (value_seen v) m
changed code m (change.Element a e) = next a.0 (written (m.registers a.0) e) m
changed code m (change.Place place) = at place m
changed code m (change.Enter g d vs) =
    record { steps = steps_of (slice_get (settled code) g.0); pc = 0; registers = registers_seen vs.items; stack = caller_of (place_of d) m ∷ m.stack }
changed code m (change.Leave r v) = back_to m.stack (returned (place_of r) (value_seen v) m.registers) m

-- the registers that a change names are there, and so is the element, or the caller
abbrev pub IsSafe : running.Machine → Change → Type 0
IsSafe m (change.Value d v) = d.0 < length m.registers.items
IsSafe m (change.Element a e) = (a.0 < length m.registers.items) × (e.index < size (registers_seen m.registers.items a.0))
IsSafe m (change.Place place) = Unit {0}
IsSafe m (change.Enter g d vs) = HasAny (length m.registers.items) (place_of d)
IsSafe m (change.Leave r v) = HasAny (length m.registers.items) (place_of r) × (0 < length m.callers.items)

-- a function that begins has a register for each of its kinds
abbrev pub HasEnough : RawCode → Change → Type 0
HasEnough code (change.Value d v) = Unit {0}
HasEnough code (change.Element a e) = Unit {0}
HasEnough code (change.Place place) = Unit {0}
HasEnough code (change.Enter g d vs) = length (kinds_at code g.0) ≤ length vs.items
HasEnough code (change.Leave r v) = Unit {0}

-- a change puts a value into a register, whatever the code is, and leads to the next step
pub record Puts (m : running.Machine) (d : Register) (v : Value) (change : Change) : Type 0 where
  pub is : (code : RawCode) → changed code (machine_seen code m) change ≡ next d.0 v (machine_seen code m)
  pub safe : IsSafe m change
  pub enough : (code : RawCode) → HasEnough code change

-- a value that was made goes to a register
abbrev pub goes_to : Register → Result held.Value Halt → Result Change Halt
goes_to d (Ok v) = Ok (change.Value d v)
goes_to d (Err h) = Err h

-- a place comes where all went well
abbrev pub goes_on_at : ℕ → Result (Unit {0}) Halt → Result Change Halt
goes_on_at place (Ok u) = Ok (change.Place place)
goes_on_at place (Err h) = Err h

-- a function is left with the value of a register, or with one that nobody reads
abbrev pub left : Option ℕ → Machine → Effect Machine
left r m = resume m.stack (returned r nothing m.registers)
