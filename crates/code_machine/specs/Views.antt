-- What a machine in memory stands for.
use Rattle.std.specs.Prelude.{List, map, get_or, reverse}
use Rattle.std.specs.List.{slice_get}
use Rattle.language_model.specs.Effects.{World, Effect}
use Rattle.language_model.specs.Evaluation.{Frame, nothing}
use Rattle.language_model.specs.Values.{Value}
use Rattle.bytecode.specs.declared.instruction.Register.{Register}
use Rattle.bytecode.specs.Raw.{RawCode}
use Rattle.verified_code.specs.Settled.{settled}
use Rattle.verified_code.specs.InMemory.{place_of}
use Rattle.named_values.specs.Machine.{Caller, Machine, steps_of, step, values_at}
use Rattle.value_steps.specs.declared.value.Value as held
use Rattle.value_steps.specs.Views.{value_seen}
use Rattle.code_machine.specs.declared.machine.Caller as waiting
use Rattle.code_machine.specs.declared.machine.Machine as running

-- the values in a function's registers; beyond them nothing is kept
unfoldable pub registers_seen : List held.Value → Frame
registers_seen vs k = get_or (map value_seen vs) k nothing

-- the value that a machine has in a register, and those in several
abbrev pub kept : running.Machine → Register → Value
kept m r = registers_seen m.registers.items r.0

abbrev pub all_kept : running.Machine → List Register → List Value
all_kept m rs = values_at (registers_seen m.registers.items) (map (λ r. r.0) rs)

abbrev pub caller_seen : RawCode → waiting.Caller → Caller
caller_seen code c =
    record {
      steps = steps_of (slice_get (settled code) c.function);
      pc = c.place;
      registers = registers_seen c.registers.items;
      result = place_of c.result;
    }

-- who called last comes first
abbrev pub callers_seen : RawCode → List waiting.Caller → List Caller
callers_seen code cs = reverse (map (caller_seen code) cs)

-- a machine that runs this code
abbrev pub machine_seen : RawCode → running.Machine → Machine
machine_seen code m =
    record {
      steps = steps_of (slice_get (settled code) m.function);
      pc = m.place;
      registers = registers_seen m.registers.items;
      stack = callers_seen code m.callers.items;
    }

-- the step that comes next in this code does this
abbrev pub stepped : World → RawCode → Machine → Effect Machine
stepped w code m = step w (settled code) (slice_get m.steps m.pc) m
