use Rattle.std.proofs.Common.{◌≡◌, ℕ, ◌+◌, ◌<◌, ◌≤◌, ◌^◌, Option, Some, None, length, option_map, slice_get, arith, sym, ap, ◌∙◌}
use Rattle.std.specs.Option.{IfSome}
use Rattle.std.proofs.lemmas.Option.{slice_get_past}
use Rattle.bytecode.specs.Raw.{RawCode}
use Rattle.verified_code.specs.declared.step.Step as declared
use Rattle.verified_code.specs.InMemory.{step_at, step_in, steps_of}
use Rattle.verified_code.specs.Settled.{settled}
use Rattle.verified_code.specs.Verified.{IsVerified}
use Rattle.code_machine.specs.Standing.{AreThere, kinds_at}
use Rattle.code_machine.proofs.There.{step-there}
use Rattle.code_machine.proofs.stepping.coming_step.Goals as goal

named : (code : RawCode) → IsVerified code → (function place n : ℕ) → length (kinds_at code function) ≤ n → (o : Option declared.Step)
    → option_map step_in o ≡ step_at code function place → IfSome o (λ i. AreThere n (step_in i))
named code v function place n l None e = tt
named code v function place n l (Some i) e = step-there code v function place n l (step_in i) (sym e)

counted : (place : ℕ) → place + 1 < 2 ^ 64 → (o : Option declared.Step) → IfSome o (λ i. place + 1 < 2 ^ 64)
counted place l None = tt
counted place l (Some i) = l

pub returns-then-machine-count_of : goal.returns-then-machine-count_of
returns-then-machine-count_of c =
    let m = c.args.machine.now in
    record {
      step = c.step.ensures;
      there = named c.args.code.now c.code.ensures.verified m.function m.place (length m.registers.items) c.requires.registers c.step.result c.step.ensures;
      room = counted m.place (omega arith) c.step.result;
    }

pub returns-else-machine-count_of : goal.returns-else-machine-count_of
returns-else-machine-count_of c =
    let m = c.args.machine.now in
    let count = c.count_of.ensures ∙ ap (λ z. length (steps_of (slice_get (settled z) m.function))) c.code.ensures.code in
    record {
      step = sym (slice_get_past (steps_of (slice_get (settled c.args.code.now) m.function)) m.place (omega (arith, count, c.if-machine-count_of.false)));
      there = tt;
      room = tt;
    }
