-- A plan's gates, put after those that are there.
use Rattle.std.proofs.Common.{◌≡◌, ℕ, List, Ok, Err, sym, ◌∙◌, ap}
use Rattle.std.specs.Prelude.{Result}
use Rattle.gates.specs.declared.gate.Gate.{Gate}
use Rattle.language_model.specs.Effects.{Stage, Run, next_number, put_gates, planned}
use Rattle.value_steps.specs.declared.halt.Halt.{Halt}
use Rattle.value_steps.specs.declared.halt.Halt.TheVariants as halt
use Rattle.value_steps.specs.Steps.{Does, itself}

does_planned : (plan : ℕ → List Gate) (gates : List Gate) (s s' : Stage) (r : Result ℕ Halt) → gates ≡ plan s.made
    → Does itself (put_gates gates) s r s' → Does itself (planned plan) s r s'
does_planned plan gates s s' (Ok n) e h = ap (λ gs. put_gates gs s) (sym e) ∙ h
does_planned plan gates s s' (Err halt.Memory) e h = tt
does_planned plan gates s s' (Err (halt.Ended ending)) e h = ap (λ gs. put_gates gs s) (sym e) ∙ h
does_planned plan gates s s' (Err halt.Short) e h = ap (λ gs. put_gates gs s) (sym e) ∙ h

abbrev number_given : Run ℕ → ℕ
number_given (Ok x) = x.0
number_given (Err e) = 0

-- the plan begins at the next number
pub puts_plan : (plan : ℕ → List Gate) (first : ℕ) (gates : List Gate) (s s' : Stage) (r : Result ℕ Halt) → Does itself next_number s (Ok first) s
    → gates ≡ plan first → Does itself (put_gates gates) s r s' → Does itself (planned plan) s r s'
puts_plan plan first gates s s' r m e h =
    let begins : s.made ≡ first = ap number_given m in
    does_planned plan gates s s' r (e ∙ ap plan (sym begins)) h
