-- Callers, the last one first.
use Rattle.std.proofs.Common.{◌≡◌, ◌<◌, List, [], ◌∷◌, ◌++◌, length, Ok, refl, ◌∙◌, arith}
use Rattle.std.specs.Prelude.{map}
use Rattle.std.proofs.lemmas.List.{length-map, length-reverse}
use Rattle.language_model.specs.Effects.{Stage}
use Rattle.language_model.specs.Values.{Value}
use Rattle.bytecode.specs.Raw.{RawCode}
use Rattle.named_values.specs.Machine.{Caller, Machine, resume}
use Rattle.code_machine.specs.declared.machine.Caller as waiting
use Rattle.code_machine.specs.Changes.{back_to}
use Rattle.code_machine.specs.Standing.{CanAllGoOn, CanGoOn}
use Rattle.code_machine.specs.Views.{caller_seen, callers_seen}

pub callers-count : (code : RawCode) (cs : List waiting.Caller) → length (callers_seen code cs) ≡ length cs
callers-count code cs = length-reverse (map (caller_seen code) cs) ∙ length-map cs (caller_seen code)

pub all-push : (code : RawCode) (cs : List waiting.Caller) (c : waiting.Caller) → CanAllGoOn code cs → CanGoOn code c → CanAllGoOn code (cs ++ c ∷ [])
all-push code [] c h g = (g, tt)
all-push code (x ∷ cs) c h g = (h.0, all-push code cs c h.1 g)

pub all-pop : (code : RawCode) (cs : List waiting.Caller) (c : waiting.Caller) → CanAllGoOn code (cs ++ c ∷ []) → CanAllGoOn code cs × CanGoOn code c
all-pop code [] c h = (tt, h.0)
all-pop code (x ∷ cs) c h = let r = all-pop code cs c h.1 in ((h.0, r.0), r.1)

pub resumes : (cs : List Caller) (v : Value) (m : Machine) (s : Stage) → 0 < length cs → resume cs v s ≡ Ok (back_to cs v m, s)
resumes [] v m s h = absurd (omega arith)
resumes (c ∷ cs) v m s h = refl
