-- Functions of code in memory.
use Rattle.std.proofs.Common.{◌≡◌, ℕ, [], Option, Some, None, length, refl, ap, ◌∙◌}
use Rattle.std.specs.Prelude.{map, option_map}
use Rattle.std.specs.List.{slice_get}
use Rattle.std.proofs.lemmas.Option.{slice_get-map}
use Rattle.std.proofs.lemmas.List.{length-map}
use Rattle.bytecode.specs.declared.code.Code.{Code}
use Rattle.bytecode.specs.declared.code.CodeFunction as memory
use Rattle.bytecode.specs.InMemory.{raw_code, raw_function, raw_instruction}
use Rattle.verified_code.specs.Steps.{Function}
use Rattle.verified_code.specs.Settled.{settle, settled, settled_function}
use Rattle.verified_code.specs.InMemory as in_memory
use Rattle.named_values.specs.Machine as model

-- a function as it runs
abbrev pub runs_as : Code → memory.CodeFunction → Function
runs_as code f = settled_function (raw_code code).names (raw_function f)

option-of : {A B C : Type 0} (g : B → C) (f : A → B) (o : Option A) → option_map g (option_map f o) ≡ option_map (λ x. g (f x)) o
option-of g f None = refl
option-of g f (Some x) = refl

pub function-of : (code : Code) (g : ℕ) → slice_get (settled (raw_code code)) g ≡ option_map (runs_as code) (slice_get code.functions.items g)
function-of code g =
    slice_get-map (settled_function (raw_code code).names) (map raw_function code.functions.items) g
    ∙ ap (option_map (settled_function (raw_code code).names)) (slice_get-map raw_function code.functions.items g)
    ∙ option-of (settled_function (raw_code code).names) raw_function (slice_get code.functions.items g)

pub kinds-some : (code : Code) (g : ℕ) (f : memory.CodeFunction) → slice_get code.functions.items g ≡ Some f
    → model.kinds_of (slice_get (settled (raw_code code)) g) ≡ f.registers.items
kinds-some code g f e = ap model.kinds_of (function-of code g ∙ ap (option_map (runs_as code)) e)

pub kinds-none : (code : Code) (g : ℕ) → slice_get code.functions.items g ≡ None → model.kinds_of (slice_get (settled (raw_code code)) g) ≡ []
kinds-none code g e = ap model.kinds_of (function-of code g ∙ ap (option_map (runs_as code)) e)

pub count-some : (code : Code) (g : ℕ) (f : memory.CodeFunction) → slice_get code.functions.items g ≡ Some f
    → length (in_memory.steps_of (slice_get (settled (raw_code code)) g)) ≡ length f.body.items
count-some code g f e =
    ap (λ o. length (in_memory.steps_of o)) (function-of code g ∙ ap (option_map (runs_as code)) e)
    ∙ length-map (map raw_instruction f.body.items) (settle (raw_code code).names (raw_function f).registers)
    ∙ length-map f.body.items raw_instruction

pub count-none : (code : Code) (g : ℕ) → slice_get code.functions.items g ≡ None → length (in_memory.steps_of (slice_get (settled (raw_code code)) g)) ≡ 0
count-none code g e = ap (λ o. length (in_memory.steps_of o)) (function-of code g ∙ ap (option_map (runs_as code)) e)
