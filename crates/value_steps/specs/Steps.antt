-- What a call that takes a run further did.
use Rattle.std.specs.Prelude.{◌≡◌, Result, Ok, Err}
use Rattle.language_model.specs.Effects.{Stage, Effect, Ended, Short}
use Rattle.value_steps.specs.declared.halt.Halt.{Halt}
use Rattle.value_steps.specs.declared.halt.Halt.TheVariants as halt

-- a call did from a stage to another just what the effect does, where the given value is seen so, unless memory ran out
abbrev pub Does : {A B : Type 0} → (A → B) → Effect B → Stage → Result A Halt → Stage → Type 0
Does seen effect s (Ok a) s' = effect s ≡ Ok (seen a, s')
Does seen effect s (Err halt.Memory) s' = Unit {0}
Does seen effect s (Err (halt.Ended e)) s' = effect s ≡ Err (Ended e, s')
Does seen effect s (Err halt.Short) s' = effect s ≡ Err (Short, s')

-- a given value as it is
abbrev pub itself : {A : Type 0} → A → A
itself a = a

-- nothing of a given value is seen
abbrev pub nothing : {A : Type 0} → A → Unit {0}
nothing a = tt
