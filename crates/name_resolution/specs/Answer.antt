-- What a resolving call answers.
use Rattle.std.specs.Prelude.{◌≡◌, Option, Some, None, Result, Ok, Err}
use Rattle.name_resolution.specs.declared.resolve_err.ResolveErr.{ResolveErr}
use Rattle.name_resolution.specs.declared.resolve_err.ResolveErr.TheVariants.{Unresolved, Memory}

-- exactly what there is, and that it's unresolved only where there is nothing; that memory ran short tells nothing of it
abbrev pub Answers : {A B : Type 0} → (view : A → B) → Result A ResolveErr → (there : Option B) → Type 0
Answers view (Ok a) there = there ≡ Some (view a)
Answers view (Err Unresolved) there = there ≡ None
Answers view (Err Memory) there = Unit {0}
