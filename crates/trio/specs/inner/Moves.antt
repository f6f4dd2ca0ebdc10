-- Cited by private functions alone: no contract of another crate rests on it.
-- Single calls of a spawner, and calls that follow one another.
use Rattle.std.specs.Prelude.{◌≡◌, ◌≤◌, ◌<◌, ℕ, ℤ, List, [], ◌∷◌, ◌++◌, length, true, Result, Ok, Err, IfOk}
use Rattle.outside.specs.declared.error.SpawnErr.{SpawnErr}
use Rattle.outside.specs.declared.error.SpawnErr.TheVariants as spawn_err
use Rattle.outside.specs.Causes.{Rose}
use Rattle.outside.specs.Spawner.{SpawnerState, ChildCall, started, IsKnown}
use Rattle.proto_core.specs.declared.party.Number.{Number}
use Rattle.proto_core.specs.declared.party.Number.TheVariants.{One, Two, Three}
use Rattle.trio.specs.Launches.{starts, of_all, wait_of}

-- these calls were added, and all else that is told is as it was
pub record Moved (old new : SpawnerState) (calls : List ChildCall) : Type 0 where
  pub told : new.told ≡ old.told
  pub status : new.status ≡ old.status
  pub calls_are : old.told ≡ true → new.calls ≡ old.calls ++ calls
  pub later : old.faults ≤ new.faults
  pub still : old.steady ≡ true → new.steady ≡ true

-- starts that were answered, and then maybe a fault, which a steady spawner has not
pub record Steps (old new : SpawnerState) (calls : List ChildCall) (fault : Type 0) : Type 0 where
  pub moved : Moved old new calls
  pub failed : fault → Rose old.faults new.faults
  pub steady : old.steady ≡ true → (fault → ⊥) × (new.faults ≡ old.faults)

-- one child that was to be started
abbrev pub Tried : (old new : SpawnerState) → (words : List (List ℕ)) → Result ℕ SpawnErr → Type 0
Tried old new words (Ok child) = Steps old new (started words child ∷ []) ⊥
Tried old new words (Err err) = Steps old new [] (err ≡ spawn_err.Failed)

-- three children that were to be started; the first ones, where one could not be
abbrev pub Begun : {A : Type 0} → (old new : SpawnerState) → (words : Number → List (List ℕ)) → (child : A → Number → ℕ) → Result A SpawnErr → Type 0
Begun old new words child (Ok three) = Steps old new (starts (of_all words) (of_all (child three))) ⊥
Begun old new words child (Err err) = (begun : List ℕ) × (length begun < 3) × Steps old new (starts (of_all words) begun) (err ≡ spawn_err.Failed)

-- a child that was waited for; a steady spawner has no fault with one that it knows
pub record Wait (old new : SpawnerState) (child : ℕ) (answer : Result ℤ SpawnErr) : Type 0 where
  pub moved : Moved old new (wait_of child answer)
  pub status : old.told ≡ true → IfOk answer (λ s. s ≡ old.status child)
  pub failed : answer ≡ Err spawn_err.Failed → Rose old.faults new.faults
  pub steady : old.steady ≡ true → old.told ≡ true → IsKnown old child → (answer ≡ Err spawn_err.Failed → ⊥) × (new.faults ≡ old.faults)

abbrev pub waits_of : (child : Number → ℕ) → (answer : Number → Result ℤ SpawnErr) → List ChildCall
waits_of child answer = wait_of (child One) (answer One) ++ (wait_of (child Two) (answer Two) ++ wait_of (child Three) (answer Three))

-- three children that were waited for
pub record Waited (old new : SpawnerState) (child : Number → ℕ) (answer : Number → Result ℤ SpawnErr) : Type 0 where
  pub moved : Moved old new (waits_of child answer)
  pub statuses : old.told ≡ true → (i : Number) → IfOk (answer i) (λ s. s ≡ old.status (child i))
  pub failed : (i : Number) → answer i ≡ Err spawn_err.Failed → Rose old.faults new.faults
  pub steady :
      old.steady ≡ true → old.told ≡ true → ((i : Number) → IsKnown old (child i))
      → ((i : Number) → answer i ≡ Err spawn_err.Failed → ⊥) × (new.faults ≡ old.faults)
