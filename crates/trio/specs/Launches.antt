-- Three children that are started, and then waited for.
use Rattle.std.specs.Prelude.{◌≡◌, ◌≤◌, ◌<◌, ℕ, ℤ, List, [], ◌∷◌, ◌++◌, length, true, Option, Result, Ok, Err, IfOk}
use Rattle.outside.specs.declared.error.SpawnErr.{SpawnErr}
use Rattle.outside.specs.declared.error.SpawnErr.TheVariants as spawn_err
use Rattle.outside.specs.Causes.{Rose}
use Rattle.outside.specs.Files.{Contents, FilesState, told_contents}
use Rattle.outside.specs.Spawner.{SpawnerState, ChildCall, started, awaited}
use Rattle.proto_core.specs.declared.party.Number.{Number}
use Rattle.proto_core.specs.declared.party.Number.TheVariants.{One, Two, Three}
use Rattle.trio.specs.Children.{fault_in, all_answers}
use Rattle.trio.specs.declared.child_err.ChildErr.{ChildErr}
use Rattle.trio.specs.declared.child_err.ChildErr.TheVariants as child_err

-- a start that failed after these children; or three children, and what waiting for each has answered
pub data Launch : Type 0 where
  Halted : (begun : List ℕ) → SpawnErr → Launch
  Awaited : (child : Number → ℕ) → (answer : Number → Result ℤ SpawnErr) → Launch

-- a start for each of these children, by the words of the first, the second and so on
abbrev pub starts : List (List (List ℕ)) → List ℕ → List ChildCall
starts [] children = []
starts (words ∷ more) [] = []
starts (words ∷ more) (child ∷ children) = started words child ∷ starts more children

abbrev pub of_all : {A : Type 0} → (Number → A) → List A
of_all f = f One ∷ f Two ∷ f Three ∷ []

-- a wait is told where it was answered
abbrev pub wait_of : ℕ → Result ℤ SpawnErr → List ChildCall
wait_of child (Ok status) = awaited child ∷ []
wait_of child (Err err) = []

-- the calls in order: after a start that failed there are none
abbrev pub calls_of : (words : Number → List (List ℕ)) → Launch → List ChildCall
calls_of words (Halted begun err) = starts (of_all words) begun
calls_of words (Awaited child answer) =
    starts (of_all words) (of_all child)
    ++ (wait_of (child One) (answer One) ++ (wait_of (child Two) (answer Two) ++ wait_of (child Three) (answer Three)))

-- what is answered to it
abbrev pub answer_to : Launch → Result (Unit {0}) ChildErr
answer_to (Halted begun err) = Err (fault_in err)
answer_to (Awaited child answer) = all_answers answer

-- two children at most where the third could not be started; statuses are those of the children
abbrev pub IsTold : (status : ℕ → ℤ) → Launch → Type 0
IsTold status (Halted begun err) = length begun < 3
IsTold status (Awaited child answer) = (i : Number) → IfOk (answer i) (λ s. s ≡ status (child i))

-- a start or a wait failed
abbrev pub HasFault : Launch → Type 0
HasFault (Halted begun err) = err ≡ spawn_err.Failed
HasFault (Awaited child answer) = (i : Number) × (answer i ≡ Err spawn_err.Failed)

-- ---- what the store held

abbrev pub AreAll : Option Contents → List (Option Contents) → Type 0
AreAll store [] = Unit {0}
AreAll store (held ∷ more) = (held ≡ store) × AreAll store more

-- as children were started, the store was as this says each time
pub record StartedWith (files : FilesState) (old new : SpawnerState) : Type 0 where
  pub told : new.told ≡ old.told
  pub held : old.told ≡ true → (added : List (Option Contents)) × (new.held ≡ old.held ++ added) × AreAll (told_contents files) added

-- ---- all that came of it

-- what came of a launch where the spawner tells
pub record Told (old new : SpawnerState) (words : Number → List (List ℕ)) (result : Result (Unit {0}) ChildErr) : Type 0 where
  pub launch : Launch
  pub calls : new.calls ≡ old.calls ++ calls_of words launch
  pub statuses : IsTold old.status launch
  pub answer : result ≡ answer_to launch
  pub rose : HasFault launch → Rose old.faults new.faults
  pub none : old.steady ≡ true → HasFault launch → ⊥

-- a fault comes only where the spawner counted one, and never of a steady one that tells; only calls are added
pub record Launched (old new : SpawnerState) (words : Number → List (List ℕ)) (result : Result (Unit {0}) ChildErr) : Type 0 where
  pub told : new.told ≡ old.told
  pub status : new.status ≡ old.status
  pub came : old.told ≡ true → Told old new words result
  pub later : old.faults ≤ new.faults
  pub failed : result ≡ Err child_err.Fault → Rose old.faults new.faults
  pub steady : old.steady ≡ true → old.told ≡ true → (result ≡ Err child_err.Fault → ⊥) × (new.faults ≡ old.faults)
  pub still : old.steady ≡ true → new.steady ≡ true
