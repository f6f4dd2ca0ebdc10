-- The children that `trio` starts.
use Rattle.std.specs.Prelude.{◌≡◌, ◌≤◌, ◌⊎◌, ℕ, ℤ, List, ◌++◌, map, Bool, true, Option, Some, Result, Ok, Err}
use Rattle.std.specs.List.{filter}
use Rattle.outside.specs.Causes.{Rose}
use Rattle.outside.specs.Files.{Contents}
use Rattle.outside.specs.Spawner.{ChildCall, SpawnerState, awaited}
use Rattle.proto_core.specs.declared.party.Number.{Number}
use Rattle.trio.specs.Launches.{AreAll, Launched, of_all, starts}
use Rattle.trio.specs.declared.child_err.ChildErr.{ChildErr}
use Rattle.command_frame.specs.Answer.{Cause, after_writes}
use Rattle.command_frame.specs.Objects.{OfObject}
use Rattle.command_frame.specs.declared.status.Status.TheVariants.{Disagree}
use Rattle.command_frame.specs.declared.stop.Stop.{Stop}
use Rattle.command_frame.specs.declared.stop.Stop.TheVariants as stops
use Rattle.trio_command.specs.Trio.{Prepared, dealt, undealt}

-- the status of each of three children that were started with these words, one after another
abbrev pub AreStatuses : (words : Number → List (List ℕ)) → (old new : SpawnerState) → (status : Number → ℤ) → Type 0
AreStatuses words old new status =
    (child : Number → ℕ) (more : List ChildCall) → new.calls ≡ old.calls ++ (starts (of_all words) (of_all child) ++ more)
    → (i : Number) → status i ≡ old.status (child i)

-- miners 1, 2 and 3 are started with these words, and then each is waited for
pub record AreRun (words : Number → List (List ℕ)) (old new : SpawnerState) : Type 0 where
  pub child : Number → ℕ
  pub calls : new.calls ≡ old.calls ++ (starts (of_all words) (of_all child) ++ of_all (λ i. awaited (child i)))

-- they are started so, and then waited for: each wait was answered, or one failed
pub record AreStarted (words : Number → List (List ℕ)) (old new : SpawnerState) : Type 0 where
  pub child : Number → ℕ
  pub waits : List ChildCall
  pub calls : new.calls ≡ old.calls ++ (starts (of_all words) (of_all child) ++ waits)
  pub waited : (waits ≡ of_all (λ i. awaited (child i))) ⊎ Rose old.faults new.faults

-- what was started where files are dealt: all three are run where the command goes on, where the output fails, and where two texts differ; so they are
-- where a child or a text is the cause, but that a wait may have failed; at a file none was started, or all three were run
abbrev pub StartsBy : {X : Type 0} → (words : Number → List (List ℕ)) → (old new : SpawnerState) → Result X Stop → Type 0
StartsBy words old new (Ok x) = AreRun words old new
StartsBy words old new (Err stops.Memory) = Unit {0}
StartsBy words old new (Err stops.Usage) = Unit {0}
StartsBy words old new (Err (stops.Refused r)) = Unit {0}
StartsBy words old new (Err (stops.Breached b)) = AreStarted words old new × (b.status ≡ Disagree → AreRun words old new)
StartsBy words old new (Err (stops.Failed object)) =
    OfObject (λ line. (new ≡ old) ⊎ AreRun words old new) (AreRun words old new) (Unit {0}) (Rose old.faults new.faults) object

-- and no child is started where a file is refused, or nothing can be dealt, however the command stops
abbrev pub LaunchesBy : {X : Type 0} → (words : Number → List (List ℕ)) → (old new : SpawnerState) → Result X Stop → Result Prepared Cause → Type 0
LaunchesBy words old new result (Ok (dealt writes)) = StartsBy words old new result
LaunchesBy words old new result (Ok (undealt need have)) = new ≡ old
LaunchesBy words old new result (Err cause) = new ≡ old

-- as each child was started, the store held the files that were dealt, beside those that were there before
abbrev pub StoredBy : Contents → (old new : SpawnerState) → Result Prepared Cause → Type 0
StoredBy files old new (Ok (dealt writes)) =
    (added : List (Option Contents)) × (new.held ≡ old.held ++ added) × AreAll (Some (after_writes writes files)) added
StoredBy files old new (Ok (undealt need have)) = Unit {0}
StoredBy files old new (Err cause) = Unit {0}

-- the calls where miners are started with these words: a start for each of the first of them, and then no more; or all three, and a wait for each of
-- those that were answered
abbrev pub AreMinerCalls : (words : Number → List (List ℕ)) → List ChildCall → Type 0
AreMinerCalls words calls =
    ((begun : List ℕ) × (calls ≡ starts (of_all words) begun))
    ⊎ ((child : Number → ℕ) × (answered : Number → Bool)
    × (calls ≡ starts (of_all words) (of_all child) ++ map (λ i. awaited (child i)) (filter answered (of_all (λ i. i)))))

-- no child was started; or miners were, one after another, and nothing else was done with children
pub record MayLaunch (words : Number → List (List ℕ)) (old new : SpawnerState) : Type 0 where
  pub told : new.told ≡ old.told
  pub status : new.status ≡ old.status
  pub calls : old.told ≡ true → (added : List ChildCall) × (new.calls ≡ old.calls ++ added) × AreMinerCalls words added
  pub later : old.faults ≤ new.faults
  pub steady : old.steady ≡ true → old.told ≡ true → new.faults ≡ old.faults
  pub still : old.steady ≡ true → new.steady ≡ true

-- the same by what came of starting them
abbrev pub MayLaunchBy : (words : Number → List (List ℕ)) → (old new : SpawnerState) → Type 0
MayLaunchBy words old new = (new ≡ old) ⊎ ((result : Result (Unit {0}) ChildErr) × Launched old new words result)
