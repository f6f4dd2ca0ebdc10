-- What is told of other programs: the calls that were made of them, and the statuses that they end with.
use Rattle.std.specs.Prelude.{◌≡◌, ◌<◌, ◌^◌, ℕ, ℤ, List, [], ◌∷◌, ◌++◌, length, Bool, true, Option, Contains}
use Rattle.outside.specs.Files.{Contents, FilesState, told_contents}

-- a call that was answered: the words of a child that was started and its number, or a child that was waited for
pub data ChildCall : Type 0 where
  started : List (List ℕ) → ℕ → ChildCall
  awaited : ℕ → ChildCall

-- the numbers of the children that were started, in order
abbrev pub given_in : List ChildCall → List ℕ
given_in [] = []
given_in (started words child ∷ calls) = child ∷ given_in calls
given_in (awaited child ∷ calls) = given_in calls

-- the words of the children that were started, in order
abbrev pub words_in : List ChildCall → List (List (List ℕ))
words_in [] = []
words_in (started words child ∷ calls) = words ∷ words_in calls
words_in (awaited child ∷ calls) = words_in calls

-- the calls in order, what the store held as each child was started, where that is told, and each child's status, which say what they do where
-- `told` is true, and nothing else
pub record SpawnerState : Type 0 where
  pub told : Bool
  pub calls : List ChildCall
  pub held : List (Option Contents)
  pub status : ℕ → ℤ
  pub faults : ℕ
  pub steady : Bool

-- all that is told is as it was
pub record SameSpawner (old new : SpawnerState) : Type 0 where
  pub told : new.told ≡ old.told
  pub calls : new.calls ≡ old.calls
  pub status : new.status ≡ old.status

-- one more child was started, when the store was as this says
abbrev pub HeldThen : (old new : SpawnerState) → FilesState → Type 0
HeldThen old new files = old.told ≡ true → new.held ≡ old.held ++ told_contents files ∷ []

-- this one call was added, and all else is as it was
pub record Called (old new : SpawnerState) (call : ChildCall) : Type 0 where
  pub told : new.told ≡ old.told
  pub calls : old.told ≡ true → new.calls ≡ old.calls ++ call ∷ []
  pub status : new.status ≡ old.status

-- a child with this number was started
abbrev pub IsKnown : SpawnerState → ℕ → Type 0
IsKnown state child = Contains (given_in state.calls) child

-- while fewer than 2^32 numbers were given, this one is none of them
abbrev pub IsFresh : SpawnerState → ℕ → Type 0
IsFresh state child = length (given_in state.calls) < 2 ^ 32 → ¬ Contains (given_in state.calls) child

-- no child with this number was started
abbrev pub IsUnknown : SpawnerState → ℕ → Type 0
IsUnknown state child = state.told ≡ true → ¬ IsKnown state child
