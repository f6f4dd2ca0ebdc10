-- What is told of a source of tapes: how many words of each party's tape are left, and which.
use Rattle.std.specs.Prelude.{◌≡◌, ◌≢◌, ℕ, ◌+◌, List, ◌++◌, length, Bool, true, None, if◌then◌else◌}
use Rattle.std.specs.FinMap.{empty}
use Rattle.outside.specs.Files.{FilesState, OnlyRead}

-- by the party's number, the dealer's being 0: `words` says which words are left where `told` is true, `count` how many where it isn't.
-- The source reads the store `under`, which `held` names; one in memory reads none, and has an empty store there.
pub record TapesState : Type 0 where
  pub told : Bool
  pub words : ℕ → List ℕ
  pub count : ℕ → ℕ
  pub steady : Bool
  pub under : FilesState
  pub held : ℕ

-- what a source in memory stands on
abbrev pub no_files : FilesState
no_files = record { told = true; contents = empty; faults = 0; steady = true; sized = λ _. None }

-- faults are those of the store
abbrev pub faults_of : TapesState → ℕ
faults_of s = s.under.faults

-- how many words of this party's tape are left
abbrev pub left_of : TapesState → ℕ → ℕ
left_of s party = if s.told then length (s.words party) else s.count party

-- the same store is read, and nothing was written there
pub record StandsStill (old new : TapesState) : Type 0 where
  pub held : new.held ≡ old.held
  pub read : OnlyRead old.under new.under

-- of this party's tape as much is left as before, and the same
pub record SameTape (old new : TapesState) (party : ℕ) : Type 0 where
  pub left : left_of new party ≡ left_of old party
  pub words : old.told ≡ true → new.words party ≡ old.words party

-- these words, the next of this party's tape, were drawn, and all else is as it was
pub record Drew (old new : TapesState) (party : ℕ) (drawn : List ℕ) : Type 0 where
  pub told : new.told ≡ old.told
  pub stands : StandsStill old new
  pub fewer : left_of old party ≡ length drawn + left_of new party
  pub words : old.told ≡ true → old.words party ≡ drawn ++ new.words party
  pub others : (p : ℕ) → p ≢ party → SameTape old new p

-- no word was drawn
pub record SameTapes (old new : TapesState) : Type 0 where
  pub told : new.told ≡ old.told
  pub stands : StandsStill old new
  pub tapes : (p : ℕ) → SameTape old new p
