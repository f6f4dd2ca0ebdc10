-- What a source that reads a file means: by the party's number, where in the file its next word stands, and how many are left.
use Rattle.std.specs.Prelude.{◌≡◌, ◌<◌, ◌≤◌, ℕ, ◌+◌, ◌*◌, List, [], length, take, drop, Bool, true, false, ◌&&◌, nat_le, slice_index, slice_index_or, Option, Some}
use Rattle.std.specs.Prelude.{None, IfSome, IsSomeAnd}
use Rattle.outside.specs.Causes.{Rose}
use Rattle.outside.specs.Files.{FilesState, file_at}
use Rattle.outside.specs.Tapes.{TapesState}
use Rattle.tape_file.specs.Format.{words_at}

-- the size of a file that is to have all bytes below this place was answered
abbrev pub IsSizedTo : FilesState → List ℕ → ℕ → Type 0
IsSizedTo state path end = IsSomeAnd (state.sized path) (λ size. end ≤ size)

-- the file is there and has that many bytes
abbrev pub has_bytes : Option (List ℕ) → ℕ → Bool
has_bytes None size = false
has_bytes (Some all) size = nat_le size (length all)

-- so many words of the file from this place on
abbrev pub words_in : Option (List ℕ) → ℕ → ℕ → List ℕ
words_in None from count = []
words_in (Some all) from count = words_at from count all

-- the file of a store that is told
abbrev pub file_in : FilesState → List ℕ → Option (List ℕ)
file_in state path = file_at state.contents path

-- the store is told, and holds the file whole
abbrev pub is_told : FilesState → List ℕ → ℕ → Bool
is_told state path size = state.told && has_bytes (file_in state path) size

-- the words that are read from a store, which is lent under the name `held`
abbrev pub words_state : FilesState → ℕ → List ℕ → ℕ → (next left : List ℕ) → TapesState
words_state state held path size next left = record {
  told = is_told state path size;
  words = λ p. words_in (file_in state path) (slice_index next p) (slice_index left p);
  count = slice_index left;
  steady = is_told state path size && state.steady;
  under = state;
  held = held;
}

-- each party's words end within the file
pub record AreWithin (size : ℕ) (next left : List ℕ) : Type 0 where
  pub dealer : slice_index next 0 + 8 * slice_index left 0 ≤ size
  pub one : slice_index next 1 + 8 * slice_index left 1 ≤ size
  pub two : slice_index next 2 + 8 * slice_index left 2 ≤ size
  pub three : slice_index next 3 + 8 * slice_index left 3 ≤ size

-- these bytes are those that the file has from this place on
abbrev pub IsAhead : Option (List ℕ) → ℕ → List ℕ → Type 0
IsAhead file from bytes = IfSome file (λ all. bytes ≡ take (length bytes) (drop from all))

-- of each party's tape what was read ahead is what the file has from its next word on
abbrev pub AreAhead : Option (List ℕ) → (next : List ℕ) → (ahead : List (List ℕ)) → Type 0
AreAhead file next ahead = (p : ℕ) (d : List ℕ) → p < length ahead → IsAhead file (slice_index next p) (slice_index_or ahead p d)

-- words of a tape couldn't be read: the count of the files' faults rose, and where they tell, they were not steady
pub record TapeFaulted (old new : FilesState) : Type 0 where
  pub rose : Rose old.faults new.faults
  pub unsteady : old.told ≡ true → old.steady ≡ true → ⊥
