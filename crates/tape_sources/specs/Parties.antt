-- The tapes of the four parties by their numbers, the dealer's being 0.
use Rattle.std.specs.Prelude.{ℕ, List, [], true, ◌==◌, if◌then◌else◌}
use Rattle.tape_file.specs.Tapes.{FourTapes}
use Rattle.outside.specs.Tapes.{TapesState, no_files}

-- no other party has a tape
unfoldable pub tape_of : FourTapes → ℕ → List ℕ
tape_of tapes party =
    if party == 0 then tapes.dealer else if party == 1 then tapes.one else if party == 2 then tapes.two else if party == 3 then tapes.three else []

-- all words that a source has left
abbrev pub four_of : TapesState → FourTapes
four_of s = record { dealer = s.words 0; one = s.words 1; two = s.words 2; three = s.words 3 }

-- a source in memory that has these words left
abbrev pub told_state : (ℕ → List ℕ) → TapesState
told_state words = record { told = true; words = words; count = λ _. 0; steady = true; under = no_files; held = 0 }
