-- What tapes in memory mean as a source.
use Rattle.std.specs.Prelude.{ℕ, List, drop, slice_index}
use Rattle.outside.specs.Tapes.{TapesState}
use Rattle.tape_file.specs.Tapes.{FourTapes}
use Rattle.tape_sources.specs.Parties.{tape_of, told_state}
use Rattle.tape_sources.specs.declared.held.HeldTapes.{HeldTapes}

-- of each tape what was not taken
abbrev pub words_after : FourTapes → List ℕ → ℕ → List ℕ
words_after tapes taken party = drop (slice_index taken party) (tape_of tapes party)

abbrev pub held_state : HeldTapes → TapesState
held_state h = told_state (words_after h.tapes h.taken)
