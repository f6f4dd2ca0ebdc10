-- Lists of words.
use Rattle.std.specs.Prelude.{ℕ, ◌^◌, ◌<◌, List, slice_index}

abbrev pub AreWords : List ℕ → Type 0
AreWords xs = (k : ℕ) → slice_index xs k < 2 ^ 64
