-- Lists of words by index: a protocol's equation gives the word at each index.
use Rattle.std.specs.Prelude.{ℕ, ◌+◌, ◌*◌, List, map, slice_index}
use Rattle.std.specs.List.{range_with_len}
pub use Rattle.proto_core.specs.Words.{AreWords}

-- the word at an index, and 0 past the end
abbrev pub at : List ℕ → ℕ → ℕ
at xs k = slice_index xs k

-- n words, f of each index
unfoldable pub each : ℕ → (ℕ → ℕ) → List ℕ
each n f = map f (range_with_len 0 n)

-- field number j, of n words, in words that hold one field after another
unfoldable pub part : ℕ → ℕ → List ℕ → List ℕ
part n j xs = each n (λ k. at xs (j * n + k))
