-- Gates and places, pushed one after another.
use Rattle.std.proofs.Common.{◌≡◌, ℕ, ◌+◌, List, [], ◌∷◌, ◌++◌, sym, ◌∙◌, ap, append_assoc}
use Rattle.std.specs.List.{range_with_len}
use Rattle.gates.proofs.WordSteps.{range_push, tile_more}
use Rattle.oblivious_index.specs.Lookup.{places}

pub ruleset pushes = (append_assoc)

pub places_more : (n m : ℕ) → places n (m + 1) ≡ places n m ++ range_with_len 0 n
places_more n m = tile_more (range_with_len 0 n) m

pub push_more : (before : List ℕ) (n : ℕ) → (before ++ range_with_len 0 n) ++ n ∷ [] ≡ before ++ range_with_len 0 (n + 1)
push_more before n = append_assoc before (range_with_len 0 n) (n ∷ []) ∙ ap (λ l. before ++ l) (sym (range_push n))
