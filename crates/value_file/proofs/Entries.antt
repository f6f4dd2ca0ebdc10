-- Entries that are read one after the other.
use Rattle.std.proofs.Common.{◌≡◌, ℕ, ◌+◌, ◌<◌, ◌≤◌, List, [], ◌∷◌, ◌++◌, map, length, drop, get_or, Result, Ok, Err, refl, ap, sym, ◌∙◌}
use Rattle.std.proofs.lemmas.List.{drop_more, drop_all, length-append, map-append}
use Rattle.serde_json.specs.Data.{Data}
use Rattle.serde_json.specs.declared.value.Value.{Value}
use Rattle.serde_json.specs.View.{view, items_view}
use Rattle.value_file.specs.declared.read_err.ReadErr.{ReadErr}
use Rattle.value_file.specs.Input.{entries_after, ◌>>=◌}

module _ {E : Type 0} (one : ℕ → List (List ℕ) → Data → Result E ReadErr) (name : E → List ℕ) where
  module _ (vs : List Value) (i : ℕ) (v : Value) (before : List E) (names : List (List ℕ))
      (here : i < length vs) (same : names ≡ map name before) (count : length before ≡ i) (at : v ≡ get_or vs i v) where
    -- an entry is read, and then those after it
    unrolled : entries_after one name before (items_view (drop i vs))
        ≡ (one i names (view v) >>= λ entry. entries_after one name (before ++ entry ∷ []) (items_view (drop (i + 1) vs)))
    unrolled = rw (drop_more vs i v here, ← at, count, same) refl

    -- an entry that is good joins those before it
    pub entries_after-more : (entry : E) → one i names (view v) ≡ Ok entry
        → entries_after one name before (items_view (drop i vs)) ≡ entries_after one name (before ++ entry ∷ []) (items_view (drop (i + 1) vs))
    entries_after-more entry good = unrolled ∙ ap (λ r. r >>= λ entry. entries_after one name (before ++ entry ∷ []) (items_view (drop (i + 1) vs))) good

    -- an entry that is refused ends the reading
    pub entries_after-refused : (refusal : ReadErr) → one i names (view v) ≡ Err refusal → entries_after one name before (items_view (drop i vs)) ≡ Err refusal
    entries_after-refused refusal bad = unrolled ∙ ap (λ r. r >>= λ entry. entries_after one name (before ++ entry ∷ []) (items_view (drop (i + 1) vs))) bad

  -- after the last entry
  pub entries_after-end : (vs : List Value) (i : ℕ) (before : List E) → length vs ≤ i → entries_after one name before (items_view (drop i vs)) ≡ Ok before
  entries_after-end vs i before past = rw (drop_all i vs past) refl

-- the names, with one more
pub names-more : {E : Type 0} (name : E → List ℕ) (before after : List E) (entry : E) (names more : List (List ℕ)) → names ≡ map name before
    → more ≡ names ++ name entry ∷ [] → after ≡ before ++ entry ∷ [] → more ≡ map name after
names-more name before after entry names more same grown joined = rw (grown, same, joined) (sym (map-append name before (entry ∷ [])))

-- the count, with one more
pub length-more : {E : Type 0} (before after : List E) (entry : E) (count : ℕ) → length before ≡ count → after ≡ before ++ entry ∷ [] → length after ≡ count + 1
length-more before after entry count same joined = rw (joined, length-append before (entry ∷ []), same) refl
