-- Two lists of as many values that have the same of some numbers, and go on so when more values are made.
use Rattle.std.proofs.Common.{◌≡◌, ◌⊎◌, ℕ, ◌+◌, ◌<◌, ◌≤◌, List, [], ◌∷◌, ◌++◌, length, inl, inr, refl, sym, ◌∙◌, ap}
use Rattle.std.proofs.Common.{arith, length-append}
use Rattle.std.proofs.lemmas.Bool.{cases_lt}
use Rattle.std.proofs.lemmas.List.{length-map, get_or_append_left, get_or-append_right}
use Rattle.protocol_model.specs.Gates.{nth_value, sizes_of}
use Rattle.gates.specs.Clear.{Values}
use Rattle.gates.specs.Counts.{size_of}
use Rattle.gates.specs.Taken.{Numbers, or_from, AllOf, AreAmong, HaveSame}
use Rattle.gate_exchanges.proofs.Models.{nth_value-value, size-value}

pub all_among : (M N : Numbers) → AreAmong M N → (ks : List ℕ) → AllOf M ks → AllOf N ks
all_among M N among [] h = tt
all_among M N among (k ∷ ks) h = (among k h.0, all_among M N among ks h.1)

-- ---- what is read of them

module _ (values held : Values) where
  pub same_size : (k : ℕ) → HaveSame values held k → size_of (sizes_of values) k ≡ size_of (sizes_of held) k
  same_size k same = sym (size-value values k) ∙ ap length same ∙ size-value held k

  pub same_words : (k : ℕ) → HaveSame values held k → nth_value values k ≡ nth_value held k
  same_words k same = nth_value-value values k ∙ same ∙ sym (nth_value-value held k)

  module _ (as_many : length held ≡ length values) where
    pub as_many_sizes : length (sizes_of values) ≡ length (sizes_of held)
    as_many_sizes = length-map values length ∙ sym as_many ∙ sym (length-map held length)

    -- ---- more values

    pub as_many_behind : (made : Values) → length (held ++ made) ≡ length (values ++ made)
    as_many_behind made = length-append held made ∙ ap (λ n. n + length made) as_many ∙ sym (length-append values made)

    below : (made : Values) (k : ℕ) → k < length values → HaveSame values held k → HaveSame (values ++ made) (held ++ made) k
    below made k h same =
        get_or_append_left values made [] k h ∙ same ∙ sym (get_or_append_left held made [] k (omega (arith, h, as_many)))

    above : (made : Values) (k : ℕ) → length values ≤ k → HaveSame (values ++ made) (held ++ made) k
    above made k h =
        get_or-append_right values made (length values) k [] refl h ∙ sym (get_or-append_right held made (length values) k [] as_many h)

    by_place :
        (made : Values) (k : ℕ) → HaveSame values held k → (k < length values) ⊎ (length values ≤ k) → HaveSame (values ++ made) (held ++ made) k
    by_place made k same (inl h) = below made k h same
    by_place made k same (inr h) = above made k h

    pub same_behind : (made : Values) → AreAmong (or_from (HaveSame values held) (length values)) (HaveSame (values ++ made) (held ++ made))
    same_behind made k (inl same) = by_place made k same (cases_lt k (length values))
    same_behind made k (inr h) = above made k h
