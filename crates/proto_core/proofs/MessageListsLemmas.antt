-- Messages kept as words and ends.
use Rattle.std.proofs.Common.{◌≡◌, ℕ, zero, suc, ◌+◌, ◌-◌, ◌<◌, ◌≤◌, List, [], ◌∷◌, ◌++◌, length, take, drop, map, get_or, refl, sym, ◌∙◌, ap, arith}
use Rattle.std.proofs.Common.{length-append, length-drop, append_assoc, inl, inr}
use Rattle.std.specs.Prelude.{slice_get, Some, None}
use Rattle.std.specs.List.{range_with_len}
use Rattle.std.proofs.Math.Seq.{take-length, drop-append_seam}
use Rattle.std.proofs.lemmas.List.{take-append-le, drop-append-le, get_or_append_left, get_or-append_right}
use Rattle.std.proofs.lemmas.List.FromFn.{length-map-range_with_len, get_or-map-range_with_len, fill_by_all}
use Rattle.std.proofs.lemmas.Option.{slice_get-get_or, slice_get_past}
use Rattle.std.proofs.lemmas.Bool.{cases_lt}
use Rattle.proto_core.specs.Lists.{at}
use Rattle.proto_core.specs.MessageLists.{start_of, between, messages_of, IsPiece, AreEnds}

-- the message of a number
abbrev message_at : List ℕ → List ℕ → ℕ → List ℕ
message_at ends words k = between (start_of ends k) (at ends k) words

pub length-messages_of : (ends words : List ℕ) → length (messages_of ends words) ≡ length ends
unfolding messages_of
length-messages_of ends words = length-map-range_with_len (message_at ends words) 0 (length ends)

get_or-messages_of : (ends words : List ℕ) (k : ℕ) → k < length ends → get_or (messages_of ends words) k [] ≡ message_at ends words k
unfolding messages_of
get_or-messages_of ends words k h = get_or-map-range_with_len (message_at ends words) 0 (length ends) k k [] h (omega arith)

pub messages_of_none : (words : List ℕ) → messages_of [] words ≡ []
unfolding messages_of
messages_of_none words = refl

pub slice_get-messages_of :
    (ends words : List ℕ) (k : ℕ) → k < length ends →
    slice_get (messages_of ends words) k ≡ Some (between (start_of ends k) (at ends k) words)
slice_get-messages_of ends words k h =
    let within : k < length (messages_of ends words) = omega (arith, length-messages_of ends words) in
    slice_get-get_or (messages_of ends words) k [] within ∙ ap Some (get_or-messages_of ends words k h)

pub slice_get-messages_of_past :
    (ends words : List ℕ) (k : ℕ) → length ends ≤ k → slice_get (messages_of ends words) k ≡ None
slice_get-messages_of_past ends words k h = slice_get_past (messages_of ends words) k (omega (arith, length-messages_of ends words))

-- ---- one message more

module _ (ends words m : List ℕ) where
  at-ends_before : (k : ℕ) → k < length ends → at (ends ++ length (words ++ m) ∷ []) k ≡ at ends k
  at-ends_before k h = get_or_append_left ends (length (words ++ m) ∷ []) 0 k h

  at-ends_new : at (ends ++ length (words ++ m) ∷ []) (length ends) ≡ length (words ++ m)
  at-ends_new =
      let none : length ends - length ends ≡ 0 = omega arith in
      get_or-append_right ends (length (words ++ m) ∷ []) (length ends) (length ends) 0 refl (omega arith) ∙ ap (at (length (words ++ m) ∷ [])) none

  start-ends : (k : ℕ) → k ≤ length ends → start_of (ends ++ length (words ++ m) ∷ []) k ≡ start_of ends k
  start-ends zero h = refl
  start-ends (suc k) h = at-ends_before k (omega arith)

  same_before : AreEnds ends words → (k : ℕ) → k < length ends → message_at (ends ++ length (words ++ m) ∷ []) (words ++ m) k ≡ message_at ends words k
  same_before is k h =
      let from = start_of ends k in
      let to = at ends k in
      let rises : from ≤ to = (is.pieces k h).rises in
      let within : to ≤ length words = (is.pieces k h).within in
      let starts : start_of (ends ++ length (words ++ m) ∷ []) k ≡ from = start-ends k (omega arith) in
      let stops : at (ends ++ length (words ++ m) ∷ []) k ≡ to = at-ends_before k h in
      let below : from ≤ length words = omega arith in
      let few : to - from ≤ length (drop from words) = omega (arith, length-drop from words) in
      ap (λ a. take (at (ends ++ length (words ++ m) ∷ []) k - a) (drop a (words ++ m))) starts
      ∙ ap (λ b. take (b - from) (drop from (words ++ m))) stops
      ∙ ap (take (to - from)) (drop-append-le from words m below)
      ∙ take-append-le (to - from) (drop from words) m few

  new_message : AreEnds ends words → message_at (ends ++ length (words ++ m) ∷ []) (words ++ m) (length ends) ≡ m
  new_message is =
      let starts : start_of (ends ++ length (words ++ m) ∷ []) (length ends) ≡ length words = start-ends (length ends) (omega arith) ∙ is.last in
      let many : length (words ++ m) - length words ≡ length m = omega (arith, length-append words m) in
      ap (λ a. take (at (ends ++ length (words ++ m) ∷ []) (length ends) - a) (drop a (words ++ m))) starts
      ∙ ap (λ b. take (b - length words) (drop (length words) (words ++ m))) at-ends_new
      ∙ ap (λ l. take (length (words ++ m) - length words) l) (drop-append_seam words m)
      ∙ ap (λ n. take n m) many ∙ take-length m

pub messages_of-push :
    (ends words m : List ℕ) → AreEnds ends words →
    messages_of (ends ++ length (words ++ m) ∷ []) (words ++ m) ≡ messages_of ends words ++ m ∷ []
unfolding messages_of
messages_of-push ends words m is =
    let more : length ends + 1 ≡ length (ends ++ length (words ++ m) ∷ []) = omega (arith, length-append ends (length (words ++ m) ∷ [])) in
    ap (λ n. map (message_at (ends ++ length (words ++ m) ∷ []) (words ++ m)) (range_with_len 0 n)) (sym more)
    ∙ sym
    (fill_by_all (message_at (ends ++ length (words ++ m) ∷ []) (words ++ m)) (messages_of ends words ++ m ∷ []) (length ends + 1) []
    (length-append (messages_of ends words) (m ∷ []) ∙ ap (λ n. n + 1) (length-messages_of ends words))
    (λ k h.
    elim (cases_lt k (length ends)) as (λ c. get_or (messages_of ends words ++ m ∷ []) k [] ≡ message_at (ends ++ length (words ++ m) ∷ []) (words ++ m) k) [
      | inl below ↦
          get_or_append_left (messages_of ends words) (m ∷ []) [] k (omega (arith, length-messages_of ends words))
          ∙ get_or-messages_of ends words k below ∙ sym (same_before ends words m is k below)
      | inr past ↦
          let is_last : k ≡ length ends = omega arith in
          let none : length ends - length ends ≡ 0 = omega arith in
          ap (λ i. get_or (messages_of ends words ++ m ∷ []) i []) is_last
          ∙ get_or-append_right (messages_of ends words) (m ∷ []) (length ends) (length ends) [] (length-messages_of ends words) (omega arith)
          ∙ ap (λ i. get_or (m ∷ []) i []) none
          ∙ sym (new_message ends words m is) ∙ ap (message_at (ends ++ length (words ++ m) ∷ []) (words ++ m)) (sym is_last)
    ]))

pub AreEnds-push : (ends words m : List ℕ) → AreEnds ends words → length m ≤ 2048 → AreEnds (ends ++ length (words ++ m) ∷ []) (words ++ m)
AreEnds-push ends words m is short =
    let more : length (ends ++ length (words ++ m) ∷ []) ≡ suc (length ends) = omega (arith, length-append ends (length (words ++ m) ∷ [])) in
    record {
      pieces = λ k h.
          elim (cases_lt k (length ends)) as
          (λ c. IsPiece (start_of (ends ++ length (words ++ m) ∷ []) k) (at (ends ++ length (words ++ m) ∷ []) k) (length (words ++ m))) [
            | inl below ↦
                let old = is.pieces k below in
                let starts = start-ends ends words m k (omega arith) in
                let stops = at-ends_before ends words m k below in
                let many = length-append words m in
                record { rises = omega arith; short = omega arith; within = omega arith }
            | inr past ↦
                let is_last : k ≡ length ends = omega (arith, length-append ends (length (words ++ m) ∷ [])) in
                let starts = start-ends ends words m k (omega arith) ∙ ap (start_of ends) is_last ∙ is.last in
                let stops = ap (at (ends ++ length (words ++ m) ∷ [])) is_last ∙ at-ends_new ends words m in
                let many = length-append words m in
                record { rises = omega arith; short = omega arith; within = omega arith }
          ];
      last = ap (start_of (ends ++ length (words ++ m) ∷ [])) more ∙ at-ends_new ends words m;
    }

pub messages_of-push_two :
    (ends words x y : List ℕ) → AreEnds ends words →
    messages_of (ends ++ length ((words ++ x) ++ y) ∷ []) ((words ++ x) ++ y) ≡ messages_of ends words ++ (x ++ y) ∷ []
messages_of-push_two ends words x y is =
    ap (λ w. messages_of (ends ++ length w ∷ []) w) (append_assoc words x y) ∙ messages_of-push ends words (x ++ y) is

pub AreEnds-none : AreEnds [] []
AreEnds-none = record { pieces = λ k h. absurd (omega arith); last = refl }

pub ruleset pushed = (messages_of-push, messages_of-push_two, length-append, AreEnds-push)

pub ruleset counted = (length-messages_of, length-append)

pub ruleset found = (slice_get-messages_of, slice_get-messages_of_past)
