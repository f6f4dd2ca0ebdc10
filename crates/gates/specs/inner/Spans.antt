-- Cited by private functions alone: no contract of another crate rests on it.
-- Lists of words by number, each of them a span of one list.
use Rattle.std.specs.Prelude.{◌≡◌, ◌≢◌, ℕ, ◌+◌, ◌<◌, ◌≤◌, List, [], length, take, drop, set, Option, Some}
use Rattle.std.specs.List.{sum_by}
use Rattle.std.specs.Option.{option_map, unwrap_or, MatchOption}
use Rattle.std.specs.Ordering.{nat_cmp}
use Rattle.std.specs.Map.{lookup, values_of}
use Rattle.std.specs.BTreeMap.{is_at}
use Rattle.gates.specs.declared.span.Span.{Span}

-- which span has the words of a number
abbrev pub found : List (ℕ × Span) → ℕ → Option Span
found spans k = lookup (is_at (nat_cmp k)) spans

-- the words of a span
abbrev pub within : List ℕ → Span → List ℕ
within words span = take span.len (drop span.place words)

-- the words of a number, none where it has no span
abbrev pub words_at : List ℕ → (ℕ → Option Span) → ℕ → List ℕ
words_at words at k = unwrap_or (option_map (within words) (at k)) []

-- words, and which span of them a number has
abbrev pub Lists : Type 0
Lists = List ℕ × List (ℕ × Span)

abbrev pub list_at : Lists → ℕ → List ℕ
list_at lists k = words_at lists.0 (found lists.1) k

-- the word at this place is one of the span's
abbrev pub Covers : Span → ℕ → Type 0
Covers span i = (span.place ≤ i) × (i < span.place + span.len)

-- each span ends within the words, and no word is in two of them
pub record AreSpans (words : List ℕ) (at : ℕ → Option Span) : Type 0 where
  pub end : (k : ℕ) (span : Span) → at k ≡ Some span → span.place + span.len ≤ length words
  pub apart : (j k : ℕ) (a b : Span) (i : ℕ) → at j ≡ Some a → at k ≡ Some b → Covers a i → Covers b i → j ≡ k

-- how many words are in spans
abbrev pub live_words : List (ℕ × Span) → ℕ
live_words spans = sum_by (λ (span : Span). span.len) (values_of spans)

-- new has these words at a number, and else what old has
pub record HasPut (old new : ℕ → List ℕ) (number : ℕ) (words : List ℕ) : Type 0 where
  pub own : new number ≡ words
  pub others : (k : ℕ) → k ≢ number → new k ≡ old k

-- new has at a number what old has at another, with one word given anew, nothing at the other, and else what old has
pub record HasMoved (old new : ℕ → List ℕ) (from to index word : ℕ) : Type 0 where
  pub own : new to ≡ set (old from) index word
  pub emptied : new from ≡ []
  pub others : (k : ℕ) → k ≢ to → k ≢ from → new k ≡ old k

-- new has what old has but for the numbers that are left, at which it has nothing yet
abbrev pub HasAllBut : (old new : ℕ → List ℕ) → List (ℕ × Span) → Type 0
HasAllBut old new left = (q : ℕ) → MatchOption (found left q) (new q ≡ old q) (λ span. new q ≡ [])
