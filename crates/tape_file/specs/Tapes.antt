-- The tapes of one run, as contracts see them.
use Rattle.std.specs.Prelude.{ℕ, ◌^◌, ◌<◌, ◌≤◌, List, [], ◌∷◌, length, All}

-- the words of the dealer's tape and of the tapes of miners 1, 2 and 3
pub record FourTapes : Type 0 where
  pub dealer : List ℕ
  pub one : List ℕ
  pub two : List ℕ
  pub three : List ℕ

-- the lengths of the tapes of the dealer and of miners 1, 2 and 3
abbrev pub lengths_of : FourTapes → List ℕ
lengths_of tapes = length tapes.dealer ∷ length tapes.one ∷ length tapes.two ∷ length tapes.three ∷ []

-- a word has 64 bits
abbrev pub IsWord : ℕ → Type 0
IsWord word = word < 2 ^ 64

-- a tape in a file has at most 16,777,216 words
abbrev pub IsShort : List ℕ → Type 0
IsShort tape = length tape ≤ 16777216

-- each of the four tapes may stand in a file
pub record AreShort (tapes : FourTapes) : Type 0 where
  pub dealer : IsShort tapes.dealer
  pub one : IsShort tapes.one
  pub two : IsShort tapes.two
  pub three : IsShort tapes.three

-- each word of the four tapes has 64 bits
pub record AreOfWords (tapes : FourTapes) : Type 0 where
  pub dealer : All IsWord tapes.dealer
  pub one : All IsWord tapes.one
  pub two : All IsWord tapes.two
  pub three : All IsWord tapes.three
