-- What is the first line of a text that no view's text has there.
use Rattle.std.specs.Prelude.{◌≡◌, ℕ, ◌+◌, ◌==◌, false, List, [], ◌∷◌, ◌++◌, length}
use Rattle.view_text.specs.View.{View, IsView}
use Rattle.view_text.specs.Text.{view_bytes}

-- lines, each with a newline after it
abbrev pub ended_lines : List (List ℕ) → List ℕ
ended_lines [] = []
ended_lines (line ∷ lines) = line ++ 10 ∷ ended_lines lines

abbrev pub NoNewline : List ℕ → Type 0
NoNewline [] = Unit {0}
NoNewline (byte ∷ bytes) = ((byte == 10) ≡ false) × NoNewline bytes

abbrev pub NoNewlines : List (List ℕ) → Type 0
NoNewlines [] = Unit {0}
NoNewlines (line ∷ lines) = NoNewline line × NoNewlines lines

-- the text of some view begins so
pub record CanBegin (start : List ℕ) : Type 0 where
  pub view : View
  pub rest : List ℕ
  pub written : IsView view
  pub begins : view_bytes view ≡ start ++ rest

-- the lines before it begin the text of some view, and none with this line too; or this line has no end, and the text is no view's
pub record IsFirstWrong (bytes : List ℕ) (number : ℕ) : Type 0 where
  pub before : List (List ℕ)
  pub rest : List ℕ
  pub cut : bytes ≡ ended_lines before ++ rest
  pub lines : NoNewlines before
  pub counted : number ≡ length before + 1
  pub can_begin : CanBegin (ended_lines before)
  pub cannot_go_on : (line more : List ℕ) → NoNewline line → rest ≡ line ++ 10 ∷ more → CanBegin (ended_lines before ++ (line ++ 10 ∷ [])) → ⊥
  pub is_no_view : (v : View) → IsView v → view_bytes v ≡ bytes → ⊥
