-- What is the first line of a text that is no line of an opening.
use Rattle.std.specs.Prelude.{◌≡◌, ℕ, ◌+◌, ◌<◌, List, [], ◌∷◌, ◌++◌, length}
use Rattle.sc_text.specs.declared.elements.Element.{Element}
use Rattle.view_text.specs.View.{AreElements, AreOpened}
use Rattle.view_reader.specs.Opened.{opened_bytes}

-- openings stand before it, and after them is something that begins with no line of an opening
pub record IsFirstWrong (bytes : List ℕ) (number : ℕ) : Type 0 where
  pub before : List (List Element)
  pub rest : List ℕ
  pub cut : bytes ≡ opened_bytes before ++ rest
  pub good : AreOpened before
  pub counted : number ≡ length before + 1
  pub not_over : 0 < length rest
  pub no_opening : (opening : List Element) (more : List ℕ) → AreElements opening → rest ≡ opened_bytes (opening ∷ []) ++ more → ⊥
