-- Cited by private functions alone: no contract of another crate rests on it.
-- How many bytes a piece takes.
use Rattle.std.specs.Prelude.{◌≡◌, ◌<◌, ◌≤◌, false, ℕ}
use Rattle.secrec_lexer.specs.declared.piece.Piece.{Piece}
use Rattle.secrec_lexer.specs.declared.piece.Piece.TheVariants.{End, Blank, Lexeme, Fault}
use Rattle.secrec_lexer.specs.Tokens.{is_end}

-- a piece lies within so many bytes, and takes some unless the text ends or is refused there
abbrev pub IsWithin : Piece → ℕ → Type 0
IsWithin End bytes = Unit {0}
IsWithin (Blank size) bytes = (0 < size) × (size ≤ bytes)
IsWithin (Lexeme kind size) bytes = (0 < size) × (size ≤ bytes) × (is_end kind ≡ false)
IsWithin (Fault fault before) bytes = before ≤ bytes
