-- Lines and columns.
use Rattle.std.specs.Prelude.{ℕ, ◌+◌, List, length, take, if◌then◌else◌}
use Rattle.std.specs.List.{count_by, after_last}
use Rattle.sc_text.specs.declared.span.Span.{Span}
use Rattle.secrec_lexer.specs.Bytes.{is_newline}

-- the place after these bytes: the line is one more than the newlines among them, the column one more than the bytes after the last newline
abbrev pub place_behind : List ℕ → Span
place_behind bytes = record { line = 1 + count_by is_newline bytes; column = 1 + length (after_last is_newline bytes) }

-- the line and the column of the byte at this offset of a text
unfoldable pub place_at : List ℕ → ℕ → Span
place_at text offset = place_behind (take offset text)

-- the place one byte further
abbrev pub next_place : Span → ℕ → Span
next_place place byte =
    if is_newline byte then record { line = place.line + 1; column = 1 }
    else record { line = place.line; column = place.column + 1 }
