-- Cited by private functions alone: no contract of another crate rests on it.
-- Identifiers that are lent.
use Rattle.std.specs.Prelude.{ℕ, List}
use denote.Ref.{Bor}
use Rattle.program_trees.specs.declared.statement.Identifier.{Identifier}

abbrev pub identifier_at : Bor Identifier → Identifier
identifier_at x = x.now

abbrev pub text_at : Bor Identifier → List ℕ
text_at x = x.now.text
