-- Cited by private functions alone: no contract of another crate rests on it.
-- A line that is put after others.
use Rattle.std.specs.Prelude.{◌≡◌, List, [], ◌∷◌, ◌++◌, Option, Some, None}
use Rattle.miner_text.specs.declared.line.MinerLine.{MinerLine}
use Rattle.miner_text.specs.declared.line.MinerLine.TheVariants as lines
use Rattle.miner_text.specs.declared.reading.Kind.{Kind}
use Rattle.miner_text.specs.declared.reading.Kind.TheVariants.{Wrong, Inner, Last}

abbrev pub kind_of : Option MinerLine → Kind
kind_of None = Wrong
kind_of (Some (lines.Told event)) = Inner
kind_of (Some (lines.Share share)) = Inner
kind_of (Some (lines.Ended end)) = Last

abbrev pub with_line : List MinerLine → Option MinerLine → List MinerLine
with_line old None = old
with_line old (Some line) = old ++ line ∷ []

-- the line, if it is one, stands after the others, and this is its kind
pub record Pushed (kind : Kind) (old new : List MinerLine) (line : Option MinerLine) : Type 0 where
  pub kind_is : kind ≡ kind_of line
  pub lines_are : new ≡ with_line old line
