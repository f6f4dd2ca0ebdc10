-- The text of a miner's run: lines of the run's text, but the miner's own share of a value that is published to the client.
use Rattle.std.specs.Prelude.{ℕ, List, [], ◌∷◌, ◌++◌, codes}
use Rattle.std.specs.List.{flat_map}
use Rattle.program_trees.specs.declared.expression.DataType.{DataType}
use Rattle.program_trees.specs.declared.expression.DataType.TheVariants.{Uint64}
use Rattle.program_trees.specs.declared.expression.DataType.TheVariants as datatype
use Rattle.sc_text.specs.End.{end_line}
use Rattle.sc_text.specs.Event.{event_line}
use Rattle.view_text.specs.Text.{words_behind}
use Rattle.miner_text.specs.Shares.{ResultShare}
use Rattle.miner_text.specs.declared.line.MinerLine.{MinerLine}
use Rattle.miner_text.specs.declared.line.MinerLine.TheVariants as lines

abbrev pub type_word : DataType → List ℕ
type_word Uint64 = codes "uint64"
type_word datatype.Int64 = codes "int64"
type_word datatype.Bool = codes "bool"

abbrev pub count_of_type : DataType → ℕ → List ℕ
count_of_type Uint64 count = []
count_of_type datatype.Int64 count = []
count_of_type datatype.Bool count = count ∷ []

-- how many elements a share has, where its words don't tell
abbrev pub count_told : ResultShare → List ℕ
count_told s = count_of_type s.element s.count

-- the line of a share: its name, its type, how many truth values, and its words
unfoldable pub share_line : ResultShare → List ℕ
share_line s = codes "share " ++ s.name ++ codes " " ++ type_word s.element ++ words_behind (count_told s ++ s.words) ++ codes "\n"

-- a line, with its newline
unfoldable pub line_text : MinerLine → List ℕ
line_text (lines.Told event) = event_line event
line_text (lines.Share share) = share_line share
line_text (lines.Ended end) = end_line end

-- lines, one after the other
unfoldable pub text_of : List MinerLine → List ℕ
text_of ls = flat_map line_text ls
