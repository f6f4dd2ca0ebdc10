-- The lines of the text that a miner writes of its run.
use Rattle.std.specs.Prelude.{List, [], ◌∷◌, ◌++◌, map}
use Rattle.sc_text.specs.declared.end.End.{End}
use Rattle.sc_text.specs.declared.event.Event.TheVariants.{Open, Publish}
use Rattle.proto_core.specs.Strand.{Notice, Shown, Published, Handed}
use Rattle.code_runs.specs.Telling.{type_of, elements_told}
use Rattle.miner_text.specs.declared.line.MinerLine.{MinerLine}
use Rattle.miner_text.specs.declared.line.MinerLine.TheVariants as lines

abbrev pub line_told : Notice → MinerLine
line_told (Shown form words) = lines.Told (Open (elements_told form words))
line_told (Published name form words) = lines.Told (Publish name (elements_told form words))
line_told (Handed name form count words) = lines.Share (record { name = name; element = type_of form.element; count = count; words = words })

-- what it told, and then how the run ended
abbrev pub lines_told : List Notice → End → List MinerLine
lines_told notices end = map line_told notices ++ lines.Ended end ∷ []
