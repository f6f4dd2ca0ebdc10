use Rattle.std.proofs.Common.{◌≡◌, ◌+◌}
use Rattle.miner_text.specs.Reading.{lines_from, read_of}
use Rattle.view_reader.proofs.LinesRead.{left_from}
use Rattle.miner_text.proofs.Walk.{behind}
use Rattle.miner_text.proofs.reading.read.Given as goal

abbrev pub invariant-loop-index : goal.invariant-loop-index
invariant-loop-index l = read_of l.bytes ≡ behind l.read.items (lines_from (l.index + 1) (left_from l.index l.lines l.rest.now))
