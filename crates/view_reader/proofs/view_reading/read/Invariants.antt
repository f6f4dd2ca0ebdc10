use Rattle.std.proofs.Common.{◌≡◌, ◌+◌}
use Rattle.view_text.specs.Reading.{read_from, read_view_of}
use Rattle.view_reader.proofs.OpenedRead.{left_from}
use Rattle.view_reader.proofs.view_reading.read.Given as goal

abbrev pub invariant-loop-index : goal.invariant-loop-index
invariant-loop-index l = read_view_of l.bytes ≡ read_from (l.index + 1) l.reading (left_from l.index l.lines l.rest.now)
