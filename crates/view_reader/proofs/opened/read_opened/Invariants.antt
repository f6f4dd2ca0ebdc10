use Rattle.std.proofs.Common.{◌≡◌, ◌+◌}
use Rattle.view_reader.specs.Opened.{openings_from, opened_of}
use Rattle.view_reader.proofs.OpenedRead.{behind, left_from}
use Rattle.view_reader.proofs.opened.read_opened.Given as goal

abbrev pub invariant-loop-index : goal.invariant-loop-index
invariant-loop-index l = opened_of l.bytes ≡ behind l.opened.items (openings_from (l.index + 1) (left_from l.index l.lines l.rest.now))
