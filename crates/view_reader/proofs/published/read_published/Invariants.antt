use Rattle.std.proofs.Common.{◌≡◌, ◌+◌}
use Rattle.view_reader.specs.Opened.{read_from}
use Rattle.view_reader.specs.Published.{publication_in, published_in}
use Rattle.view_reader.proofs.PublishedRead.{behind, left_from}
use Rattle.view_reader.proofs.published.read_published.Given as goal

abbrev pub invariant-loop-index : goal.invariant-loop-index
invariant-loop-index l =
    published_in l.bytes ≡ behind l.published.items (read_from publication_in (l.index + 1) (left_from l.index l.lines l.rest.now))
