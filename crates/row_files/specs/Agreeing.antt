-- When what came out is what a row says.
use Rattle.std.specs.Prelude.{ℕ, List, [], Bool, ◌&&◌, ◌==◌, codes}
use Rattle.std.specs.Str.{bytes_eq}
use Rattle.outside.specs.MemFiles.{files_in}
use Rattle.outside.specs.MemLinks.{links_sent}
use Rattle.outside.specs.MemSink.{bytes_in}
use Rattle.outside.specs.MemSpawner.{calls_in}
use Rattle.row_files.specs.Calls.{calls_told}
use Rattle.row_files.specs.Texts.{bytes_said, files_fit}
use Rattle.row_files.specs.declared.compared.Outcome.{Outcome}
use Rattle.row_files.specs.declared.row.Kind.{Kind}
use Rattle.row_files.specs.declared.row.Kind.TheVariants.{Out, Err, Sent, Calls}
use Rattle.row_files.specs.declared.row.Row.{Row}

-- whether these bytes are those that the row says
abbrev pub is_said : Row → Kind → List ℕ → List ℕ → Bool
is_said row kind name bytes = bytes_eq (bytes_said row.texts.items kind name) bytes

-- whether a peer was sent what the row says of it
abbrev pub is_sent : Row → Outcome → ℕ → List ℕ → Bool
is_sent row outcome peer name = is_said row Sent name (links_sent outcome.links peer)

-- whether the calls of children are those that the row says
abbrev pub are_called : Row → Outcome → Bool
are_called row outcome = is_said row Calls [] (calls_told (calls_in outcome.children))

-- whether the status, the output, the error stream, the files, what was sent and the calls of children are those that the row says
abbrev pub agrees : Row → Outcome → Bool
agrees row outcome =
    outcome.status == row.status
    && is_said row Out [] (bytes_in outcome.out)
    && is_said row Err [] (bytes_in outcome.err)
    && files_fit row.texts.items (files_in outcome.files)
    && is_sent row outcome 1 (codes "1")
    && is_sent row outcome 2 (codes "2")
    && is_sent row outcome 3 (codes "3")
    && are_called row outcome
