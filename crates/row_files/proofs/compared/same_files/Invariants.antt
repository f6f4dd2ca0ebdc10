use Rattle.std.proofs.Common.{◌≡◌, take}
use Rattle.std.specs.List.{list_all}
use Rattle.outside.specs.MemFiles.{files_in}
use Rattle.row_files.specs.Texts.{fits_each}
use Rattle.row_files.proofs.compared.same_files.Given as goal

abbrev pub invariant-loop-index : goal.invariant-loop-index
invariant-loop-index l =
    l.all ≡ list_all (fits_each l.row.texts.items (files_in l.outcome.files)) (take l.index l.row.texts.items)
