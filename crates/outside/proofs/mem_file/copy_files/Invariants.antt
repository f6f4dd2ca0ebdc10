use Rattle.std.proofs.Common.{◌≡◌, List, ◌++◌, map}
use Rattle.std.specs.Prelude.{String}
use Rattle.std.specs.declared.alloc.Global.{Global}
use Rattle.outside.specs.HeldFiles.{pair_of}
use Rattle.outside.specs.MemFile.{pairs_of}
use Rattle.outside.specs.declared.mem_file.MemFile.{MemFile}
use Rattle.outside.proofs.mem_file.copy_files.Given as goal

abbrev pub invariant-loop-path : goal.invariant-loop-path
invariant-loop-path l =
    (done : List (String Global × MemFile)) × (l.files.entries ≡ done ++ l.path-iterator) × (map pair_of l.copies.items ≡ pairs_of done)
