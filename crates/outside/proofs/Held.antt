-- What a store held, file by file.
use Rattle.std.proofs.Common.{◌≡◌, ℕ, List, [], ◌∷◌, ◌++◌, map, refl, string_bytes}
use Rattle.std.proofs.lemmas.List.{map-append}
use Rattle.std.specs.Prelude.{String}
use Rattle.std.specs.declared.alloc.Global.{Global}
use Rattle.outside.specs.HeldFiles.{pair_of}
use Rattle.outside.specs.MemFile.{pairs_of}
use Rattle.outside.specs.declared.held_files.HeldFile.{HeldFile}
use Rattle.outside.specs.declared.mem_file.MemFile.{MemFile}

-- one more file was copied
pub held_more :
    (copies after : List HeldFile) (h : HeldFile) (done : List (String Global × MemFile)) (e : String Global × MemFile) →
    after ≡ copies ++ h ∷ [] → map pair_of copies ≡ pairs_of done → pair_of h ≡ (string_bytes e.0, e.1.bytes.items) →
    map pair_of after ≡ pairs_of (done ++ e ∷ [])
held_more copies after h done e is same one = rw (is, map-append, map-append, same, one) refl
