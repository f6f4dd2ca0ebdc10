-- A share file's data has no float and isn't deep.
use Rattle.std.proofs.Common.{◌≡◌, ℕ, ◌≤◌, List, false, refl, arith}
use Rattle.serde_json.specs.Data.{depth}
use Rattle.serde_json.specs.Written.{has_float}
use Rattle.value_file.specs.Public.{number_data}
use Rattle.value_file.specs.Values.{type_of}
use Rattle.value_file.proofs.Floats.{items_have_float-map, has_float-value, has_float-shape, has_float-type}
use Rattle.value_file.proofs.RoundTrip.{items_depth-map, depth-value, depth-shape, depth-type}
use Rattle.input_share.specs.declared.entry.Part.{Part}
use Rattle.input_share.specs.declared.entry.Part.TheVariants.{Public, Private}
use Rattle.input_share.specs.ShareFile.{MinerFile}
use Rattle.input_share.specs.Written.{part_data, entry_data, file_data}

part_no_float : (name : List ℕ) (p : Part) → has_float (part_data name p) ≡ false
part_no_float name (Public value) = rw (has_float-type (type_of value), has_float-value value) refl
part_no_float name (Private shared) =
    rw (has_float-shape shared.shape, items_have_float-map number_data (λ n. refl) shared.words, has_float-type shared.data_type) refl

part_flat : (name : List ℕ) (p : Part) → depth (part_data name p) ≤ 2
part_flat name (Public value) = let flat = depth-value value in let kind = depth-type (type_of value) in omega arith
part_flat name (Private shared) =
    let shape = depth-shape shared.shape in
    let kind = depth-type shared.data_type in
    let flat = items_depth-map number_data 0 (λ n. omega arith) shared.words in
    omega arith

pub file_no_float : (f : MinerFile) → has_float (file_data f) ≡ false
file_no_float f =
    rw (items_have_float-map entry_data (λ e. part_no_float e.name e.part) f.entries, items_have_float-map number_data (λ n. refl) f.lens) refl

pub file_flat : (f : MinerFile) → depth (file_data f) ≤ 4
file_flat f =
    let entries = items_depth-map entry_data 2 (λ e. part_flat e.name e.part) f.entries in
    let lens = items_depth-map number_data 0 (λ n. omega arith) f.lens in
    omega arith
