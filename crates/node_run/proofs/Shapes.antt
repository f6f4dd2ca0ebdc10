-- The public part of a share file that may be written may be written.
use Rattle.std.proofs.Common.{◌≡◌, ◌≤◌, ℕ, List, [], ◌∷◌, ◌++◌, Some, map, refl, ap, subst, sym, ◌∙◌}
use Rattle.std.proofs.lemmas.List.{map-append}
use Rattle.input_share.specs.declared.entry.Part.{Part}
use Rattle.input_share.specs.declared.entry.Part.TheVariants.{Public, Private}
use Rattle.input_share.specs.declared.entry.ShareEntry.{ShareEntry}
use Rattle.input_share.specs.Reading.{part_count, share_count_of, share_name_of, AreWritable}
use Rattle.input_share.specs.Shapes.{known_entry, known_of, shapes_of}
use Rattle.value_file.specs.Input.{new_name, AreEntries, IsEntry}
use Rattle.value_file.specs.PublicFile.{public_count, public_elements_of, public_name_of, IsWritable}
use Rattle.value_file.specs.declared.public.PublicEntry.{PublicEntry}

count_known : (part : Part) → public_count (known_of part) ≡ part_count part
count_known (Public value) = refl
count_known (Private shared) = refl

names_known : (es : List ShareEntry) → map public_name_of (map known_entry es) ≡ map share_name_of es
names_known [] = refl
names_known (e ∷ es) = ap (λ (ns : List (List ℕ)). e.name ∷ ns) (names_known es)

shapes_from : (before es : List ShareEntry) → AreEntries share_name_of share_count_of before es
    → AreEntries public_name_of public_elements_of (map known_entry before) (map known_entry es)
shapes_from before [] good = tt
shapes_from before (e ∷ es) good = (
  record {
    fresh = subst (λ (ns : List (List ℕ)). new_name ns e.name ≡ Some e.name) (sym (names_known before)) good.0.fresh;
    short = subst (λ (n : ℕ). n ≤ 65536) (sym (count_known e.part)) good.0.short;
  },
  subst (λ (b : List PublicEntry). AreEntries public_name_of public_elements_of b (map known_entry es)) (map-append known_entry before (e ∷ []))
      (shapes_from (before ++ e ∷ []) es good.1),
)

pub writable_shapes : (es : List ShareEntry) → AreWritable es → IsWritable (shapes_of es)
writable_shapes es good = shapes_from [] es good.form
