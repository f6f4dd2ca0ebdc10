-- What is written of a share file is read as that file.
use Rattle.std.proofs.Common.{◌≡◌, ℕ, suc, ◌≤◌, All, arith, List, [], ◌∷◌, ◌++◌, map, length, Some, Ok, refl, ap, sym, ◌∙◌, eq-eqb, le-ltb}
use Rattle.std.proofs.lemmas.List.{append_assoc, append-nil}
use Rattle.std.proofs.lemmas.Str.{utf8_valid_len-IsUtf8}
use Rattle.std.specs.Str.{IsUtf8}
use Rattle.std.specs.Str.Lossy.{utf8_valid_len}
use Rattle.serde_json.specs.Read.{read}
use Rattle.serde_json.specs.View.{items_of}
use Rattle.proto_core.specs.declared.party.Number.{Number}
use Rattle.proto_core.specs.declared.party.Number.TheVariants.{One, Two, Three}
use Rattle.proto_core.specs.Parties.{count_of as number_of}
use Rattle.value_file.specs.Json.{json_of, text_of}
use Rattle.value_file.specs.Values.{type_of, count_of, size_of, number_in}
use Rattle.value_file.specs.Public.{number_data}
use Rattle.value_file.specs.Input.{domain_of, new_name, entries_after, inputs_in, within_limit, AreEntries}
use Rattle.value_file.proofs.RoundTrip.{all_in-map, value_of-data, shape_of-data, type_of-data}
use Rattle.input_share.specs.declared.entry.Part.{Part}
use Rattle.input_share.specs.declared.entry.Part.TheVariants.{Public, Private}
use Rattle.input_share.specs.declared.entry.ShareEntry.{ShareEntry}
use Rattle.input_share.specs.ShareFile.{MinerFile}
use Rattle.input_share.specs.OfWords.{IsPartOfWords}
use Rattle.input_share.specs.Values.{shared_size}
use Rattle.input_share.specs.Written.{part_data, entry_data, file_data}
use Rattle.input_share.specs.Reading.{share_entry_of, share_name_of, part_count, wanted_miner, file_in, read_share_of}
use Rattle.input_share.specs.Reading.{share_count_of, IsWhole, IsWholePart, AreWritable}
use Rattle.input_share.proofs.Elements.{held_words}

-- an entry
entry_of-data : (place : ℕ) (earlier : List (List ℕ)) (name : List ℕ) (p : Part) → new_name earlier name ≡ Some name → IsWholePart p → part_count p ≤ 65536
    → IsPartOfWords p → share_entry_of place earlier (part_data name p) ≡ Ok (record { name = name; part = p })
unfolding share_entry_of within_limit domain_of
entry_of-data place earlier name (Public v) fresh whole short words =
    rw (fresh, type_of-data (type_of v), value_of-data v (held_words v words), le-ltb 65536 (count_of v) short) refl
entry_of-data place earlier name (Private s) fresh whole short words =
    let same = eq-eqb (length s.words) (shared_size s.data_type (size_of s.shape)) whole in
    rw (
      fresh,
      type_of-data s.data_type,
      shape_of-data s.shape,
      all_in-map number_in number_data (λ n. refl) s.words,
      same,
      le-ltb 65536 (size_of s.shape) short,
    ) refl

-- the entries after those that were read before
entries_after-data : (before es : List ShareEntry) → AreEntries share_name_of share_count_of before es → All IsWhole es
    → All (λ e. IsPartOfWords e.part) es → entries_after share_entry_of share_name_of before (items_of (map entry_data es)) ≡ Ok (before ++ es)
entries_after-data before [] good whole words = ap Ok (sym (append-nil before))
entries_after-data before (e ∷ es) good whole words =
    let here = entry_of-data (length before) (map share_name_of before) e.name e.part good.0.fresh (whole 0 e (omega arith)) good.0.short
    (words 0 e (omega arith)) in
    rw here (entries_after-data (before ++ e ∷ []) es good.1 (λ k d h. whole (suc k) d (omega arith)) (λ k d h. words (suc k) d (omega arith))
    ∙ ap Ok (append_assoc before (e ∷ []) es))

-- the miner's number
wanted_miner-own : (m : Number) → wanted_miner (number_of m) (number_of m) ≡ Some m
wanted_miner-own One = refl
wanted_miner-own Two = refl
wanted_miner-own Three = refl

file_in-data : (f : MinerFile) → length f.lens ≡ 4 → AreWritable f.entries → All (λ e. IsPartOfWords e.part) f.entries
    → file_in (number_of f.miner) (file_data f) ≡ Ok f
unfolding file_in inputs_in
file_in-data f four good words =
    let same = eq-eqb (length f.lens) 4 four in
    rw (entries_after-data [] f.entries good.form good.whole words, all_in-map number_in number_data (λ n. refl) f.lens, same, wanted_miner-own f.miner) refl

-- a share file
pub read_share_of-written : (bytes : List ℕ) (f : MinerFile) → IsUtf8 bytes → read bytes ≡ Some (file_data f) → length f.lens ≡ 4 → AreWritable f.entries
    → All (λ e. IsPartOfWords e.part) f.entries → read_share_of (number_of f.miner) bytes ≡ Ok f
unfolding read_share_of json_of text_of
read_share_of-written bytes f text found four good words =
    let whole = eq-eqb (utf8_valid_len bytes) (length bytes) (utf8_valid_len-IsUtf8 bytes text) in
    rw (whole, found) (file_in-data f four good words)
