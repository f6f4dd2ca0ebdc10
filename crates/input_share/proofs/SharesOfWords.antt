-- A share file that is read may stand in a file, and its public numbers and its share words are words of 64 bits.
use Rattle.std.proofs.Common.{◌≡◌, ◌==◌, ℕ, List, All, length, codes, None, Some, Ok, subst}
use Rattle.std.specs.Prelude.{nat_lt, IfSome, IfOk, ⊤}
use Rattle.std.specs.Option.{ok_or}
use Rattle.std.proofs.lemmas.Bool.{eqb-true, ltb-false}
use Rattle.serde_json.specs.Data.{Data}
use Rattle.value_file.specs.declared.value.DataType.{DataType}
use Rattle.value_file.specs.declared.value.Domain.{Domain}
use Rattle.value_file.specs.declared.value.Domain.TheVariants as domains
use Rattle.value_file.specs.declared.value.Shape.{Shape}
use Rattle.value_file.specs.declared.read_err.Field.TheVariants as field
use Rattle.value_file.specs.declared.read_err.ReadErr.TheVariants.{Syntax, BadField, TooLong}
use Rattle.value_file.specs.Input.{field_or, head_of, inputs_in, value_in, within_limit}
use Rattle.value_file.specs.Json.{json_of, list_in}
use Rattle.value_file.specs.PublicFile.{shape_in}
use Rattle.value_file.specs.Values.{all_in, number_in, size_of}
use Rattle.input_share.specs.declared.entry.Part.{Part}
use Rattle.input_share.specs.declared.entry.Part.TheVariants.{Public}
use Rattle.input_share.specs.declared.entry.ShareEntry.{ShareEntry}
use Rattle.input_share.specs.OfWords.{IsOfWords, IsPartOfWords, AreSharesRead}
use Rattle.input_share.specs.Reading.{file_in, lens_in, miner_in, numbers_in, of_length, part_count, part_of, private_part_of, read_share_of}
use Rattle.input_share.specs.Reading.{share_count_of, share_entry_of, share_in, share_name_of, IsWholePart}
use Rattle.input_share.specs.ShareFile.{MinerFile}
use Rattle.input_share.specs.Values.{shared_size}
use Rattle.input_share.proofs.OfWords.{AreSmall, SmallItems, IsBelow, IsFresh, IsGood, AreGood, any, if_both, if_then, ok_then, ok_else, found_ok}
use Rattle.input_share.proofs.OfWords.{all_small, data_small, field_small, head_so, inputs_so, list_small}

-- ---- parts

abbrev IsShare : DataType → Shape → List ℕ → Type 0
IsShare kind shape words = (length words ≡ shared_size kind (size_of shape)) × All IsBelow words

of_length_so : (count : ℕ) (words : List ℕ) → All IsBelow words → IfSome (of_length count words) (λ ws. (length ws ≡ count) × All IsBelow ws)
of_length_so count words all =
    if_both (λ ws. (length ws ≡ count) × All IsBelow ws) (length words == count) (Some words) None (λ h. (eqb-true (length words) count h, all)) tt

share_so : (kind : DataType) (shape : Shape) (d : Data) → AreSmall d → IfSome (share_in kind shape d) (IsShare kind shape)
share_so kind shape d small =
    if_then (All IsBelow) (IsShare kind shape) (of_length (shared_size kind (size_of shape))) (numbers_in (codes "share") d)
    (if_then SmallItems (All IsBelow) (all_in number_in) (list_in (codes "share") d) (list_small (codes "share") d small) all_small)
    (of_length_so (shared_size kind (size_of shape)))

abbrev IsGoodPart : Part → Type 0
IsGoodPart part = IsWholePart part × IsPartOfWords part

private_so : (place : ℕ) (kind : DataType) (d : Data) → AreSmall d → IfOk (private_part_of place kind d) IsGoodPart
private_so place kind d small =
    ok_then (λ _. ⊤) IsGoodPart (field_or place field.Shape (shape_in d)) _
    (found_ok (λ _. ⊤) (BadField (Some place) field.Shape) (shape_in d) (any (shape_in d)))
    (λ shape _.
    ok_then (IsShare kind shape) IsGoodPart (field_or place field.Share (share_in kind shape d)) _
    (found_ok (IsShare kind shape) (BadField (Some place) field.Share) (share_in kind shape d) (share_so kind shape d small))
    (λ words is. is))

part_so : (place : ℕ) (domain : Domain) (kind : DataType) (d : Data) → AreSmall d → IfOk (part_of place domain kind d) IsGoodPart
part_so place domains.Public kind d small =
    ok_then IsOfWords IsGoodPart (field_or place field.Value (value_in kind d)) (λ value. Ok (Public value))
    (found_ok IsOfWords (BadField (Some place) field.Value) (value_in kind d) (field_small kind d small))
    (λ value words. (tt, words))
part_so place domains.Private kind d small = private_so place kind d small

-- ---- entries

abbrev HasGoodPart : ShareEntry → Type 0
HasGoodPart entry = IsGoodPart entry.part

abbrev IsGoodShare : List (List ℕ) → ShareEntry → Type 0
IsGoodShare = IsGood share_entry_of share_name_of share_count_of HasGoodPart

entry_so : (place : ℕ) (earlier : List (List ℕ)) (d : Data) → AreSmall d → IfOk (share_entry_of place earlier d) (IsGoodShare earlier)
unfolding share_entry_of within_limit
entry_so place earlier d small =
    ok_then (λ head. IsFresh earlier head.name) (IsGoodShare earlier) (head_of place earlier d) _ (head_so place earlier d)
    (λ head fresh.
    ok_then IsGoodPart (IsGoodShare earlier) (part_of place head.domain head.data_type d) _ (part_so place head.domain head.data_type d small)
    (λ part good.
    ok_else (IsGoodShare earlier) (nat_lt 65536 (part_count part)) (TooLong place) (record { name = head.name; part = part })
    (λ h. (record { fresh = fresh; short = ltb-false 65536 (part_count part) h }, good))))

-- ---- the file

abbrev AreGoodShares : List ShareEntry → Type 0
AreGoodShares = AreGood share_entry_of share_name_of share_count_of HasGoodPart

read_so : (entries : List ShareEntry) → AreGoodShares entries → AreSharesRead entries
read_so entries are = record {
  form = record { form = are.0; whole = λ k d l. (are.1 k d l).0 };
  words = λ k d l. (are.1 k d l).1;
}

abbrev IsReadFile : MinerFile → Type 0
IsReadFile file = AreSharesRead file.entries

file_so : (wanted : ℕ) (d : Data) → AreSmall d → IfOk (file_in wanted d) IsReadFile
unfolding file_in
file_so wanted d small =
    ok_then AreGoodShares IsReadFile (inputs_in share_entry_of share_name_of d) _
    (inputs_so share_entry_of share_name_of share_count_of HasGoodPart entry_so d small)
    (λ entries are.
    ok_then (λ _. ⊤) IsReadFile (ok_or (lens_in d) (BadField None field.Lens)) _
    (found_ok (λ _. ⊤) (BadField None field.Lens) (lens_in d) (any (lens_in d)))
    (λ lens _.
    ok_then (λ _. ⊤) IsReadFile (ok_or (miner_in wanted d) (BadField None field.Miner)) _
    (found_ok (λ _. ⊤) (BadField None field.Miner) (miner_in wanted d) (any (miner_in wanted d)))
    (λ miner _. read_so entries are)))

pub share_read_of_words : (wanted : ℕ) (bytes : List ℕ) (file : MinerFile) → read_share_of wanted bytes ≡ Ok file → AreSharesRead file.entries
unfolding read_share_of
share_read_of_words wanted bytes file is =
    subst (λ r. IfOk r IsReadFile) is
    (ok_then AreSmall IsReadFile (ok_or (json_of bytes) Syntax) (file_in wanted) (found_ok AreSmall Syntax (json_of bytes) (data_small bytes)) (file_so wanted))
