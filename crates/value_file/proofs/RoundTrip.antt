-- What is written of a public part is read as that part.
use Rattle.std.proofs.Common.{◌≡◌, ℕ, suc, ◌<◌, ◌≤◌, ◌^◌, All, Bool, true, false, List, [], ◌∷◌, ◌++◌, map, length, Option, Some, Ok, option_and_then}
use Rattle.std.proofs.Common.{refl, ap, sym, ◌∙◌, eq-eqb, le-ltb, arith}
use Rattle.std.specs.Prelude.{nat_lt}
use Rattle.std.proofs.Math.Nat.{max-le}
use Rattle.std.proofs.lemmas.List.{append_assoc, append-nil}
use Rattle.std.proofs.lemmas.Str.{utf8_valid_len-IsUtf8}
use Rattle.std.specs.Str.{IsUtf8}
use Rattle.std.specs.Str.Lossy.{utf8_valid_len}
use Rattle.serde_json.specs.Data.{Data, boolean, depth, items_depth}
use Rattle.serde_json.specs.Find.{as_bool, as_str}
use Rattle.serde_json.specs.Read.{read}
use Rattle.serde_json.specs.View.{items_of}
use Rattle.value_file.specs.declared.value.DataType.{DataType}
use Rattle.value_file.specs.declared.value.DataType.TheVariants as data_type
use Rattle.value_file.specs.declared.value.Shape.{Shape}
use Rattle.value_file.specs.declared.value.Shape.TheVariants as shape
use Rattle.value_file.specs.declared.value.Value.{Value}
use Rattle.value_file.specs.declared.value.Value.TheVariants.{Number, Integer, Truth, Numbers, Integers, Truths}
use Rattle.value_file.specs.declared.public.PublicValue.{PublicValue}
use Rattle.value_file.specs.declared.public.PublicValue.TheVariants.{Known, Hidden}
use Rattle.value_file.specs.declared.public.PublicEntry.{PublicEntry}
use Rattle.value_file.specs.Json.{json_of, text_of}
use Rattle.value_file.specs.Values.{type_of, count_of, size_of, all_in, integer_in, number_in, value_of, HoldsWords}
use Rattle.value_file.specs.Public.{ShowsWords, number_data, integer_data, value_data, shape_data, type_data, entry_data, entry_data_of, part_data}
use Rattle.value_file.specs.Input.{AreEntries, data_type_of, domain_of, new_name, entries_after, inputs_in, within_limit}
use Rattle.value_file.specs.PublicFile.{public_entry_of, public_name_of, public_elements_of, public_count, read_public_of}
use Rattle.value_file.specs.PublicFile.{shape_from, IsWritable}

-- the elements of an array
pub all_in-map : {A : Type 0} (one : Data → Option A) (f : A → Data) → ((x : A) → one (f x) ≡ Some x) → (xs : List A)
    → all_in one (items_of (map f xs)) ≡ Some xs
all_in-map one f good [] = refl
all_in-map one f good (x ∷ xs) = rw (good x, all_in-map one f good xs) refl

-- the same, where each of them is good
all_in-where : {A : Type 0} (one : Data → Option A) (f : A → Data) (P : A → Type 0) → ((x : A) → P x → one (f x) ≡ Some x) → (xs : List A) → All P xs
    → all_in one (items_of (map f xs)) ≡ Some xs
all_in-where one f P good [] all = refl
all_in-where one f P good (x ∷ xs) all =
    rw (good x (all 0 x (omega arith)), all_in-where one f P good xs (λ k d h. all (suc k) d (omega (arith, h)))) refl

-- a number with a sign, by its word
pub integer_in-data : (x : ℕ) → x < 2 ^ 64 → integer_in (integer_data x) ≡ Some x
integer_in-data x h = go (nat_lt x (2 ^ 63)) refl
  where
    go : (b : Bool) → nat_lt x (2 ^ 63) ≡ b → integer_in (integer_data x) ≡ Some x
    go true e = rw (e, e) refl
    go false e = rw e (ap Some (omega (arith, h)))

pub value_of-data : (v : Value) → HoldsWords v → value_of (type_of v) (value_data v) ≡ Some v
value_of-data (Number n) words = refl
value_of-data (Integer x) words = rw (integer_in-data x words) refl
value_of-data (Truth b) words = refl
value_of-data (Numbers ns) words = rw (all_in-map number_in number_data (λ n. refl) ns) refl
value_of-data (Integers xs) words = rw (all_in-where integer_in integer_data (λ x. x < 2 ^ 64) integer_in-data xs words) refl
value_of-data (Truths bs) words = rw (all_in-map as_bool boolean (λ b. refl) bs) refl

pub shape_of-data : (s : Shape) → shape_from (as_str (shape_data s)) (shape_data s) ≡ Some s
shape_of-data shape.Scalar = refl
shape_of-data (shape.Array count) = refl

pub type_of-data : (kind : DataType) → option_and_then data_type_of (as_str (type_data kind)) ≡ Some kind
unfolding data_type_of
type_of-data data_type.Uint64 = refl
type_of-data data_type.Int64 = refl
type_of-data data_type.Bool = refl

-- an entry
entry_of-data : (place : ℕ) (earlier : List (List ℕ)) (name : List ℕ) (v : PublicValue) → new_name earlier name ≡ Some name → public_count v ≤ 65536
    → ShowsWords v → public_entry_of place earlier (entry_data_of name v) ≡ Ok (record { name = name; value = v })
unfolding public_entry_of within_limit domain_of
entry_of-data place earlier name (Known v) fresh short words =
    rw (fresh, type_of-data (type_of v), value_of-data v words, le-ltb 65536 (count_of v) short) refl
entry_of-data place earlier name (Hidden kind s) fresh short words = rw (fresh, type_of-data kind, shape_of-data s, le-ltb 65536 (size_of s) short) refl

-- the entries after those that were read before
entries_after-data : (before es : List PublicEntry) → AreEntries public_name_of public_elements_of before es → All (λ e. ShowsWords e.value) es
    → entries_after public_entry_of public_name_of before (items_of (map entry_data es)) ≡ Ok (before ++ es)
entries_after-data before [] good words = ap Ok (sym (append-nil before))
entries_after-data before (e ∷ es) good words =
    let here = entry_of-data (length before) (map public_name_of before) e.name e.value good.0.fresh good.0.short (words 0 e (omega arith)) in
    rw here (entries_after-data (before ++ e ∷ []) es good.1 (λ k d h. words (suc k) d (omega (arith, h))) ∙ ap Ok (append_assoc before (e ∷ []) es))

-- a public file
pub read_public_of-written : (bytes : List ℕ) (part : List PublicEntry) → IsUtf8 bytes → read bytes ≡ Some (part_data part) → IsWritable part
    → All (λ e. ShowsWords e.value) part → read_public_of bytes ≡ Ok part
unfolding read_public_of inputs_in json_of text_of
read_public_of-written bytes part text found good words =
    let whole = eq-eqb (utf8_valid_len bytes) (length bytes) (utf8_valid_len-IsUtf8 bytes text) in
    rw (whole, found) (entries_after-data [] part good words)

-- how deep the data nest
pub items_depth-map : {A : Type 0} (f : A → Data) (k : ℕ) → ((x : A) → depth (f x) ≤ k) → (xs : List A) → items_depth (items_of (map f xs)) ≤ k
items_depth-map f k low [] = omega arith
items_depth-map f k low (x ∷ xs) = max-le (low x) (items_depth-map f k low xs)

pub depth-value : (v : Value) → depth (value_data v) ≤ 1
depth-value (Number n) = omega arith
depth-value (Integer x) = omega arith
depth-value (Truth b) = omega arith
depth-value (Numbers ns) = let h = items_depth-map number_data 0 (λ n. omega arith) ns in omega arith
depth-value (Integers xs) = let h = items_depth-map integer_data 0 (λ x. omega arith) xs in omega arith
depth-value (Truths bs) = let h = items_depth-map boolean 0 (λ b. omega arith) bs in omega arith

pub depth-shape : (s : Shape) → depth (shape_data s) ≡ 0
depth-shape shape.Scalar = refl
depth-shape (shape.Array count) = refl

pub depth-type : (kind : DataType) → depth (type_data kind) ≡ 0
depth-type data_type.Uint64 = refl
depth-type data_type.Int64 = refl
depth-type data_type.Bool = refl

depth-entry : (name : List ℕ) (v : PublicValue) → depth (entry_data_of name v) ≤ 2
depth-entry name (Known v) = let h = depth-value v in let t = depth-type (type_of v) in omega arith
depth-entry name (Hidden kind s) = let h = depth-shape s in let t = depth-type kind in omega arith

pub depth-part : (part : List PublicEntry) → depth (part_data part) ≤ 127
depth-part part = let h = items_depth-map entry_data 2 (λ e. depth-entry e.name e.value) part in omega arith
