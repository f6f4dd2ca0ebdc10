-- The text of a public part is read as that part: it is the text of data without floats, whose strings are UTF-8.
use Rattle.std.proofs.Common.{◌≡◌, ℕ, ◌-◌, ◌<◌, ◌≤◌, ◌^◌, ◌&&◌, not, zero, suc, All, List, [], ◌∷◌, ◌++◌, map, Bool, true, false, None, Some, Ok, option_map}
use Rattle.std.proofs.Common.{option_and_then}
use Rattle.std.proofs.Common.{negsuc, refl, ap, sym, ◌∙◌, arith}
use Rattle.std.specs.Prelude.{codes, nat_lt, if◌then◌else◌}
use Rattle.std.specs.List.{list_all, list_any}
use Rattle.std.specs.Str.{bytes_eq, IsAscii, IsUtf8}
use Rattle.std.proofs.Math.Nat.{max-le}
use Rattle.std.proofs.lemmas.List.{append-nil}
use Rattle.std.proofs.lemmas.Bool.{and_parts, ltb-false}
use Rattle.std.proofs.lemmas.Bool.Decides.{nat_tests}
use Rattle.std.proofs.lemmas.Fmt.{IsAscii-decimal, IsAscii-signed}
use Rattle.std.proofs.lemmas.Str.{IsUtf8-append, IsUtf8-from_ascii, IsUtf8-nil}
use Rattle.json.specs.Json as json
use Rattle.json.specs.Tree.{HasNumbers, ItemsHaveNumbers, json_tokens}
use Rattle.json.specs.Tree.{depth as json_depth, items_depth as json_items_depth}
use Rattle.json.proofs.Printed.Decimals.{IsNumber-decimal, IsNumber-signed_decimal}
use Rattle.json.proofs.Printed.Tokens.{tokens-print}
use Rattle.json.proofs.Printed.Trees.{ArePrintable-json_tokens, value-json_tokens}
use Rattle.json.proofs.Printed.Utf8.{IsUtf8-are_ascii, IsUtf8-boolean, IsUtf8-quoted}
use Rattle.serde_json.specs.Data.{Data, negative, number, array, boolean, string, object, Items, Members, no_members, member}
use Rattle.serde_json.specs.Read.{max_depth, read, of_json, of_items}
use Rattle.serde_json.specs.View.{items_of}
use Rattle.serde_json.specs.Written.{outline, items_outline, compact_text, items_text, members_text, comma_if}
use Rattle.serde_json.proofs.Numbers.{number_of-decimal, number_of-negative}
use Rattle.serde_json.proofs.Texts.{print-outline}
use Rattle.sc_text.specs.Name.{is_name, is_name_byte}
use Rattle.value_file.specs.declared.value.DataType.{DataType}
use Rattle.value_file.specs.declared.value.DataType.TheVariants as data_type
use Rattle.value_file.specs.declared.value.Shape.{Shape}
use Rattle.value_file.specs.declared.value.Shape.TheVariants as shape
use Rattle.value_file.specs.declared.value.Value.{Value}
use Rattle.value_file.specs.declared.value.Value.TheVariants.{Number, Integer, Truth, Numbers, Integers, Truths}
use Rattle.value_file.specs.declared.public.PublicValue.{PublicValue}
use Rattle.value_file.specs.declared.public.PublicValue.TheVariants.{Known, Hidden}
use Rattle.value_file.specs.declared.public.PublicEntry.{PublicEntry}
use Rattle.value_file.specs.Values.{type_of, size_of}
use Rattle.value_file.specs.Input.{AreEntries, new_name}
use Rattle.value_file.specs.Public.{number_data, integer_data, value_data, shape_data, type_data, entry_data, entry_data_of, part_data, part_bytes}
use Rattle.value_file.specs.PublicFile.{public_count, public_elements_of, public_name_of, read_public_of}
use Rattle.value_file.proofs.RoundTrip.{read_public_of-written}
use Rattle.input_share.specs.OfWords.{ArePublicRead, IsOfWords, IsShownOfWords}
use Rattle.input_share.proofs.Elements.{shown_words}

-- ---- DATA WHOSE TEXT IS READ AS THE DATA

-- nested at most k deep
record IsReadAgain (k : ℕ) (d : Data) : Type 0 where
  shallow : json_depth (outline d) ≤ k
  numbers : HasNumbers (outline d)
  same : of_json (outline d) ≡ Some d
  text : IsUtf8 (compact_text d)

number_again : (n : ℕ) → n < 2 ^ 64 → IsReadAgain 0 (number_data n)
number_again n h =
    record { shallow = omega arith; numbers = IsNumber-decimal n h; same = ap (option_map _) (number_of-decimal n h); text = IsUtf8-from_ascii _ (IsAscii-decimal n h) }

negative_again : (n : ℕ) → n < 2 ^ 63 → IsReadAgain 0 (number (negative (negsuc n)))
negative_again n h = record {
  shallow = omega arith;
  numbers = IsNumber-signed_decimal (negsuc n) h;
  same = ap (option_map _) (number_of-negative n h);
  text = IsUtf8-from_ascii _ (IsAscii-signed (negsuc n) h);
}

integer_again : (x : ℕ) → x < 2 ^ 64 → IsReadAgain 0 (integer_data x)
integer_again x h = go (nat_lt x (2 ^ 63)) refl
  where
    go : (b : Bool) → nat_lt x (2 ^ 63) ≡ b → IsReadAgain 0 (integer_data x)
    go true e = rw e (number_again x h)
    go false e = rw e (negative_again (2 ^ 64 - suc x) (let high = ltb-false x (2 ^ 63) e in omega (arith, h, high)))

truth_again : (b : Bool) → IsReadAgain 0 (boolean b)
truth_again b = record { shallow = omega arith; numbers = tt; same = refl; text = IsUtf8-boolean b }

string_again : (s : List ℕ) → IsUtf8 s → IsReadAgain 0 (string s)
string_again s h = record { shallow = omega arith; numbers = tt; same = refl; text = IsUtf8-quoted s h }

-- ---- lists

-- P of each
abbrev Every : {A : Type 0} → (A → Type 0) → List A → Type 0
Every P [] = Unit {0}
Every P (x ∷ xs) = P x × Every P xs

every : {A : Type 0} (P : A → Type 0) (xs : List A) → All P xs → Every P xs
every P [] h = tt
every P (x ∷ xs) h = (h 0 x (omega arith), every P xs (λ k d l. h (suc k) d (omega (arith, l))))

record AreReadAgain (k : ℕ) (ds : Items) : Type 0 where
  shallow : json_items_depth (items_outline ds) ≤ k
  numbers : ItemsHaveNumbers (items_outline ds)
  same : of_items (items_outline ds) ≡ Some ds
  text : (later : Bool) → IsUtf8 (items_text later ds)

comma_text : (later : Bool) → IsUtf8 (comma_if later)
comma_text true = IsUtf8-are_ascii (44 ∷ []) refl
comma_text false = IsUtf8-nil

items_again : {A : Type 0} (k : ℕ) (f : A → Data) (P : A → Type 0) → ((x : A) → P x → IsReadAgain k (f x)) → (xs : List A) → Every P xs
    → AreReadAgain k (items_of (map f xs))
items_again k f P good [] h = record { shallow = omega arith; numbers = tt; same = refl; text = λ later. IsUtf8-are_ascii (93 ∷ []) refl }
items_again k f P good (x ∷ xs) h =
    let one = good x h.0 in
    let more = items_again k f P good xs h.1 in
    record {
      shallow = max-le one.shallow more.shallow;
      numbers = (one.numbers, more.numbers);
      same = rw (one.same, more.same) refl;
      text = λ later. IsUtf8-append _ _ (comma_text later) (IsUtf8-append _ _ one.text (more.text true));
    }

array_again : (k : ℕ) (ds : Items) → AreReadAgain k ds → IsReadAgain (suc k) (array ds)
array_again k ds h = record {
  shallow = omega (arith, h.shallow);
  numbers = h.numbers;
  same = rw h.same refl;
  text = IsUtf8-append (91 ∷ []) _ (IsUtf8-are_ascii (91 ∷ []) refl) (h.text false);
}

-- ---- A PUBLIC PART

deeper : (d : Data) → IsReadAgain 0 d → IsReadAgain 1 d
deeper d h = record { shallow = omega (arith, h.shallow); numbers = h.numbers; same = h.same; text = h.text }

every_truth : (bs : List Bool) → Every (λ b. Unit {0}) bs
every_truth [] = tt
every_truth (b ∷ bs) = (tt, every_truth bs)

value_again : (v : Value) → IsOfWords v → IsReadAgain 1 (value_data v)
value_again (Number n) h = deeper _ (number_again n (h 0 0 (omega arith)))
value_again (Integer x) h = deeper _ (integer_again x (h 0 0 (omega arith)))
value_again (Truth b) h = deeper _ (truth_again b)
value_again (Numbers ns) h = array_again 0 _ (items_again 0 number_data (λ n. n < 2 ^ 64) number_again ns (every (λ n. n < 2 ^ 64) ns h))
value_again (Integers xs) h = array_again 0 _ (items_again 0 integer_data (λ x. x < 2 ^ 64) integer_again xs (every (λ x. x < 2 ^ 64) xs h))
value_again (Truths bs) h = array_again 0 _ (items_again 0 boolean (λ b. Unit {0}) (λ b t. truth_again b) bs (every_truth bs))

shape_again : (s : Shape) → size_of s ≤ 65536 → IsReadAgain 0 (shape_data s)
shape_again shape.Scalar h = string_again _ (IsUtf8-are_ascii _ refl)
shape_again (shape.Array count) h = number_again count (omega (arith, h))

type_again : (kind : DataType) → IsReadAgain 0 (type_data kind)
type_again data_type.Uint64 = string_again _ (IsUtf8-are_ascii _ refl)
type_again data_type.Int64 = string_again _ (IsUtf8-are_ascii _ refl)
type_again data_type.Bool = string_again _ (IsUtf8-are_ascii _ refl)

-- ---- members, whose keys are in order

record AreTexts (later : Bool) (ms : Members) : Type 0 where
  text : IsUtf8 (members_text later ms)

no_more : AreTexts true no_members
no_more = record { text = IsUtf8-are_ascii (125 ∷ []) refl }

one_more : {k : ℕ} {d : Data} {ms : Members} (later : Bool) (key : List ℕ) → IsUtf8 key → IsReadAgain k d → AreTexts true ms → AreTexts later (member key d ms)
one_more later key u h more = record {
  text = IsUtf8-append _ _ (comma_text later)
      (IsUtf8-append _ _ (IsUtf8-quoted key u) (IsUtf8-append (58 ∷ []) _ (IsUtf8-are_ascii (58 ∷ []) refl) (IsUtf8-append _ _ h.text more.text)));
}

object_text : {ms : Members} → AreTexts false ms → IsUtf8 (compact_text (object ms))
object_text h = IsUtf8-append (123 ∷ []) _ (IsUtf8-are_ascii (123 ∷ []) refl) h.text

entry_again : (name : List ℕ) (v : PublicValue) → IsUtf8 name → public_count v ≤ 65536 → IsShownOfWords v → IsReadAgain 2 (entry_data_of name v)
entry_again name (Known v) u short words =
    let kind = type_again (type_of v) in
    let value = value_again v words in
    let text = string_again name u in
    let public = string_again (codes "public") (IsUtf8-are_ascii _ refl) in
    record {
      shallow = omega (arith, kind.shallow, value.shallow);
      numbers = (tt, (tt, (kind.numbers, (value.numbers, tt))));
      same = rw (kind.same, value.same) refl;
      text = object_text (one_more false (codes "domain") (IsUtf8-are_ascii _ refl) public
          (one_more true (codes "name") (IsUtf8-are_ascii _ refl) text
          (one_more true (codes "type") (IsUtf8-are_ascii _ refl) kind
          (one_more true (codes "value") (IsUtf8-are_ascii _ refl) value no_more))));
    }
entry_again name (Hidden kind s) u short words =
    let shape = shape_again s short in
    let type = type_again kind in
    let text = string_again name u in
    let private = string_again (codes "private") (IsUtf8-are_ascii _ refl) in
    record {
      shallow = omega (arith, shape.shallow, type.shallow);
      numbers = (tt, (tt, (shape.numbers, (type.numbers, tt))));
      same = rw (shape.same, type.same) refl;
      text = object_text (one_more false (codes "domain") (IsUtf8-are_ascii _ refl) private
          (one_more true (codes "name") (IsUtf8-are_ascii _ refl) text
          (one_more true (codes "shape") (IsUtf8-are_ascii _ refl) shape
          (one_more true (codes "type") (IsUtf8-are_ascii _ refl) type no_more))));
    }

-- ---- names are text

name_byte_below : (byte : ℕ) → is_name_byte byte ≡ true → byte < 128
name_byte_below byte h = grind (arith, nat_tests)

are_ascii : (bytes : List ℕ) → list_all is_name_byte bytes ≡ true → IsAscii bytes
are_ascii [] h i = omega arith
are_ascii (byte ∷ more) h zero = name_byte_below byte (and_parts (is_name_byte byte) (list_all is_name_byte more) h).0
are_ascii (byte ∷ more) h (suc i) = are_ascii more (and_parts (is_name_byte byte) (list_all is_name_byte more) h).1 i

new_name_is_text : (earlier : List (List ℕ)) (name : List ℕ) → new_name earlier name ≡ Some name → IsUtf8 name
unfolding new_name is_name
new_name_is_text earlier name fresh = go (is_name name) refl
  where
    go : (b : Bool) → is_name name ≡ b → IsUtf8 name
    go true e = IsUtf8-from_ascii name (are_ascii name (and_parts _ _ e).1)
    go false e =
        let none : None ≡ Some name = ap (λ c. if c && not (list_any (bytes_eq name) earlier) then Some name else None) (sym e) ∙ fresh in
        cc

-- ---- the entries, and the file

record IsGood (e : PublicEntry) : Type 0 where
  name : IsUtf8 e.name
  short : public_count e.value ≤ 65536
  words : IsShownOfWords e.value

good_entries : (before part : List PublicEntry) → AreEntries public_name_of public_elements_of before part → Every (λ e. IsShownOfWords e.value) part
    → Every IsGood part
good_entries before [] form words = tt
good_entries before (e ∷ es) form words = (
  record { name = new_name_is_text (map public_name_of before) e.name form.0.fresh; short = form.0.short; words = words.0 },
  good_entries (before ++ e ∷ []) es form.1 words.1,
)

part_again : (part : List PublicEntry) → ArePublicRead part → IsReadAgain 4 (part_data part)
part_again part read =
    let entries = array_again 2 _ (items_again 2 entry_data IsGood (λ e h. entry_again e.name e.value h.name h.short h.words) part
    (good_entries [] part read.form (every (λ e. IsShownOfWords e.value) part read.words))) in
    record {
      shallow = omega (arith, entries.shallow);
      numbers = (entries.numbers, tt);
      same = rw entries.same refl;
      text = object_text (one_more false (codes "inputs") (IsUtf8-are_ascii _ refl) entries no_more);
    }

pub part_is_read_again : (part : List PublicEntry) → ArePublicRead part → read_public_of (part_bytes part) ≡ Ok part
unfolding part_bytes
part_is_read_again part good =
    let again = part_again part good in
    let j = outline (part_data part) in
    let whole : read (compact_text (part_data part)) ≡ Some (part_data part) =
    ap (λ text. read text) (sym (print-outline (part_data part)))
    ∙ ap (λ found. option_and_then of_json (option_and_then (λ p. json.if_last p.0 p.1) found))
    (ap (json.value max_depth) (tokens-print (json_tokens j) (ArePrintable-json_tokens j again.numbers) ∙ sym (append-nil (json_tokens j)))
    ∙ value-json_tokens j max_depth [] (omega (arith, again.shallow))) ∙ again.same in
    read_public_of-written (compact_text (part_data part)) part again.text whole good.form
    (λ k d h. shown_words _ (good.words k d h))
