-- Elements that are read are words of 64 bits, and entries that are read may stand in a file.
use Rattle.std.proofs.Common.{◌≡◌, ◌<◌, ◌^◌, ℕ, List, [], ◌∷◌, ◌++◌, map, length, codes, Bool, true, false, not, ◌&&◌, ◌==◌, All, drop}
use Rattle.std.proofs.Common.{slice_index, refl, ap, subst, arith}
use Rattle.std.specs.Prelude.{ℤ, pos, zero, suc, neg_ℤ, nat_lt, nat_le, if◌then◌else◌, Option, Some, None, IfSome, option_map, option_and_then, Result, Ok, Err, IfOk, ⊤}
use Rattle.std.specs.Int.{w64, cast_unsigned}
use Rattle.std.specs.List.{list_any}
use Rattle.std.specs.Option.{ok_or}
use Rattle.std.proofs.Common.{Ordering, Less, Equal, Greater}
use Rattle.std.specs.Ordering.{match_ordering, nat_cmp}
use Rattle.std.specs.Cmp.Lexicographic.{slice_cmp}
use Rattle.std.specs.Float.{binary64, float_is_finite}
use Rattle.std.specs.Str.{bytes_eq}
use Rattle.std.proofs.lemmas.Bool.{ltb-true, ltb-false}
use Rattle.std.proofs.lemmas.List.Elements.{All-cons, All-map, All-nil, All-push}
use Rattle.fast_float.specs.Text.{Parts, scan, digits_of, minus, nearest, with_sign}
use Rattle.json.specs.Json as json
use Rattle.json.specs.Lex.{tokens}
use Rattle.sc_text.specs.Name.{is_name}
use Rattle.serde_json.specs.Data.{Num, unsigned, negative, float, Data, null, boolean, number, string, array, object, Items, no_items, item, Members}
use Rattle.serde_json.specs.Data.{no_members, member, put}
use Rattle.serde_json.specs.Find.{as_array, as_bool, as_i64, as_u64, get, get_member}
use Rattle.serde_json.specs.Read.{float_of, is_integer, max_depth, number_from, number_of, of_items, of_json, of_members, read}
use Rattle.value_file.specs.declared.value.DataType.{DataType}
use Rattle.value_file.specs.declared.value.DataType.TheVariants as data_type
use Rattle.value_file.specs.declared.value.Domain.{Domain}
use Rattle.value_file.specs.declared.value.Domain.TheVariants as domains
use Rattle.value_file.specs.declared.value.Value.TheVariants.{Number, Integer, Truth, Numbers, Integers, Truths}
use Rattle.value_file.specs.declared.inputs.Entry.{Entry}
use Rattle.value_file.specs.declared.public.PublicValue.TheVariants.{Known, Hidden}
use Rattle.value_file.specs.declared.public.PublicEntry.{PublicEntry}
use Rattle.value_file.specs.declared.read_err.Field.TheVariants as field
use Rattle.value_file.specs.declared.read_err.ReadErr.{ReadErr}
use Rattle.value_file.specs.declared.read_err.ReadErr.TheVariants.{Syntax, BadField, TooLong}
use Rattle.value_file.specs.Input.{AreEntries, IsEntry, ◌>>=◌, data_type_of, domain_of, elements_of, entries_after, entry_of, field_or, head_of}
use Rattle.value_file.specs.Input.{inputs_in, name_in, name_of, new_name, read_of, value_in, within_limit}
use Rattle.value_file.specs.Json.{json_of, list_in, text_in, text_of}
use Rattle.value_file.specs.PublicFile.{public_count, public_elements_of, public_entry_of, public_name_of, public_value_of}
use Rattle.value_file.specs.PublicFile.{read_public_of, shape_in}
use Rattle.value_file.specs.Values.{all_in, count_of, integer_in, joined, number_in, value_from, value_of}
use Rattle.input_share.specs.OfWords.{ArePublicRead, AreRead, IsOfWords, IsShownOfWords}
use Rattle.value_file.proofs.Forms.{AreEntries-push}
use Rattle.input_share.specs.Values.{bit_word}

-- ---- what holds of an answer, part by part

if_map : {A B : Type 0} (P : A → Type 0) (Q : B → Type 0) (f : A → B) (o : Option A) → IfSome o P → ((x : A) → P x → Q (f x))
    → IfSome (option_map f o) Q
if_map P Q f None h up = tt
if_map P Q f (Some x) h up = up x h

pub if_then : {A B : Type 0} (P : A → Type 0) (Q : B → Type 0) (f : A → Option B) (o : Option A) → IfSome o P → ((x : A) → P x → IfSome (f x) Q)
    → IfSome (option_and_then f o) Q
if_then P Q f None h up = tt
if_then P Q f (Some x) h up = up x h

pub any : {A : Type 0} (o : Option A) → IfSome o (λ _. ⊤)
any None = tt
any (Some x) = tt

pub if_both : {A : Type 0} (P : A → Type 0) (b : Bool) (x y : Option A) → (b ≡ true → IfSome x P) → IfSome y P → IfSome (if b then x else y) P
if_both P true x y h g = h refl
if_both P false x y h g = g

-- the same of results
pub ok_then : {A B : Type 0} (P : A → Type 0) (Q : B → Type 0) (r : Result A ReadErr) (f : A → Result B ReadErr) → IfOk r P
    → ((x : A) → P x → IfOk (f x) Q) → IfOk (r >>= f) Q
ok_then P Q (Ok x) f h up = up x h
ok_then P Q (Err e) f h up = tt

pub found_ok : {A : Type 0} (P : A → Type 0) (refusal : ReadErr) (o : Option A) → IfSome o P → IfOk (ok_or o refusal) P
found_ok P refusal (Some x) h = h
found_ok P refusal None h = tt

pub ok_else : {A : Type 0} (P : A → Type 0) (b : Bool) (refusal : ReadErr) (x : A) → (b ≡ false → P x) → IfOk (if b then Err refusal else Ok x) P
ok_else P true refusal x h = tt
ok_else P false refusal x h = h refl

-- ---- the numbers of data

abbrev IsSmall : Num → Type 0
IsSmall (unsigned n) = n < 2 ^ 64
IsSmall (negative z) = cast_unsigned w64 z < 2 ^ 64
IsSmall (float x) = ⊤

abbrev mutual
  pub AreSmall : Data → Type 0
  AreSmall null = ⊤
  AreSmall (boolean b) = ⊤
  AreSmall (number n) = IsSmall n
  AreSmall (string s) = ⊤
  AreSmall (array ds) = SmallItems ds
  AreSmall (object ms) = SmallMembers ms

  pub SmallItems : Items → Type 0
  SmallItems no_items = ⊤
  SmallItems (item d ds) = AreSmall d × SmallItems ds

  SmallMembers : Members → Type 0
  SmallMembers no_members = ⊤
  SmallMembers (member k d ms) = AreSmall d × SmallMembers ms

float_small : (sign : Bool) (p : Parts) → IfSome (float_of sign p) IsSmall
float_small sign p = if_both IsSmall (float_is_finite (nearest binary64 sign p)) (Some (float (nearest binary64 sign p))) None (λ _. tt) tt

below : (b : Bool) (n : ℕ) → (b && nat_lt n (2 ^ 64)) ≡ true → n < 2 ^ 64
below true n h = ltb-true n (2 ^ 64) h
below false n h = absurd cc

negative_small : (n : ℕ) → cast_unsigned w64 (with_sign true n) < 2 ^ 64
negative_small zero = omega arith
negative_small (suc n) = omega arith

from_small : (sign : Bool) (p : Parts) → IfSome (number_from sign p) IsSmall
from_small false p =
    if_both IsSmall (is_integer p && nat_lt (digits_of p) (2 ^ 64)) (Some (unsigned (digits_of p))) (float_of false p)
    (below (is_integer p) (digits_of p)) (float_small false p)
from_small true p =
    if_both IsSmall (is_integer p && nat_lt 0 (digits_of p) && nat_le (digits_of p) (2 ^ 63)) (Some (negative (with_sign true (digits_of p))))
    (float_of true p) (λ _. negative_small (digits_of p)) (float_small true p)

number_small : (s : List ℕ) → IfSome (number_of s) IsSmall
unfolding number_of
number_small s =
    if_both IsSmall (slice_index s 0 == minus) (number_from true (scan (drop 1 s))) (number_from false (scan s))
    (λ _. from_small true (scan (drop 1 s))) (from_small false (scan s))

-- ---- the data of a text

three : {A : Type 0} (P : A → Type 0) (o : Ordering) (x y z : A) → P x → P y → P z → P (match_ordering o x y z)
three P Less x y z h g k = h
three P Equal x y z h g k = g
three P Greater x y z h g k = k

put_small : (k : List ℕ) (d : Data) (ms : Members) → AreSmall d → SmallMembers ms → SmallMembers (put k d ms)
put_small k d no_members h all = (h, tt)
put_small k d (member l e ms) h all =
    three SmallMembers (slice_cmp nat_cmp k l) (member k d (member l e ms)) (member l d ms) (member l e (put k d ms))
    (h, all) (h, all.1) (all.0, put_small k d ms h all.1)

mutual
  json_small : (j : json.Json) → IfSome (of_json j) AreSmall
  json_small json.null = tt
  json_small (json.boolean b) = tt
  json_small (json.number s) = if_map IsSmall AreSmall number (number_of s) (number_small s) (λ n h. h)
  json_small (json.string s) = tt
  json_small (json.array js) = if_map SmallItems AreSmall array (of_items js) (items_small js) (λ ds h. h)
  json_small (json.object ms) = if_map SmallMembers AreSmall object (of_members ms no_members) (members_small ms no_members tt) (λ ms h. h)

  items_small : (js : json.Items) → IfSome (of_items js) SmallItems
  items_small json.no_items = tt
  items_small (json.item j js) =
      if_then AreSmall SmallItems (λ d. option_map (item d) (of_items js)) (of_json j) (json_small j)
      (λ d h. if_map SmallItems SmallItems (item d) (of_items js) (items_small js) (λ ds all. (h, all)))

  members_small : (ms : json.Members) (found : Members) → SmallMembers found → IfSome (of_members ms found) SmallMembers
  members_small json.no_members found all = all
  members_small (json.member k j ms) found all =
      if_then AreSmall SmallMembers (λ d. of_members ms (put k d found)) (of_json j) (json_small j)
      (λ d h. members_small ms (put k d found) (put_small k d found h all))

read_small : (o : Option json.Json) → IfSome (option_and_then of_json o) AreSmall
read_small None = tt
read_small (Some j) = json_small j

pub data_small : (bytes : List ℕ) → IfSome (json_of bytes) AreSmall
unfolding json_of
data_small bytes =
    if_then (λ _. ⊤) AreSmall read (text_of bytes) (any (text_of bytes))
    (λ text _. read_small (option_and_then (λ p. json.if_last p.0 p.1) (json.value max_depth (tokens text))))

-- ---- fields of an object

member_small : (k : List ℕ) (ms : Members) → SmallMembers ms → IfSome (get_member k ms) AreSmall
member_small k no_members all = tt
member_small k (member l e ms) all =
    three (λ (o : Option Data). IfSome o AreSmall) (slice_cmp nat_cmp k l) (get_member k ms) (Some e) (get_member k ms)
    (member_small k ms all.1) all.0 (member_small k ms all.1)

get_small : (k : List ℕ) (d : Data) → AreSmall d → IfSome (get k d) AreSmall
get_small k null h = tt
get_small k (boolean b) h = tt
get_small k (number n) h = tt
get_small k (string s) h = tt
get_small k (array ds) h = tt
get_small k (object ms) h = member_small k ms h

array_small : (d : Data) → AreSmall d → IfSome (as_array d) SmallItems
array_small null h = tt
array_small (boolean b) h = tt
array_small (number n) h = tt
array_small (string s) h = tt
array_small (array ds) h = h
array_small (object ms) h = tt

pub list_small : (k : List ℕ) (d : Data) → AreSmall d → IfSome (list_in k d) SmallItems
list_small k d h = if_then AreSmall SmallItems as_array (get k d) (get_small k d h) array_small

-- ---- values, each element as a word

abbrev pub IsBelow : ℕ → Type 0
IsBelow n = n < 2 ^ 64

u64_small : (n : Num) → IsSmall n → IfSome (as_u64 n) IsBelow
u64_small (unsigned n) h = h
u64_small (negative z) h = tt
u64_small (float x) h = tt

number_in_small : (d : Data) → AreSmall d → IfSome (number_in d) IsBelow
number_in_small null h = tt
number_in_small (boolean b) h = tt
number_in_small (number n) h = u64_small n h
number_in_small (string s) h = tt
number_in_small (array ds) h = tt
number_in_small (object ms) h = tt

i64_small : (n : Num) → IsSmall n → IfSome (as_i64 n) (λ z. cast_unsigned w64 z < 2 ^ 64)
i64_small (unsigned n) h = if_both (λ z. cast_unsigned w64 z < 2 ^ 64) (nat_lt n (2 ^ 63)) (Some (pos n)) None (λ _. h) tt
i64_small (negative z) h = h
i64_small (float x) h = tt

integer_in_small : (d : Data) → AreSmall d → IfSome (integer_in d) IsBelow
integer_in_small null h = tt
integer_in_small (boolean b) h = tt
integer_in_small (number n) h = if_map (λ z. cast_unsigned w64 z < 2 ^ 64) IsBelow (cast_unsigned w64) (as_i64 n) (i64_small n h) (λ z below. below)
integer_in_small (string s) h = tt
integer_in_small (array ds) h = tt
integer_in_small (object ms) h = tt

joined_small : (o : Option ℕ) (os : Option (List ℕ)) → IfSome o IsBelow → IfSome os (All IsBelow) → IfSome (joined o os) (All IsBelow)
joined_small (Some x) (Some xs) h all = All-cons IsBelow x xs h all
joined_small (Some x) None h all = tt
joined_small None os h all = tt

each_small : (one : Data → Option ℕ) → ((d : Data) → AreSmall d → IfSome (one d) IsBelow) → (ds : Items) → SmallItems ds
    → IfSome (all_in one ds) (All IsBelow)
each_small one small no_items all = All-nil IsBelow
each_small one small (item d ds) all = joined_small (one d) (all_in one ds) (small d all.0) (each_small one small ds all.1)

pub all_small : (ds : Items) → SmallItems ds → IfSome (all_in number_in ds) (All IsBelow)
all_small ds all = each_small number_in number_in_small ds all

bit_below : (b : Bool) → IsBelow (bit_word b)
bit_below true = omega arith
bit_below false = omega arith

one_below : (n : ℕ) → IsBelow n → All IsBelow (n ∷ [])
one_below n below = All-cons IsBelow n [] below (All-nil IsBelow)

numbers_small : (o : Option Items) (d : Data) → AreSmall d → IfSome o SmallItems → IfSome (value_from Number Numbers number_in o d) IsOfWords
numbers_small (Some ds) d h all = if_map (All IsBelow) IsOfWords Numbers (all_in number_in ds) (all_small ds all) (λ ns below. below)
numbers_small None d h all = if_map IsBelow IsOfWords Number (number_in d) (number_in_small d h) one_below

integers_small : (o : Option Items) (d : Data) → AreSmall d → IfSome o SmallItems → IfSome (value_from Integer Integers integer_in o d) IsOfWords
integers_small (Some ds) d h all =
    if_map (All IsBelow) IsOfWords Integers (all_in integer_in ds) (each_small integer_in integer_in_small ds all) (λ xs below. below)
integers_small None d h all = if_map IsBelow IsOfWords Integer (integer_in d) (integer_in_small d h) one_below

truths_small : (o : Option Items) (d : Data) → IfSome (value_from Truth Truths as_bool o d) IsOfWords
truths_small (Some ds) d =
    if_map (λ _. ⊤) IsOfWords Truths (all_in as_bool ds) (any (all_in as_bool ds)) (λ bs _. All-map IsBelow bit_word bs (λ k d lt. bit_below _))
truths_small None d = if_map (λ _. ⊤) IsOfWords Truth (as_bool d) (any (as_bool d)) (λ b _. one_below (bit_word b) (bit_below b))

value_small : (kind : DataType) (d : Data) → AreSmall d → IfSome (value_of kind d) IsOfWords
value_small data_type.Uint64 d h = numbers_small (as_array d) d h (array_small d h)
value_small data_type.Int64 d h = integers_small (as_array d) d h (array_small d h)
value_small data_type.Bool d h = truths_small (as_array d) d

pub field_small : (kind : DataType) (d : Data) → AreSmall d → IfSome (value_in kind d) IsOfWords
field_small kind d h = if_then AreSmall IsOfWords (value_of kind) (get (codes "value") d) (get_small (codes "value") d h) (value_small kind)

-- ---- entries

abbrev pub IsFresh : List (List ℕ) → List ℕ → Type 0
IsFresh earlier name = new_name earlier name ≡ Some name

fresh_so : (earlier : List (List ℕ)) (text : List ℕ) → IfSome (new_name earlier text) (IsFresh earlier)
unfolding new_name
fresh_so earlier text =
    if_both (IsFresh earlier) (is_name text && not (list_any (bytes_eq text) earlier)) (Some text) None (λ h. ap (λ b. if b then Some text else None) h) tt

name_so : (earlier : List (List ℕ)) (d : Data) → IfSome (name_in earlier d) (IsFresh earlier)
name_so earlier d =
    if_then (λ _. ⊤) (IsFresh earlier) (new_name earlier) (text_in (codes "name") d) (any (text_in (codes "name") d))
    (λ text _. fresh_so earlier text)

abbrev domain_at : Data → Option Domain
domain_at d = option_and_then domain_of (text_in (codes "domain") d)

abbrev data_type_at : Data → Option DataType
data_type_at d = option_and_then data_type_of (text_in (codes "type") d)

pub head_so : (place : ℕ) (earlier : List (List ℕ)) (d : Data) → IfOk (head_of place earlier d) (λ head. IsFresh earlier head.name)
head_so place earlier d =
    ok_then (IsFresh earlier) (λ head. IsFresh earlier head.name) (field_or place field.Name (name_in earlier d)) _
    (found_ok (IsFresh earlier) (BadField (Some place) field.Name) (name_in earlier d) (name_so earlier d))
    (λ name fresh.
    ok_then (λ _. ⊤) (λ head. IsFresh earlier head.name) (field_or place field.Domain (domain_at d)) _
    (found_ok (λ _. ⊤) (BadField (Some place) field.Domain) (domain_at d) (any (domain_at d)))
    (λ domain _.
    ok_then (λ _. ⊤) (λ head. IsFresh earlier head.name) (field_or place field.Type (data_type_at d)) _
    (found_ok (λ _. ⊤) (BadField (Some place) field.Type) (data_type_at d) (any (data_type_at d)))
    (λ kind _. fresh)))

abbrev IsGoodEntry : List (List ℕ) → Entry → Type 0
IsGoodEntry earlier e = IsEntry earlier e.name (count_of e.value) × IsOfWords e.value

entry_good : (place : ℕ) (earlier : List (List ℕ)) (d : Data) → AreSmall d → IfOk (entry_of place earlier d) (IsGoodEntry earlier)
unfolding entry_of within_limit
entry_good place earlier d small =
    ok_then (λ head. IsFresh earlier head.name) (IsGoodEntry earlier) (head_of place earlier d) _ (head_so place earlier d)
    (λ head fresh.
    ok_then IsOfWords (IsGoodEntry earlier) (field_or place field.Value (value_in head.data_type d)) _
    (found_ok IsOfWords (BadField (Some place) field.Value) (value_in head.data_type d) (field_small head.data_type d small))
    (λ value words.
    ok_else (IsGoodEntry earlier) (nat_lt 65536 (count_of value)) (TooLong place)
    (record { name = head.name; domain = head.domain; value = value })
    (λ h. (record { fresh = fresh; short = ltb-false 65536 (count_of value) h }, words))))

module _ {E : Type 0} (one : ℕ → List (List ℕ) → Data → Result E ReadErr) (name : E → List ℕ) (count : E → ℕ) (P : E → Type 0) where
  -- an entry that is read, after entries of these names
  abbrev pub IsGood : List (List ℕ) → E → Type 0
  IsGood earlier e = IsEntry earlier (name e) (count e) × P e

  abbrev pub AreGood : List E → Type 0
  AreGood es = AreEntries name count [] es × All P es

  module _ (good : (place : ℕ) (earlier : List (List ℕ)) (d : Data) → AreSmall d → IfOk (one place earlier d) (IsGood earlier)) where
    after_so : (before : List E) (ds : Items) → SmallItems ds → AreGood before → IfOk (entries_after one name before ds) AreGood
    after_so before no_items all are = are
    after_so before (item d ds) all are =
        ok_then (IsGood (map name before)) AreGood (one (length before) (map name before) d) (λ entry. entries_after one name (before ++ entry ∷ []) ds)
        (good (length before) (map name before) d all.0)
        (λ entry is. after_so (before ++ entry ∷ []) ds all.1 (AreEntries-push name count [] before entry are.0 is.0, All-push P before entry are.1 is.1))

    pub inputs_so : (d : Data) → AreSmall d → IfOk (inputs_in one name d) AreGood
    unfolding inputs_in
    inputs_so d small =
        ok_then SmallItems AreGood (ok_or (list_in (codes "inputs") d) (BadField None field.Inputs)) (entries_after one name [])
        (found_ok SmallItems (BadField None field.Inputs) (list_in (codes "inputs") d) (list_small (codes "inputs") d small))
        (λ ds all. after_so [] ds all (tt, All-nil P))

    file_so : (bytes : List ℕ) → IfOk (ok_or (json_of bytes) Syntax >>= inputs_in one name) AreGood
    file_so bytes =
        ok_then AreSmall AreGood (ok_or (json_of bytes) Syntax) (inputs_in one name) (found_ok AreSmall Syntax (json_of bytes) (data_small bytes)) inputs_so

pub read_of_words : (bytes : List ℕ) (entries : List Entry) → read_of bytes ≡ Ok entries → AreRead entries
unfolding read_of
read_of_words bytes entries is =
    let are : AreGood entry_of name_of elements_of (λ e. IsOfWords e.value) entries =
    subst (λ r. IfOk r (AreGood entry_of name_of elements_of (λ e. IsOfWords e.value))) is
    (file_so entry_of name_of elements_of (λ e. IsOfWords e.value) entry_good bytes) in
    record { form = are.0; words = are.1 }

-- ---- a public part

public_value_so : (place : ℕ) (domain : Domain) (kind : DataType) (d : Data) → AreSmall d → IfOk (public_value_of place domain kind d) IsShownOfWords
public_value_so place domains.Public kind d small =
    ok_then IsOfWords IsShownOfWords (field_or place field.Value (value_in kind d)) (λ value. Ok (Known value))
    (found_ok IsOfWords (BadField (Some place) field.Value) (value_in kind d) (field_small kind d small))
    (λ value words. words)
public_value_so place domains.Private kind d small =
    ok_then (λ _. ⊤) IsShownOfWords (field_or place field.Shape (shape_in d)) (λ shape. Ok (Hidden kind shape))
    (found_ok (λ _. ⊤) (BadField (Some place) field.Shape) (shape_in d) (any (shape_in d)))
    (λ shape _. tt)

abbrev IsGoodPublic : List (List ℕ) → PublicEntry → Type 0
IsGoodPublic earlier e = IsEntry earlier e.name (public_count e.value) × IsShownOfWords e.value

public_entry_good : (place : ℕ) (earlier : List (List ℕ)) (d : Data) → AreSmall d → IfOk (public_entry_of place earlier d) (IsGoodPublic earlier)
unfolding public_entry_of within_limit
public_entry_good place earlier d small =
    ok_then (λ head. IsFresh earlier head.name) (IsGoodPublic earlier) (head_of place earlier d) _ (head_so place earlier d)
    (λ head fresh.
    ok_then IsShownOfWords (IsGoodPublic earlier) (public_value_of place head.domain head.data_type d) _
    (public_value_so place head.domain head.data_type d small)
    (λ value words.
    ok_else (IsGoodPublic earlier) (nat_lt 65536 (public_count value)) (TooLong place) (record { name = head.name; value = value })
    (λ h. (record { fresh = fresh; short = ltb-false 65536 (public_count value) h }, words))))

pub public_read_of_words : (bytes : List ℕ) (part : List PublicEntry) → read_public_of bytes ≡ Ok part → ArePublicRead part
unfolding read_public_of
public_read_of_words bytes part is =
    let are : AreGood public_entry_of public_name_of public_elements_of (λ e. IsShownOfWords e.value) part =
    subst (λ r. IfOk r (AreGood public_entry_of public_name_of public_elements_of (λ e. IsShownOfWords e.value))) is
    (file_so public_entry_of public_name_of public_elements_of (λ e. IsShownOfWords e.value) public_entry_good bytes) in
    record { form = are.0; words = are.1 }
