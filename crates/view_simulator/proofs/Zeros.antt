-- Inputs with a given public part, in which zeros stand for what is hidden: they are what one who knows the public part alone offers to a
-- run.
use Rattle.std.proofs.Common.{◌≡◌, ℕ, suc, zero, ◌<◌, ◌≤◌, ◌^◌, List, [], ◌∷◌, ◌++◌, map, All, false, refl, sym, ap, ◌∙◌, subst, arith}
use Rattle.std.specs.Prelude.{replicate, Some}
use Rattle.std.proofs.lemmas.List.{length-replicate, map-append}
use Rattle.std.proofs.lemmas.List.Elements.{All-map, All-replicate}
use Rattle.value_file.specs.declared.value.DataType.{DataType}
use Rattle.value_file.specs.declared.value.DataType.TheVariants.{Uint64, Int64, Bool}
use Rattle.value_file.specs.declared.value.Shape.{Shape}
use Rattle.value_file.specs.declared.value.Shape.TheVariants.{Scalar, Array}
use Rattle.value_file.specs.declared.value.Domain.{Domain}
use Rattle.value_file.specs.declared.value.Domain.TheVariants.{Public, Private}
use Rattle.value_file.specs.declared.value.Value.{Value}
use Rattle.value_file.specs.declared.value.Value.TheVariants.{Number, Integer, Truth, Numbers, Integers, Truths}
use Rattle.value_file.specs.declared.inputs.Entry.{Entry}
use Rattle.value_file.specs.declared.public.PublicValue.{PublicValue}
use Rattle.value_file.specs.declared.public.PublicValue.TheVariants.{Known, Hidden}
use Rattle.value_file.specs.declared.public.PublicEntry.{PublicEntry}
use Rattle.value_file.specs.Values.{type_of, shape_of, count_of}
use Rattle.value_file.specs.Input.{AreEntries, new_name, name_of, elements_of as count_in}
use Rattle.value_file.specs.Public.{shown, public_entry, part_of}
use Rattle.value_file.specs.PublicFile.{public_count, public_name_of, public_elements_of, IsWritable}
use Rattle.input_share.specs.Values.{elements_of}
use Rattle.input_share.specs.AddUp.{HasWords}
use Rattle.input_share.proofs.FormLaws.{size_of-shape_of}
use Rattle.language_model.specs.Effects.{GivenInput}
use Rattle.language_model.specs.Words.{truth_word}
use Rattle.clear_eval.specs.Offers.{input_given, public_given, part_given}
use Rattle.code_inputs.specs.Inputs.{AreSound}
use Rattle.view_simulator.specs.Making.{HasKnownWords, IsOfWords}
use Rattle.input_share.proofs.Bits.{bits_small, one_small}

abbrev pub zeros_of : DataType → Shape → Value
zeros_of Uint64 Scalar = Number 0
zeros_of Uint64 (Array count) = Numbers (replicate count 0)
zeros_of Int64 Scalar = Integer 0
zeros_of Int64 (Array count) = Integers (replicate count 0)
zeros_of Bool Scalar = Truth false
zeros_of Bool (Array count) = Truths (replicate count false)

abbrev pub entry_of : (name : List ℕ) → PublicValue → Entry
entry_of name (Known value) = record { name = name; domain = Public; value = value }
entry_of name (Hidden kind shape) = record { name = name; domain = Private; value = zeros_of kind shape }

abbrev pub with_zeros : PublicEntry → Entry
with_zeros e = entry_of e.name e.value

abbrev pub zero_entries : List PublicEntry → List Entry
zero_entries part = map with_zeros part

-- ---- THEIR PUBLIC PART

abbrev known_by : (name : List ℕ) → PublicValue → PublicEntry
known_by name value = record { name = name; value = value }

type_again : (kind : DataType) (shape : Shape) → type_of (zeros_of kind shape) ≡ kind
type_again Uint64 Scalar = refl
type_again Uint64 (Array count) = refl
type_again Int64 Scalar = refl
type_again Int64 (Array count) = refl
type_again Bool Scalar = refl
type_again Bool (Array count) = refl

shape_again : (kind : DataType) (shape : Shape) → shape_of (zeros_of kind shape) ≡ shape
shape_again Uint64 Scalar = refl
shape_again Uint64 (Array count) = ap Array (length-replicate count 0)
shape_again Int64 Scalar = refl
shape_again Int64 (Array count) = ap Array (length-replicate count 0)
shape_again Bool Scalar = refl
shape_again Bool (Array count) = ap Array (length-replicate count false)

entry_again : (name : List ℕ) (value : PublicValue) → public_entry (entry_of name value) ≡ known_by name value
entry_again name (Known value) = refl
entry_again name (Hidden kind shape) =
    ap (λ k. known_by name (Hidden k (shape_of (zeros_of kind shape)))) (type_again kind shape)
    ∙ ap (λ s. known_by name (Hidden kind s)) (shape_again kind shape)

pub part_again : (part : List PublicEntry) → part_of (zero_entries part) ≡ part
part_again [] = refl
part_again (e ∷ es) =
    ap (λ (x : PublicEntry). x ∷ part_of (zero_entries es)) (entry_again e.name e.value) ∙ ap (λ (xs : List PublicEntry). e ∷ xs) (part_again es)

-- ---- WHAT IS OFFERED OF THEM

truths_again : (count : ℕ) → map truth_word (replicate count false) ≡ replicate count 0
truths_again zero = refl
truths_again (suc count) = ap (λ ws. 0 ∷ ws) (truths_again count)

given_again : (name : List ℕ) (value : PublicValue) → input_given (entry_of name value) ≡ public_given name value
given_again name (Known value) = refl
given_again name (Hidden Uint64 Scalar) = refl
given_again name (Hidden Uint64 (Array count)) = refl
given_again name (Hidden Int64 Scalar) = refl
given_again name (Hidden Int64 (Array count)) = refl
given_again name (Hidden Bool Scalar) = refl
given_again name (Hidden Bool (Array count)) = ap (λ ws. record (public_given name (Hidden Bool (Array count))) { words = ws }) (truths_again count)

pub inputs_again : (part : List PublicEntry) → map input_given (zero_entries part) ≡ map part_given part
inputs_again [] = refl
inputs_again (e ∷ es) =
    ap (λ (x : GivenInput). x ∷ map input_given (zero_entries es)) (given_again e.name e.value)
    ∙ ap (λ (xs : List GivenInput). part_given e ∷ xs) (inputs_again es)

-- ---- THEY MAY STAND IN A FILE

names_known : (es : List Entry) → map public_name_of (part_of es) ≡ map name_of es
names_known [] = refl
names_known (e ∷ es) = ap (λ (ns : List (List ℕ)). e.name ∷ ns) (names_known es)

count_known : (domain : Domain) (value : Value) → public_count (shown domain value) ≡ count_of value
count_known Public value = refl
count_known Private value = size_of-shape_of value

-- inputs may stand in a file where their public part may
form_from : (before es : List Entry) → AreEntries public_name_of public_elements_of (part_of before) (part_of es) → AreEntries name_of count_in before es
form_from before [] h = tt
form_from before (e ∷ es) h = (
  record {
    fresh = subst (λ (earlier : List (List ℕ)). new_name earlier e.name ≡ Some e.name) (names_known before) h.0.fresh;
    short = subst (λ n. n ≤ 65536) (count_known e.domain e.value) h.0.short;
  },
  form_from (before ++ e ∷ []) es
      (subst (λ (b : List PublicEntry). AreEntries public_name_of public_elements_of b (part_of es)) (sym (map-append public_entry before (e ∷ []))) h.1),
)

zeros_small : (kind : DataType) (shape : Shape) → All (λ n. n < 2 ^ 64) (elements_of (zeros_of kind shape))
zeros_small Uint64 Scalar = All-replicate (λ n. n < 2 ^ 64) 1 0 (omega arith)
zeros_small Uint64 (Array count) = All-replicate (λ n. n < 2 ^ 64) count 0 (omega arith)
zeros_small Int64 Scalar = All-replicate (λ n. n < 2 ^ 64) 1 0 (omega arith)
zeros_small Int64 (Array count) = All-replicate (λ n. n < 2 ^ 64) count 0 (omega arith)
zeros_small Bool Scalar = one_small false
zeros_small Bool (Array count) = bits_small (replicate count false)

words_known : (name : List ℕ) (value : PublicValue) → HasKnownWords value → HasWords (entry_of name value)
words_known name (Known value) h = h
words_known name (Hidden kind shape) h = zeros_small kind shape

pub zeros_sound : (part : List PublicEntry) → IsWritable part → All IsOfWords part → AreSound (zero_entries part)
zeros_sound part form known =
    record {
      form = form_from [] (zero_entries part)
          (subst (λ (es : List PublicEntry). AreEntries public_name_of public_elements_of [] es) (sym (part_again part)) form);
      words = All-map HasWords with_zeros part (λ k d below. words_known _ _ (known k d below));
    }
