-- What the entries of a file are to a run, and what the dealer needs for them.
use Rattle.std.proofs.Common.{◌≡◌, ℕ, ◌+◌, ◌*◌, List, [], ◌∷◌, length, map, Bool, true, false, refl, sym, ◌∙◌, ap, ap₂}
use Rattle.std.specs.Prelude.{sum_by}
use Rattle.std.proofs.lemmas.List.{length-map}
use Rattle.std.proofs.lemmas.List.Sums.{sum-map, sum_by-cons}
use Rattle.value_file.specs.declared.inputs.Entry.{Entry}
use Rattle.value_file.specs.declared.value.DataType.TheVariants as data_type
use Rattle.value_file.specs.declared.value.Domain.{Domain}
use Rattle.value_file.specs.declared.value.Domain.TheVariants.{Public, Private}
use Rattle.value_file.specs.declared.value.Value.{Value}
use Rattle.value_file.specs.declared.value.Value.TheVariants.{Number, Integer, Truth, Numbers, Integers, Truths}
use Rattle.value_file.specs.Values.{count_of, type_of}
use Rattle.input_share.specs.Dealing.{draws_for, draws_of, need_of}
use Rattle.input_share.specs.Values.{bit_word, elements_of, shared_size}
use Rattle.program_trees.specs.Shapes.{shape_of}
use Rattle.language_model.specs.Effects.{Clear}
use Rattle.language_model.specs.Evaluation.{either}
use Rattle.language_model.specs.Reports.{words_dealt, dealing, world_of}
use Rattle.language_model.specs.Values.{gate_size}
use Rattle.language_model.specs.Words.{truth_word}
use Rattle.clear_eval.specs.Offers.{input_given, is_private, offered, shape_given, words_given}
use Rattle.code_inputs.specs.Inputs.{AreGivenAs, IsGivenAs, element_given, is_array}
use Rattle.code_inputs.specs.Inputs as dealt

-- ---- an entry, as it is given

shape_same : (v : Value) → shape_given v ≡ shape_of (element_given (type_of v)) (is_array v)
shape_same (Number n) = refl
shape_same (Integer x) = refl
shape_same (Truth b) = refl
shape_same (Numbers ns) = refl
shape_same (Integers xs) = refl
shape_same (Truths bs) = refl

bit_same : (b : Bool) → truth_word b ≡ bit_word b
bit_same true = refl
bit_same false = refl

bits_same : (bs : List Bool) → map truth_word bs ≡ map bit_word bs
bits_same [] = refl
bits_same (b ∷ bs) = ap₂ (λ x xs. x ∷ xs) (bit_same b) (bits_same bs)

words_same : (v : Value) → words_given v ≡ elements_of v
words_same (Number n) = refl
words_same (Integer x) = refl
words_same (Truth b) = ap (λ x. x ∷ []) (bit_same b)
words_same (Numbers ns) = refl
words_same (Integers xs) = refl
words_same (Truths bs) = bits_same bs

secret_same : (d : Domain) → is_private d ≡ dealt.is_private d
secret_same Public = refl
secret_same Private = refl

is_given : (e : Entry) → IsGivenAs e (input_given e)
is_given e = record { name = refl; secret = secret_same e.domain; shape = shape_same e.value; words = words_same e.value }

pub are_given : (es : List Entry) → AreGivenAs es (map input_given es)
are_given [] = tt
are_given (e ∷ es) = (is_given e, are_given es)

-- ---- what the dealer needs

count_same : (v : Value) → length (words_given v) ≡ count_of v
count_same (Number n) = refl
count_same (Integer x) = refl
count_same (Truth b) = refl
count_same (Numbers ns) = refl
count_same (Integers xs) = refl
count_same (Truths bs) = length-map bs truth_word

size_same : (v : Value) → gate_size (shape_given v).element (length (words_given v)) ≡ shared_size (type_of v) (count_of v)
size_same (Number n) = refl
size_same (Integer x) = refl
size_same (Truth b) = refl
size_same (Numbers ns) = refl
size_same (Integers xs) = refl
size_same (Truths bs) = ap (shared_size data_type.Bool) (count_same (Truths bs))

draws_same : (e : Entry) → words_dealt (input_given e) ≡ draws_of e
draws_same e = of_domain e.domain
  where
    words : ℕ
    words = gate_size (shape_given e.value).element (length (words_given e.value))

    of_domain : (d : Domain) → either (is_private d) (2 * words) 0 ≡ draws_for d (shared_size (type_of e.value) (count_of e.value))
    of_domain Public = refl
    of_domain Private = ap (λ n. 2 * n) (size_same e.value)

all_same : (es : List Entry) → sum_by words_dealt (map input_given es) ≡ need_of es
all_same [] = refl
all_same (e ∷ es) =
    sum_by-cons words_dealt (input_given e) (map input_given es)
    ∙ ap₂ (λ x y. x + y) (draws_same e) (all_same es)
    ∙ sym (sum_by-cons draws_of e es)

pub need_same : (es : List Entry) (lengths : List ℕ) → dealing (world_of Clear (offered es lengths)) ≡ need_of es
need_same es lengths = sum-map words_dealt (map input_given es) ∙ all_same es
