-- A value has as many elements as it counts.
use Rattle.std.proofs.Common.{◌≡◌, ℕ, ◌<◌, ◌^◌, List, All, length, refl, ap, ◌∙◌, arith}
use Rattle.std.proofs.lemmas.List.{length-map}
use Rattle.std.proofs.lemmas.List.Elements.{All-from_get_or}
use Rattle.bit_words.specs.Gathered.{packed}
use Rattle.bit_words.proofs.Packing.{length-packed, packed-words}
use Rattle.value_file.specs.declared.value.DataType.{DataType}
use Rattle.value_file.specs.declared.value.DataType.TheVariants as data_type
use Rattle.value_file.specs.declared.value.Value.{Value}
use Rattle.value_file.specs.declared.value.Value.TheVariants.{Number, Integer, Truth, Numbers, Integers, Truths}
use Rattle.value_file.specs.declared.public.PublicValue.{PublicValue}
use Rattle.value_file.specs.declared.public.PublicValue.TheVariants.{Known, Hidden}
use Rattle.value_file.specs.Values.{type_of, count_of, HoldsWords}
use Rattle.value_file.specs.Public.{ShowsWords}
use Rattle.input_share.specs.OfWords.{IsOfWords, IsShownOfWords}
use Rattle.input_share.specs.Values.{bit_word, elements_of, shared_as, shared_words, shared_size}

pub length-elements_of : (v : Value) → length (elements_of v) ≡ count_of v
length-elements_of (Number n) = refl
length-elements_of (Integer x) = refl
length-elements_of (Truth b) = refl
length-elements_of (Numbers ns) = refl
length-elements_of (Integers xs) = refl
length-elements_of (Truths bs) = length-map bs bit_word

length-shared_as : (t : DataType) (xs : List ℕ) → length (shared_as t xs) ≡ shared_size t (length xs)
length-shared_as data_type.Uint64 xs = refl
length-shared_as data_type.Int64 xs = refl
length-shared_as data_type.Bool xs = length-packed xs

pub length-shared_words : (v : Value) → length (shared_words v) ≡ shared_size (type_of v) (count_of v)
length-shared_words v = length-shared_as (type_of v) (elements_of v) ∙ ap (λ n. shared_size (type_of v) n) (length-elements_of v)

-- words stay words
shared_as-words : (t : DataType) (xs : List ℕ) → All (λ n. n < 2 ^ 64) xs → All (λ n. n < 2 ^ 64) (shared_as t xs)
shared_as-words data_type.Uint64 xs fit = fit
shared_as-words data_type.Int64 xs fit = fit
shared_as-words data_type.Bool xs fit = All-from_get_or (λ n. n < 2 ^ 64) (packed xs) 0 (λ i h. packed-words xs i)

pub shared_words-fit : (v : Value) → All (λ n. n < 2 ^ 64) (elements_of v) → All (λ n. n < 2 ^ 64) (shared_words v)
shared_words-fit v fit = shared_as-words (type_of v) (elements_of v) fit

-- what is held of a value whose elements are words
pub held_words : (v : Value) → IsOfWords v → HoldsWords v
held_words (Number n) words = tt
held_words (Integer x) words = words 0 0 (omega arith)
held_words (Truth b) words = tt
held_words (Numbers ns) words = tt
held_words (Integers xs) words = words
held_words (Truths bs) words = tt

pub shown_words : (v : PublicValue) → IsShownOfWords v → ShowsWords v
shown_words (Known v) words = held_words v words
shown_words (Hidden kind s) words = tt
