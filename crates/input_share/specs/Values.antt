-- The values of inputs, as words in a ring.
use Rattle.std.specs.Prelude.{ℕ, List, [], ◌∷◌, map, Bool, true, false}
use Rattle.proto_core.specs.Ring.{Ring}
use Rattle.proto_core.specs.Rings.{add_ring, xor_ring}
use Rattle.bit_words.specs.Bits.{words_for}
use Rattle.bit_words.specs.Gathered.{packed}
use Rattle.value_file.specs.declared.value.DataType.{DataType}
use Rattle.value_file.specs.declared.value.DataType.TheVariants as data_type
use Rattle.value_file.specs.declared.value.Value.{Value}
use Rattle.value_file.specs.declared.value.Value.TheVariants.{Number, Integer, Truth, Numbers, Integers, Truths}
use Rattle.value_file.specs.Values.{type_of}

-- a truth value as a word
abbrev pub bit_word : Bool → ℕ
bit_word true = 1
bit_word false = 0

-- the elements of a value, each as a word, a number with a sign by two's complement
abbrev pub elements_of : Value → List ℕ
elements_of (Number n) = n ∷ []
elements_of (Integer x) = x ∷ []
elements_of (Truth b) = bit_word b ∷ []
elements_of (Numbers ns) = ns
elements_of (Integers xs) = xs
elements_of (Truths bs) = map bit_word bs

-- elements as they are shared: numbers one by one, truth values 64 in a word
abbrev pub shared_as : DataType → List ℕ → List ℕ
shared_as data_type.Uint64 elements = elements
shared_as data_type.Int64 elements = elements
shared_as data_type.Bool elements = packed elements

abbrev pub shared_words : Value → List ℕ
shared_words value = shared_as (type_of value) (elements_of value)

-- how many words share so many elements
abbrev pub shared_size : DataType → ℕ → ℕ
shared_size data_type.Uint64 count = count
shared_size data_type.Int64 count = count
shared_size data_type.Bool count = words_for count

-- numbers are shared in the integers modulo 2^64, truth values in the words under xor
abbrev pub ring_of : DataType → Ring
ring_of data_type.Uint64 = add_ring
ring_of data_type.Int64 = add_ring
ring_of data_type.Bool = xor_ring
