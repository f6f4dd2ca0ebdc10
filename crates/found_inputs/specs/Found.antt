-- The inputs whose shares three views show, and the dealer's words with which they were dealt.
use Rattle.std.specs.Prelude.{◌≡◌, ℕ, ◌<◌, ◌^◌, ◌==◌, List, [], ◌∷◌, ◌++◌, length, map, All, get_or}
use Rattle.bit_words.specs.Gathered.{unpacked}
use Rattle.value_file.specs.declared.value.Domain.TheVariants as domain
use Rattle.value_file.specs.declared.value.DataType.{DataType}
use Rattle.value_file.specs.declared.value.DataType.TheVariants.{Uint64, Int64, Bool as Truths_}
use Rattle.value_file.specs.declared.value.Shape.{Shape}
use Rattle.value_file.specs.declared.value.Shape.TheVariants.{Scalar, Array}
use Rattle.value_file.specs.declared.value.Value.{Value}
use Rattle.value_file.specs.declared.value.Value.TheVariants.{Number, Integer, Truth, Numbers, Integers, Truths}
use Rattle.value_file.specs.declared.inputs.Entry.{Entry}
use Rattle.value_file.specs.declared.public.PublicValue.{PublicValue}
use Rattle.value_file.specs.declared.public.PublicValue.TheVariants.{Known, Hidden}
use Rattle.value_file.specs.declared.public.PublicEntry.{PublicEntry}
use Rattle.value_file.specs.Values.{size_of}
use Rattle.input_share.specs.declared.entry.Part.{Part}
use Rattle.input_share.specs.declared.entry.Part.TheVariants as part
use Rattle.input_share.specs.declared.entry.ShareEntry.{ShareEntry}
use Rattle.input_share.specs.Values.{ring_of, shared_as, shared_size}
use Rattle.input_share.specs.AddUp.{sums_of}
use Rattle.view_text.specs.View.{InputShare}

-- ---- the `in` lines of what a miner was dealt (as `program_views` has them)

abbrev pub share_then : (name : List ℕ) → Part → List InputShare → List InputShare
share_then name (part.Public value) more = more
share_then name (part.Private shared) more = record { name = name; words = shared.words } ∷ more

abbrev pub input_shares : List ShareEntry → List InputShare
input_shares [] = []
input_shares (entry ∷ entries) = share_then entry.name entry.part (input_shares entries)

-- ---- `in` lines, one after another

abbrev pub words_first : List InputShare → List ℕ
words_first [] = []
words_first (s ∷ ss) = s.words

abbrev pub rest_of : List InputShare → List InputShare
rest_of [] = []
rest_of (s ∷ ss) = ss

-- ---- what is found

-- the elements that words hold: a number in each word, a truth value in each bit
abbrev pub elements_in : DataType → (count : ℕ) → List ℕ → List ℕ
elements_in Uint64 count ws = ws
elements_in Int64 count ws = ws
elements_in Truths_ count ws = unpacked ws count

-- the value of this type and shape that has these elements; a truth value is true where the element is 1
abbrev pub value_of : DataType → Shape → List ℕ → Value
value_of Uint64 Scalar es = Number (get_or es 0 0)
value_of Uint64 (Array count) es = Numbers es
value_of Int64 Scalar es = Integer (get_or es 0 0)
value_of Int64 (Array count) es = Integers es
value_of Truths_ Scalar es = Truth (get_or es 0 0 == 1)
value_of Truths_ (Array count) es = Truths (map (λ e. e == 1) es)

-- the value of this type and shape that has these words
abbrev pub found_value : DataType → Shape → List ℕ → Value
found_value kind shape ws = value_of kind shape (elements_in kind (size_of shape) ws)

-- the sums of the words that the first lines show, in the ring of the type
abbrev pub sums_first : DataType → (one two three : List InputShare) → List ℕ
sums_first kind one two three = sums_of (ring_of kind) (words_first one) (words_first two) (words_first three)

-- a public input stays; a hidden one takes a line of each view
abbrev pub found_then : (name : List ℕ) → PublicValue → (one two three : List InputShare)
    → (List InputShare → List InputShare → List InputShare → List Entry) → List Entry
found_then name (Known value) one two three more = record { name = name; domain = domain.Public; value = value } ∷ more one two three
found_then name (Hidden kind shape) one two three more =
    record { name = name; domain = domain.Private; value = found_value kind shape (sums_first kind one two three) }
    ∷ more (rest_of one) (rest_of two) (rest_of three)

abbrev pub found_entries : List PublicEntry → (one two three : List InputShare) → List Entry
found_entries [] one two three = []
found_entries (e ∷ es) one two three = found_then e.name e.value one two three (λ x y z. found_entries es x y z)

-- of each hidden input the first miner's words, and then the second's
abbrev pub masks_then : PublicValue → (one two : List InputShare) → (List InputShare → List InputShare → List ℕ) → List ℕ
masks_then (Known value) one two more = more one two
masks_then (Hidden kind shape) one two more = words_first one ++ (words_first two ++ more (rest_of one) (rest_of two))

abbrev pub found_words : List PublicEntry → (one two : List InputShare) → List ℕ
found_words [] one two = []
found_words (e ∷ es) one two = masks_then e.value one two (λ x y. found_words es x y)

-- ---- when they are

-- a line of this name, with this number of words
abbrev pub IsLine : (name : List ℕ) → (count : ℕ) → List InputShare → Type 0
IsLine name count [] = ⊥
IsLine name count (s ∷ ss) = (s.name ≡ name) × (length s.words ≡ count) × All (λ n. n < 2 ^ 64) s.words

abbrev pub LinesThen : (name : List ℕ) → PublicValue → List InputShare → (List InputShare → Type 0) → Type 0
LinesThen name (Known value) ss more = more ss
LinesThen name (Hidden kind shape) ss more = IsLine name (shared_size kind (size_of shape)) ss × more (rest_of ss)

-- the lines are the hidden inputs in order, and nothing else
abbrev pub AreLines : List PublicEntry → List InputShare → Type 0
AreLines [] ss = ss ≡ []
AreLines (e ∷ es) ss = LinesThen e.name e.value ss (λ more. AreLines es more)

-- the words of as many elements: no bit is set past those that stand for truth values
abbrev pub IsSumOf : DataType → (count : ℕ) → List ℕ → Type 0
IsSumOf kind count ws = shared_as kind (elements_in kind count ws) ≡ ws

abbrev pub SumsThen : PublicValue → (one two three : List InputShare) → (List InputShare → List InputShare → List InputShare → Type 0) → Type 0
SumsThen (Known value) one two three more = more one two three
SumsThen (Hidden kind shape) one two three more =
    IsSumOf kind (size_of shape) (sums_first kind one two three) × more (rest_of one) (rest_of two) (rest_of three)

abbrev pub HaveTruths : List PublicEntry → (one two three : List InputShare) → Type 0
HaveTruths [] one two three = Unit {0}
HaveTruths (e ∷ es) one two three = SumsThen e.value one two three (λ x y z. HaveTruths es x y z)
