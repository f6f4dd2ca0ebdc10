-- One input, of the words that the next line of each view shows; and the first whose sums aren't of its type.
use Rattle.std.specs.Prelude.{ℕ, ◌+◌, Bool, true, if◌then◌else◌, List, [], ◌∷◌, ◌++◌, drop, Option, Some, None, option_map}
use Rattle.std.specs.Str.{bytes_eq}
use Rattle.bit_words.specs.Gathered.{packed, unpacked}
use Rattle.value_file.specs.declared.value.Domain.TheVariants as domain
use Rattle.value_file.specs.declared.value.DataType.{DataType}
use Rattle.value_file.specs.declared.value.DataType.TheVariants.{Uint64, Int64, Bool as Truths_}
use Rattle.value_file.specs.declared.inputs.Entry.{Entry}
use Rattle.value_file.specs.declared.public.PublicValue.{PublicValue}
use Rattle.value_file.specs.declared.public.PublicValue.TheVariants.{Known, Hidden}
use Rattle.value_file.specs.declared.public.PublicEntry.{PublicEntry}
use Rattle.value_file.specs.Values.{size_of}
use Rattle.input_share.specs.Values.{ring_of}
use Rattle.input_share.specs.AddUp.{sums_of}
use Rattle.view_text.specs.View.{InputShare}
use Rattle.found_inputs.specs.Found.{found_value, words_first}

-- how many lines an input has in a view
abbrev pub lines_for : PublicValue → ℕ
lines_for (Known value) = 0
lines_for (Hidden kind shape) = 1

-- the input, and the dealer's words for it
abbrev pub entry_of : (name : List ℕ) → PublicValue → (one two three : List ℕ) → Entry
entry_of name (Known value) one two three = record { name = name; domain = domain.Public; value = value }
entry_of name (Hidden kind shape) one two three =
    record { name = name; domain = domain.Private; value = found_value kind shape (sums_of (ring_of kind) one two three) }

abbrev pub masks_of : PublicValue → (one two : List ℕ) → List ℕ
masks_of (Known value) one two = []
masks_of (Hidden kind shape) one two = one ++ two

-- ---- sums

-- the words of as many elements of this type
abbrev pub are_of_type : DataType → (count : ℕ) → List ℕ → Bool
are_of_type Uint64 count ws = true
are_of_type Int64 count ws = true
are_of_type Truths_ count ws = bytes_eq (packed (unpacked ws count)) ws

abbrev pub are_right : PublicValue → (one two three : List ℕ) → Bool
are_right (Known value) one two three = true
are_right (Hidden kind shape) one two three = are_of_type kind (size_of shape) (sums_of (ring_of kind) one two three)

-- the place, among the lines of hidden inputs, of the first sums that aren't words of the input's type
abbrev pub wrong_sums_at : List PublicEntry → (one two three : List InputShare) → Option ℕ
wrong_sums_at [] one two three = None
wrong_sums_at (e ∷ es) one two three =
    if are_right e.value (words_first one) (words_first two) (words_first three)
    then option_map (λ k. lines_for e.value + k)
    (wrong_sums_at es (drop (lines_for e.value) one) (drop (lines_for e.value) two) (drop (lines_for e.value) three))
    else Some 0
