-- What a run computes with.
use Rattle.std.specs.Prelude.{ℕ, Bool, true, false, not, ◌==◌, ◌&&◌, ◌-◌, ◌%◌, ◌^◌, nat_le, nat_lt, if◌then◌else◌, List, [], ◌∷◌, Option, Some, None, length, map}
use Rattle.sc_text.specs.declared.elements.Element.{Element}
use Rattle.sc_text.specs.declared.elements.Element.TheVariants.{Word, Negative, Truth}
use Rattle.sc_text.specs.declared.elements.ElementKind.{ElementKind}
use Rattle.sc_text.specs.declared.elements.ElementKind.TheVariants as kinds
use Rattle.program_trees.specs.declared.expression.DataType.{DataType}
use Rattle.program_trees.specs.declared.expression.DataType.TheVariants.{Uint64, Int64}
use Rattle.program_trees.specs.declared.expression.DataType.TheVariants as datatype
use Rattle.reached_instances.specs.Shape.{Shape}
use Rattle.plans.specs.RingKind.{RingKind}
use Rattle.plans.specs.RingKind.TheVariants.{Arithmetic, Boolean}
use Rattle.plans.specs.Clear.{first_word}
use Rattle.plans.specs.Bits.{words_for}
use Rattle.plans.specs.Gathered.{packed}

-- everybody may see a value, or it is private: then it has the number of a gate's value, unless it was never stored
pub data Secrecy : Type 0 where
  Plain : Secrecy
  Private : Option ℕ → Secrecy

-- the elements are words, a number with a sign by its two's complement and a truth value 1 or 0; a scalar has one
pub record Value : Type 0 where
  pub secrecy : Secrecy
  pub shape : Shape
  pub words : List ℕ

abbrev pub plain : Shape → List ℕ → Value
plain shape words = record { secrecy = Plain; shape = shape; words = words }

-- the value of a gate
abbrev pub hidden : Shape → ℕ → List ℕ → Value
hidden shape number words = record { secrecy = Private (Some number); shape = shape; words = words }

abbrev pub is_secret : Secrecy → Bool
is_secret Plain = false
is_secret (Private k) = true

abbrev pub size : Value → ℕ
size v = length v.words

-- what control may look at: nothing of a private value
abbrev pub seen_of : Secrecy → List ℕ → List ℕ
seen_of Plain words = words
seen_of (Private k) words = []

abbrev pub visible_words : Value → List ℕ
visible_words v = seen_of v.secrecy v.words

abbrev pub is_true : Value → Bool
is_true v = not (first_word (visible_words v) == 0)

-- 0, false or the empty array
abbrev pub default_words : (array : Bool) → List ℕ
default_words false = 0 ∷ []
default_words true = []

-- what a slot begins as
abbrev pub never_stored : (secret : Bool) → Shape → Value
never_stored false shape = plain shape (default_words shape.array)
never_stored true shape = record { secrecy = Private None; shape = shape; words = default_words shape.array }

-- the ring in which values of a data type are shared
abbrev pub ring_for : DataType → RingKind
ring_for Uint64 = Arithmetic
ring_for Int64 = Arithmetic
ring_for datatype.Bool = Boolean

-- the words of a value in the gates, by its elements, and how many they are
abbrev pub gate_words : DataType → List ℕ → List ℕ
gate_words Uint64 words = words
gate_words Int64 words = words
gate_words datatype.Bool words = packed words

abbrev pub gate_size : DataType → ℕ → ℕ
gate_size Uint64 n = n
gate_size Int64 n = n
gate_size datatype.Bool n = words_for n

-- what the elements of a data type are, as they are printed
abbrev pub printed_kind : DataType → ElementKind
printed_kind Uint64 = kinds.Unsigned
printed_kind Int64 = kinds.Signed
printed_kind datatype.Bool = kinds.TruthValue

-- a number with a sign, by its word, as it is printed
abbrev pub signed_element : ℕ → Element
signed_element x = if nat_le (2 ^ 63) x && nat_lt x (2 ^ 64) then Negative (2 ^ 64 - x) else Word x

-- the element of a kind that a word stands for; of a truth value bit 0 counts
abbrev pub element_as : ElementKind → ℕ → Element
element_as kinds.Unsigned x = Word x
element_as kinds.Signed x = signed_element x
element_as kinds.TruthValue x = Truth (not (x % 2 == 0))

-- as it is printed
abbrev pub element_of : DataType → ℕ → Element
element_of Uint64 x = Word x
element_of Int64 x = signed_element x
element_of datatype.Bool x = Truth (not (x == 0))

abbrev pub elements_of : Value → List Element
elements_of v = map (element_of v.shape.element) v.words
