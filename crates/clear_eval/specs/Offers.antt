-- What the inputs of a file, and the lengths of the tapes, are to a run.
use Rattle.std.specs.Prelude.{ℕ, Bool, true, false, List, [], ◌∷◌, map, get_or, replicate}
use Rattle.program_trees.specs.declared.expression.DataType.TheVariants as datatype
use Rattle.program_trees.specs.declared.expression.DataType.{DataType}
use Rattle.program_trees.specs.declared.kinds.Shape.{Shape}
use Rattle.program_trees.specs.Shapes.{shape_of}
use Rattle.value_file.specs.declared.inputs.Entry.{Entry}
use Rattle.value_file.specs.declared.public.PublicEntry.{PublicEntry}
use Rattle.value_file.specs.declared.public.PublicValue.{PublicValue}
use Rattle.value_file.specs.declared.public.PublicValue.TheVariants.{Known, Hidden}
use Rattle.value_file.specs.declared.value.DataType as told
use Rattle.value_file.specs.declared.value.DataType.TheVariants as kind
use Rattle.value_file.specs.declared.value.Shape as form
use Rattle.value_file.specs.declared.value.Shape.TheVariants.{Scalar, Array}
use Rattle.value_file.specs.declared.value.Domain.{Domain}
use Rattle.value_file.specs.declared.value.Domain.TheVariants.{Public, Private}
use Rattle.value_file.specs.declared.value.Value.{Value}
use Rattle.value_file.specs.declared.value.Value.TheVariants.{Number, Integer, Truth, Numbers, Integers, Truths}
use Rattle.value_file.specs.Values.{size_of}
use Rattle.language_model.specs.Effects.{GivenInput}
use Rattle.language_model.specs.Words.{truth_word}
use Rattle.language_model.specs.Reports.{Offered}

abbrev pub is_private : Domain → Bool
is_private Public = false
is_private Private = true

abbrev pub shape_given : Value → Shape
shape_given (Number n) = shape_of datatype.Uint64 false
shape_given (Integer n) = shape_of datatype.Int64 false
shape_given (Truth b) = shape_of datatype.Bool false
shape_given (Numbers ns) = shape_of datatype.Uint64 true
shape_given (Integers ns) = shape_of datatype.Int64 true
shape_given (Truths bs) = shape_of datatype.Bool true

-- a number with a sign is its two's complement, a truth value the word 1 or 0
abbrev pub words_given : Value → List ℕ
words_given (Number n) = n ∷ []
words_given (Integer n) = n ∷ []
words_given (Truth b) = truth_word b ∷ []
words_given (Numbers ns) = ns
words_given (Integers ns) = ns
words_given (Truths bs) = map truth_word bs

abbrev pub input_given : Entry → GivenInput
input_given e = record { text = e.name; secret = is_private e.domain; shape = shape_given e.value; words = words_given e.value }

-- the lengths are those of the dealer's tape and of miners 1, 2 and 3
abbrev pub offered_with : List GivenInput → (lengths : List ℕ) → Offered
offered_with inputs lengths =
    record {
      dealer = get_or lengths 0 0;
      lengths = record { first = get_or lengths 1 0; second = get_or lengths 2 0; third = get_or lengths 3 0 };
      inputs = inputs;
    }

abbrev pub offered : List Entry → (lengths : List ℕ) → Offered
offered entries lengths = offered_with (map input_given entries) lengths

-- ---- THE PUBLIC PART

abbrev pub type_given : told.DataType → DataType
type_given kind.Uint64 = datatype.Uint64
type_given kind.Int64 = datatype.Int64
type_given kind.Bool = datatype.Bool

abbrev pub is_array : form.Shape → Bool
is_array Scalar = false
is_array (Array count) = true

-- zeros stand for the elements of a private input
abbrev pub public_given : (name : List ℕ) → PublicValue → GivenInput
public_given name (Known value) = record { text = name; secret = false; shape = shape_given value; words = words_given value }
public_given name (Hidden element shape) =
    record { text = name; secret = true; shape = shape_of (type_given element) (is_array shape); words = replicate (size_of shape) 0 }

abbrev pub part_given : PublicEntry → GivenInput
part_given e = public_given e.name e.value

-- what one who knows the public part alone can offer to a run
abbrev pub offered_part : List PublicEntry → (lengths : List ℕ) → Offered
offered_part part lengths = offered_with (map part_given part) lengths
