-- What a run is given of the entries of an input file, and what is dealt of them.
use Rattle.std.specs.Prelude.{◌≡◌, ◌≤◌, ℕ, Bool, true, false, List, [], ◌∷◌, length, All}
use Rattle.program_trees.specs.declared.expression.DataType.{DataType}
use Rattle.program_trees.specs.declared.expression.DataType.TheVariants as datatype
use Rattle.proto_core.specs.Lists.{AreWords}
use Rattle.value_file.specs.declared.value.DataType as told
use Rattle.value_file.specs.declared.value.DataType.TheVariants as kind
use Rattle.value_file.specs.declared.value.Domain.{Domain}
use Rattle.value_file.specs.declared.value.Domain.TheVariants.{Public, Private}
use Rattle.value_file.specs.declared.value.Value.{Value}
use Rattle.value_file.specs.declared.value.Value.TheVariants.{Number, Integer, Truth, Numbers, Integers, Truths}
use Rattle.value_file.specs.declared.inputs.Entry.{Entry}
use Rattle.value_file.specs.Input.{AreInputs}
use Rattle.value_file.specs.Values.{type_of}
use Rattle.input_share.specs.AddUp.{HasWords}
use Rattle.input_share.specs.Dealing.{need_of}
use Rattle.input_share.specs.Values.{elements_of}
use Rattle.view_model.specs.Dealing.{dealt_to}
use Rattle.view_model.specs.Held.{private_kinds, private_values}
use Rattle.program_trees.specs.Shapes.{shape_of}
use Rattle.language_model.specs.Effects.{GivenInput}
use Rattle.gate_laws.specs.Dealt.{Dealt}

-- ---- WHAT IS GIVEN

abbrev pub element_given : told.DataType → DataType
element_given kind.Uint64 = datatype.Uint64
element_given kind.Int64 = datatype.Int64
element_given kind.Bool = datatype.Bool

abbrev pub is_array : Value → Bool
is_array (Number n) = false
is_array (Integer x) = false
is_array (Truth b) = false
is_array (Numbers ns) = true
is_array (Integers xs) = true
is_array (Truths bs) = true

abbrev pub is_private : Domain → Bool
is_private Public = false
is_private Private = true

-- this input of a run is this entry of a file
pub record IsGivenAs (e : Entry) (x : GivenInput) : Type 0 where
  pub name : x.text ≡ e.name
  pub secret : x.secret ≡ is_private e.domain
  pub shape : x.shape ≡ shape_of (element_given (type_of e.value)) (is_array e.value)
  pub words : x.words ≡ elements_of e.value

-- one by one, and as many
abbrev pub AreGivenAs : List Entry → List GivenInput → Type 0
AreGivenAs [] [] = Unit {0}
AreGivenAs [] (x ∷ xs) = ⊥
AreGivenAs (e ∷ es) [] = ⊥
AreGivenAs (e ∷ es) (x ∷ xs) = IsGivenAs e x × AreGivenAs es xs

-- ---- WHAT IS DEALT

-- entries that may stand in a file, of words
pub record AreSound (entries : List Entry) : Type 0 where
  pub form : AreInputs entries
  pub words : All HasWords entries

-- words of a dealer that suffice for them
pub record Suffice (entries : List Entry) (dealer : List ℕ) : Type 0 where
  pub words : AreWords dealer
  pub enough : need_of entries ≤ length dealer

-- the private ones, each shared in the ring of its elements, and the shares that the miners are dealt with these words
abbrev pub dealt_of : List Entry → (dealer : List ℕ) → Dealt
dealt_of entries dealer = record { inputs = private_values entries; kinds = private_kinds entries; shares = dealt_to entries dealer }
