-- A file of a private number, a public truth value and private truth values: all that the laws ask of inputs is there. What evaluation makes
-- of an entry is given so.
use Rattle.std.proofs.Common.{◌≡◌, ℕ, zero, suc, ◌<◌, ◌^◌, List, [], ◌∷◌, map, All, Bool, true, false, refl, ap, ◌∙◌, arith}
use Rattle.std.specs.Prelude.{codes, replicate}
use Rattle.program_trees.specs.declared.expression.DataType.TheVariants as datatype
use Rattle.sc_text.specs.Name.{is_name}
use Rattle.program_trees.specs.declared.kinds.Shape.{Shape}
use Rattle.program_trees.specs.Shapes.{shape_of}
use Rattle.value_file.specs.declared.value.Domain.TheVariants.{Public, Private}
use Rattle.value_file.specs.declared.value.Value.{Value}
use Rattle.value_file.specs.declared.value.Value.TheVariants.{Number, Integer, Truth, Numbers, Integers, Truths}
use Rattle.value_file.specs.declared.inputs.Entry.{Entry}
use Rattle.value_file.specs.Input.{new_name, AreInputs}
use Rattle.value_file.specs.Values.{type_of}
use Rattle.input_share.specs.Values.{bit_word, elements_of}
use Rattle.input_share.specs.AddUp.{HasWords}
use Rattle.language_model.specs.Effects.{GivenInput}
use Rattle.language_model.specs.Words.{truth_word}
use Rattle.code_model.specs.Kinded.{AreSingle}
use Rattle.gate_laws.specs.Laws.{IsDealing}
use Rattle.gate_laws.specs.Offers.{AreOffered}
use Rattle.gate_laws.proofs.Ranges.{replicate_below}
use Rattle.code_inputs.specs.Inputs.{element_given, is_array, is_private, AreGivenAs, AreSound, Suffice, dealt_of}
use Rattle.code_inputs.proofs.Offering.{are_dealt, are_offered}

-- ---- WHAT EVALUATION MAKES OF AN ENTRY, as `clear_eval` defines it

abbrev shape_given : Value → Shape
shape_given (Number n) = shape_of datatype.Uint64 false
shape_given (Integer x) = shape_of datatype.Int64 false
shape_given (Truth b) = shape_of datatype.Bool false
shape_given (Numbers ns) = shape_of datatype.Uint64 true
shape_given (Integers xs) = shape_of datatype.Int64 true
shape_given (Truths bs) = shape_of datatype.Bool true

abbrev words_given : Value → List ℕ
words_given (Number n) = n ∷ []
words_given (Integer x) = x ∷ []
words_given (Truth b) = truth_word b ∷ []
words_given (Numbers ns) = ns
words_given (Integers xs) = xs
words_given (Truths bs) = map truth_word bs

abbrev input_given : Entry → GivenInput
input_given e = record { text = e.name; secret = is_private e.domain; shape = shape_given e.value; words = words_given e.value }

same_truth : (b : Bool) → truth_word b ≡ bit_word b
same_truth true = refl
same_truth false = refl

same_truths : (bs : List Bool) → map truth_word bs ≡ map bit_word bs
same_truths [] = refl
same_truths (b ∷ bs) = ap (λ x. x ∷ map truth_word bs) (same_truth b) ∙ ap (λ xs. bit_word b ∷ xs) (same_truths bs)

given_of : (v : Value) → (shape_given v ≡ shape_of (element_given (type_of v)) (is_array v)) × (words_given v ≡ elements_of v)
given_of (Number n) = (refl, refl)
given_of (Integer x) = (refl, refl)
given_of (Truth b) = (refl, ap (λ x. x ∷ []) (same_truth b))
given_of (Numbers ns) = (refl, refl)
given_of (Integers xs) = (refl, refl)
given_of (Truths bs) = (refl, same_truths bs)

given_so : (es : List Entry) → AreGivenAs es (map input_given es)
given_so [] = tt
given_so (e ∷ es) = (
  record { name = refl; secret = refl; shape = (given_of e.value).0; words = (given_of e.value).1 },
  given_so es,
)

-- ---- A FILE

abbrev number : Entry
number = record { name = codes "x"; domain = Private; value = Number 5 }

abbrev truth : Entry
truth = record { name = codes "b"; domain = Public; value = Truth true }

abbrev truths : Entry
truths = record { name = codes "c"; domain = Private; value = Truths (true ∷ false ∷ []) }

entries : List Entry
entries = number ∷ truth ∷ truths ∷ []

form : AreInputs entries
unfolding entries new_name is_name
form = (
  record { fresh = refl; short = omega arith },
  (record { fresh = refl; short = omega arith }, (record { fresh = refl; short = omega arith }, tt)),
)

no_more : {A : Type 0} (P : A → Type 0) → All P []
no_more P k d h = absurd (omega (arith, h))

one_more : {A : Type 0} (P : A → Type 0) (x : A) (xs : List A) → P x → All P xs → All P (x ∷ xs)
one_more P x xs p rest zero d h = p
one_more P x xs p rest (suc k) d h = rest k d (omega (arith, h))

abbrev Low : ℕ → Type 0
Low n = n < 2 ^ 64

words : All HasWords entries
unfolding entries
words =
    one_more HasWords number (truth ∷ truths ∷ []) (one_more Low 5 [] (omega arith) (no_more Low))
    (one_more HasWords truth (truths ∷ []) (one_more Low 1 [] (omega arith) (no_more Low))
    (one_more HasWords truths [] (one_more Low 1 (0 ∷ []) (omega arith) (one_more Low 0 [] (omega arith) (no_more Low))) (no_more HasWords)))

sound : AreSound entries
sound = record { form = form; words = words }

-- two words for a number, and two for truth values in one word
dealer : List ℕ
dealer = replicate 4 7

suffice : Suffice entries dealer
unfolding entries dealer
suffice = record { words = replicate_below (2 ^ 64) 4 7 (omega arith); enough = omega arith }

-- so they are dealt and offered
sample_dealt : IsDealing (dealt_of entries dealer)
sample_dealt = are_dealt entries dealer sound suffice

sample_offered : AreOffered (dealt_of entries dealer) 0 (map input_given entries) × AreSingle (map input_given entries)
sample_offered = are_offered entries dealer (map input_given entries) sound (given_so entries)
