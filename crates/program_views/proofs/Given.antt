-- What evaluation makes of an entry is given so, and the public part tells how many words are dealt.
use Rattle.std.proofs.Common.{◌≡◌, ◌+◌, ◌*◌, List, [], ◌∷◌, length, map, Bool, true, false, refl, sym, ap, ◌∙◌}
use Rattle.std.specs.Prelude.{sum}
use Rattle.std.proofs.lemmas.List.{length-map}
use Rattle.std.proofs.lemmas.List.Sums.{sum_by-cons}
use Rattle.gates.specs.Bits.{words_for}
use Rattle.program_trees.specs.Shapes.{shape_of}
use Rattle.value_file.specs.declared.value.Value.{Value}
use Rattle.value_file.specs.declared.value.Value.TheVariants.{Number, Integer, Truth, Numbers, Integers, Truths}
use Rattle.value_file.specs.declared.value.Domain.{Domain}
use Rattle.value_file.specs.declared.value.Domain.TheVariants.{Public, Private}
use Rattle.value_file.specs.declared.inputs.Entry.{Entry}
use Rattle.value_file.specs.Public.{part_of}
use Rattle.value_file.specs.Values.{type_of, count_of}
use Rattle.input_share.specs.Values.{bit_word, elements_of, shared_size}
use Rattle.input_share.specs.Dealing.{need_of, draws_of, draws_for}
use Rattle.language_model.specs.Values.{gate_size}
use Rattle.language_model.specs.Words.{truth_word}
use Rattle.language_model.specs.Evaluation.{either}
use Rattle.language_model.specs.Reports.{words_dealt}
use Rattle.clear_eval.specs.Offers.{is_private, shape_given, words_given, input_given}
use Rattle.view_model.proofs.Dealings.{draws_are_known}
use Rattle.code_inputs.specs.Inputs.{element_given, is_array, AreGivenAs}
use Rattle.code_inputs.specs.Inputs as inputs
use Rattle.program_views.specs.Views.{hidden_need}

same_truth : (b : Bool) → truth_word b ≡ bit_word b
same_truth true = refl
same_truth false = refl

same_truths : (bs : List Bool) → map truth_word bs ≡ map bit_word bs
same_truths [] = refl
same_truths (b ∷ bs) = ap (λ x. x ∷ map truth_word bs) (same_truth b) ∙ ap (λ xs. bit_word b ∷ xs) (same_truths bs)

same_domain : (d : Domain) → is_private d ≡ inputs.is_private d
same_domain Public = refl
same_domain Private = refl

given_of : (v : Value) → (shape_given v ≡ shape_of (element_given (type_of v)) (is_array v)) × (words_given v ≡ elements_of v)
given_of (Number n) = (refl, refl)
given_of (Integer x) = (refl, refl)
given_of (Truth b) = (refl, ap (λ x. x ∷ []) (same_truth b))
given_of (Numbers ns) = (refl, refl)
given_of (Integers xs) = (refl, refl)
given_of (Truths bs) = (refl, same_truths bs)

pub given_so : (es : List Entry) → AreGivenAs es (map input_given es)
given_so [] = tt
given_so (e ∷ es) = (
  record { name = refl; secret = same_domain e.domain; shape = (given_of e.value).0; words = (given_of e.value).1 },
  given_so es,
)

pub need_known : (es : List Entry) → hidden_need (part_of es) ≡ need_of es
need_known [] = refl
need_known (e ∷ es) =
    ap (λ n. n + hidden_need (part_of es)) (draws_are_known e.domain e.value)
    ∙ ap (λ n. draws_of e + n) (need_known es)
    ∙ sym (sum_by-cons draws_of e es)

-- ---- WHAT IS DEALT

size_for : (v : Value) → gate_size (shape_given v).element (length (words_given v)) ≡ shared_size (type_of v) (count_of v)
size_for (Number n) = refl
size_for (Integer x) = refl
size_for (Truth b) = refl
size_for (Numbers ns) = refl
size_for (Integers xs) = refl
size_for (Truths bs) = ap words_for (length-map bs truth_word)

dealt_for : (d : Domain) (v : Value)
    → either (is_private d) (2 * gate_size (shape_given v).element (length (words_given v))) 0 ≡ draws_for d (shared_size (type_of v) (count_of v))
dealt_for Public v = refl
dealt_for Private v = ap (λ n. 2 * n) (size_for v)

pub same_need : (es : List Entry) → sum (map words_dealt (map input_given es)) ≡ need_of es
same_need [] = refl
same_need (e ∷ es) =
    sum_by-cons (λ n. n) (words_dealt (input_given e)) (map words_dealt (map input_given es))
    ∙ ap (λ n. n + sum (map words_dealt (map input_given es))) (dealt_for e.domain e.value)
    ∙ ap (λ n. draws_of e + n) (same_need es)
    ∙ sym (sum_by-cons draws_of e es)
