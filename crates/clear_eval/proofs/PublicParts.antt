-- The public parts of inputs.
use Rattle.std.proofs.Common.{◌≡◌, ℕ, zero, suc, ◌<◌, ◌≤◌, List, [], ◌∷◌, ◌++◌, length, refl, sym, ◌∙◌, ap, get_or, arith}
use Rattle.std.specs.Prelude.{true, map, replicate}
use Rattle.std.proofs.lemmas.List.{length-map}
use Rattle.program_trees.specs.Shapes.{shape_of}
use Rattle.program_trees.specs.declared.expression.DataType.TheVariants as datatype
use Rattle.value_file.specs.declared.inputs.Entry.{Entry}
use Rattle.value_file.specs.declared.public.PublicEntry.{PublicEntry}
use Rattle.value_file.specs.declared.value.Domain.{Domain}
use Rattle.value_file.specs.declared.value.Domain.TheVariants.{Public, Private}
use Rattle.value_file.specs.declared.value.Value.{Value}
use Rattle.value_file.specs.declared.value.Value.TheVariants.{Number, Integer, Truth, Numbers, Integers, Truths}
use Rattle.value_file.specs.Input.{AreEntries}
use Rattle.value_file.specs.Public.{shown, part_of}
use Rattle.value_file.specs.PublicFile.{public_count, public_name_of, public_elements_of}
use Rattle.language_model.specs.Effects.{GivenInput}
use Rattle.language_model.specs.Reports.{public_input}
use Rattle.language_model.specs.Words.{truth_word}
use Rattle.clear_eval.specs.Offers.{is_private, shape_given, words_given, input_given, public_given, part_given}

short_from : (before es : List PublicEntry) (k : ℕ) (d : PublicEntry) → AreEntries public_name_of public_elements_of before es → k < length es
    → public_count (get_or es k d).value ≤ 65536
short_from before [] k d a h = absurd (omega arith)
short_from before (e ∷ es) zero d a h = a.0.short
short_from before (e ∷ es) (suc k) d a h = short_from (before ++ e ∷ []) es k d a.1 (omega arith)

pub each_public_short : (es : List PublicEntry) (k : ℕ) (d : PublicEntry) → AreEntries public_name_of public_elements_of [] es → k < length es
    → public_count (get_or es k d).value ≤ 65536
each_public_short es k d a h = short_from [] es k d a h

entry_is_public : (name : List ℕ) (d : Domain) (v : Value) →
    public_given name (shown d v) ≡ public_input (record { text = name; secret = is_private d; shape = shape_given v; words = words_given v })
entry_is_public name Public v = refl
entry_is_public name Private (Number n) = refl
entry_is_public name Private (Integer n) = refl
entry_is_public name Private (Truth b) = refl
entry_is_public name Private (Numbers ns) = refl
entry_is_public name Private (Integers ns) = refl
entry_is_public name Private (Truths bs) =
    let told : ℕ → GivenInput = λ n. record { text = name; secret = true; shape = shape_of datatype.Bool true; words = replicate n 0 } in
    ap told (sym (length-map bs truth_word))

pub entries_are_public : (es : List Entry) → map part_given (part_of es) ≡ map public_input (map input_given es)
entries_are_public [] = refl
entries_are_public (e ∷ es) =
    ap (λ (x : GivenInput). x ∷ map part_given (part_of es)) (entry_is_public e.name e.domain e.value)
    ∙ ap (λ (xs : List GivenInput). public_input (input_given e) ∷ xs) (entries_are_public es)
