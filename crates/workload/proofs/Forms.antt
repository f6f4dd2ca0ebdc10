-- The entries are inputs.
use Rattle.std.proofs.Common.{◌≡◌, ℕ, ◌≤◌, List, [], ◌∷◌, ◌++◌, map, length, refl, subst, sym, ◌∙◌, ap, arith}
use Rattle.std.specs.Prelude.{codes}
use Rattle.std.specs.List.{range_with_len}
use Rattle.std.proofs.lemmas.List.FromFn.{length-map-range_with_len}
use Rattle.sc_text.specs.Name.{is_name}
use Rattle.tape_file.specs.Seeds.{seed_tapes}
use Rattle.tape_file.specs.Tapes.{FourTapes}
use Rattle.value_file.specs.declared.inputs.Entry.{Entry}
use Rattle.value_file.specs.declared.value.Domain.TheVariants.{Private}
use Rattle.value_file.specs.declared.value.Value.TheVariants.{Numbers}
use Rattle.value_file.specs.Input.{AreInputs, new_name}
use Rattle.workload.specs.Load.{left_element, right_element, load_count, load_entries, private_array}

few : (number : ℕ) → load_count number ≤ 65536
few number = omega arith

short : (f : ℕ → ℕ) (number : ℕ) → length (map f (range_with_len 0 (load_count number))) ≤ 65536
short f number = subst (λ n. n ≤ 65536) (sym (length-map-range_with_len f 0 (load_count number))) (few number)

pub are_inputs : (number : ℕ) → AreInputs (load_entries number)
unfolding load_entries new_name is_name
are_inputs number = (
  record { fresh = refl; short = short (left_element number) number },
  (record { fresh = refl; short = short (right_element number) number }, tt),
)

-- entries that are put one after another
pub entries_are : (number : ℕ) (none one two : List Entry) (a b : Entry) (left right : List ℕ) → none ≡ [] → one ≡ none ++ a ∷ [] → two ≡ one ++ b ∷ [] →
    a ≡ record { name = codes "a"; domain = Private; value = Numbers left } → b ≡ record { name = codes "b"; domain = Private; value = Numbers right } →
    left ≡ map (left_element number) (range_with_len 0 (load_count number)) → right ≡ map (right_element number) (range_with_len 0 (load_count number)) →
    two ≡ load_entries number
unfolding load_entries
entries_are number none one two a b left right e f g h i j k =
    g ∙ ap (λ es. es ++ b ∷ []) (f ∙ ap (λ es. es ++ a ∷ []) e)
    ∙ ap (λ x. x ∷ b ∷ []) (h ∙ ap (λ ws. record { name = codes "a"; domain = Private; value = Numbers ws }) j)
    ∙ ap (λ x. private_array (codes "a") (left_element number) (load_count number) ∷ x ∷ [])
    (i ∙ ap (λ ws. record { name = codes "b"; domain = Private; value = Numbers ws }) k)

pub tapes_are : (tapes : FourTapes) (seed wanted : List ℕ) (words : ℕ) → tapes ≡ seed_tapes seed words → seed ≡ wanted → tapes ≡ seed_tapes wanted words
tapes_are tapes seed wanted words e h = e ∙ ap (λ s. seed_tapes s words) h
