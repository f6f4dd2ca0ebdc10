-- Inputs are found and taken alike, where zeros stand in the place of private words.
use Rattle.std.proofs.Common.{◌≡◌, ℕ, ◌*◌, ◌-◌, List, [], ◌∷◌, length, Option, Some, None, Bool, true, false, cond, refl, ap, ◌∙◌, sym}
use Rattle.std.specs.Prelude.{map, sum, bytes_eq}
use Rattle.sc_text.specs.declared.end.Ending.TheVariants as ending
use Rattle.sc_text.specs.declared.end.TrapKind.TheVariants as trap
use Rattle.gates.specs.declared.gate.Gate.TheVariants.{Input}
use Rattle.program_trees.specs.declared.kinds.Shape.{Shape}
use Rattle.language_model.specs.Effects.{GivenInput, charge, test}
use Rattle.language_model.specs.Operations.{charged}
use Rattle.language_model.specs.Evaluation.{behind, input_from, input_named, is_as_declared, given_value, asked_for, either}
use Rattle.language_model.specs.Reports.{words_dealt, dealing, Offered, public_input}
use Rattle.blind_evaluation.proofs.Alike.{Alike, Never, same_bind, any_bind, never_bind, end_alike, charge_alike, test_alike, gate_alike}
use Rattle.blind_evaluation.proofs.AlikeValues.{LikeValues}
use Rattle.language_model.specs.Values.{gate_size}
use Rattle.blind_evaluation.proofs.Lengths.{zeros_for, zeros_length}
use Rattle.blind_evaluation.proofs.Rows.{clear, unseen, charged_alike, result_alike, plain_alike}

-- ---- DEALING

words_same : (x : GivenInput) → words_dealt (public_input x) ≡ words_dealt x
words_same x = ap (λ n. either x.secret (2 * gate_size x.shape.element n) 0) (zeros_length x.secret x.words)

all_words_same : (xs : List GivenInput) → map words_dealt (map public_input xs) ≡ map words_dealt xs
all_words_same [] = refl
all_words_same (x ∷ xs) = ap (λ n. n ∷ map words_dealt (map public_input xs)) (words_same x) ∙ ap (λ ns. words_dealt x ∷ ns) (all_words_same xs)

pub same_dealing : (o : Offered) → dealing (unseen o) ≡ dealing (clear o)
same_dealing o = ap sum (all_words_same o.inputs)

-- ---- FINDING

pub data LikeInput : Option (GivenInput × ℕ) → Option (GivenInput × ℕ) → Type 0 where
  absent : LikeInput None None
  found : (x : GivenInput) (k : ℕ) → LikeInput (Some (x, k)) (Some (public_input x, k))

found_from : (k : ℕ) (text : List ℕ) (xs : List GivenInput) → LikeInput (input_from k text xs) (input_from k text (map public_input xs))
found_from k text [] = absent
found_from k text (x ∷ xs) = either_way (bytes_eq text x.text) (found_from (behind x k) text xs)
  where
    either_way : (b : Bool) → LikeInput (input_from (behind x k) text xs) (input_from (behind x k) text (map public_input xs))
        → LikeInput (cond b (Some (x, k)) (input_from (behind x k) text xs))
        (cond b (Some (public_input x, k)) (input_from (behind x k) text (map public_input xs)))
    either_way true l = found x k
    either_way false l = l

pub input_like : (o : Offered) (text : List ℕ) → LikeInput (input_named (clear o) text) (input_named (unseen o) text)
input_like o text = found_from 0 text o.inputs

-- ---- TAKING

abbrev given_as : List ℕ → Bool → Shape → List ℕ → GivenInput
given_as text secret shape words = record { text = text; secret = secret; shape = shape; words = words }

refused : (line : ℕ) → Alike (Never {A = Unit {0}} {B = Unit {0}}) (test false trap.Argument line) (test false trap.Argument line)
refused line = end_alike (ending.Trap trap.Argument line)

-- an input that isn't as it is declared ends both runs
charged_refused : (line n n' : ℕ)
    → Alike (Never {A = Unit {0}} {B = Unit {0}}) (charged (test false trap.Argument line) n) (charged (test false trap.Argument line) n')
charged_refused line n n' = any_bind (charge_alike 1) (λ _ _. never_bind (λ _. charge (n - 1)) (λ _. charge (n' - 1)) (refused line))

asked_alike : (secret : Bool) (shape : Shape) (line k : ℕ) (text : List ℕ) (is_secret : Bool) (own : Shape) (words : List ℕ)
    → Alike LikeValues (asked_for secret shape line (Some (given_as text is_secret own words, k)))
    (asked_for secret shape line (Some (given_as text is_secret own (zeros_for is_secret words), k)))
asked_alike true shape line k text is_secret own words =
    any_bind (charged_alike (test_alike (is_as_declared true shape (given_as text is_secret own words)) trap.Argument line)
    (sym (zeros_length is_secret words))) (λ _ _.
    same_bind (gate_alike (Input k)) (λ r. result_alike refl (sym (zeros_length is_secret words)) r))
asked_alike false shape line k text false own words =
    any_bind (charged_alike (test_alike (is_as_declared false shape (given_as text false own words)) trap.Argument line) refl) (λ _ _. plain_alike own words)
asked_alike false shape line k text true own words =
    never_bind (λ _. given_value false (given_as text true own words) k) (λ _. given_value false (given_as text true own (zeros_for true words)) k)
    (charged_refused line (length words) (length (zeros_for true words)))

pub asked_for_alike : (secret : Bool) (shape : Shape) (line : ℕ) {x x' : Option (GivenInput × ℕ)} → LikeInput x x'
    → Alike LikeValues (asked_for secret shape line x) (asked_for secret shape line x')
asked_for_alike secret shape line absent = any_bind (charge_alike 1) (λ _ _. end_alike (ending.Trap trap.Argument line))
asked_for_alike secret shape line (found x k) = asked_alike secret shape line k x.text x.secret x.shape x.words
