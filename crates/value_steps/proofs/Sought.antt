-- The input of a name, sought from an index on.
use Rattle.std.proofs.Common.{◌≡◌, ℕ, ◌+◌, ◌<◌, ◌≤◌, true, false, cond, List, length, get_or, drop, map, Some, None, sym, ◌∙◌, ap}
use Rattle.std.specs.Prelude.{bytes_eq}
use Rattle.std.proofs.lemmas.List.{at_drop_more, drop_all}
use Rattle.language_model.specs.Evaluation.{behind, input_from}
use Rattle.value_steps.specs.declared.world.GivenInput.{GivenInput}
use Rattle.value_steps.specs.Views.{given_seen}

from_here : (k : ℕ) (text : List ℕ) (inputs : List GivenInput) (i : ℕ) (x : GivenInput) → i < length inputs → x ≡ get_or inputs i x
    → input_from k text (map given_seen (drop i inputs))
    ≡ cond (bytes_eq text x.name) (Some (given_seen x, k)) (input_from (behind (given_seen x) k) text (map given_seen (drop (i + 1) inputs)))
from_here k text inputs i x h e =
    at_drop_more (λ xs. input_from k text (map given_seen xs)) inputs i x h
    ∙ ap (λ (y : GivenInput). cond (bytes_eq text y.name) (Some (given_seen y, k))
    (input_from (behind (given_seen y) k) text (map given_seen (drop (i + 1) inputs)))) (sym e)

pub input_here : (k : ℕ) (text : List ℕ) (inputs : List GivenInput) (i : ℕ) (x : GivenInput) → i < length inputs → x ≡ get_or inputs i x
    → bytes_eq text x.name ≡ true → input_from k text (map given_seen (drop i inputs)) ≡ Some (given_seen x, k)
input_here k text inputs i x h e t =
    from_here k text inputs i x h e
    ∙ ap (λ b. cond b (Some (given_seen x, k)) (input_from (behind (given_seen x) k) text (map given_seen (drop (i + 1) inputs)))) t

-- after another input n private ones stand before the next
pub input_later : (k n : ℕ) (text : List ℕ) (inputs : List GivenInput) (i : ℕ) (x : GivenInput) → i < length inputs → x ≡ get_or inputs i x
    → bytes_eq text x.name ≡ false → n ≡ behind (given_seen x) k
    → input_from n text (map given_seen (drop (i + 1) inputs)) ≡ input_from k text (map given_seen (drop i inputs))
input_later k n text inputs i x h e t m =
    ap (λ j. input_from j text (map given_seen (drop (i + 1) inputs))) m
    ∙ sym (from_here k text inputs i x h e
    ∙ ap (λ b. cond b (Some (given_seen x, k)) (input_from (behind (given_seen x) k) text (map given_seen (drop (i + 1) inputs)))) t)

pub input_nowhere : (k : ℕ) (text : List ℕ) (inputs : List GivenInput) (i : ℕ) → length inputs ≤ i → input_from k text (map given_seen (drop i inputs)) ≡ None
input_nowhere k text inputs i h = ap (λ xs. input_from k text (map given_seen xs)) (drop_all i inputs h)
