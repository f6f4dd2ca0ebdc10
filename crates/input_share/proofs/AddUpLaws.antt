-- The three shares of a value add up to it.
use Rattle.std.proofs.Common.{◌≡◌, ℕ, suc, ◌+◌, ◌-◌, ◌*◌, ◌<◌, ◌≤◌, ◌^◌, List, [], ◌∷◌, All, length, map, drop, ap, ◌∙◌, refl, arith}
use Rattle.std.proofs.lemmas.List.{length-take-le, length-drop}
use Rattle.std.proofs.lemmas.List.Sums.{sum_by-cons}
use Rattle.proto_core.specs.Ring.{Ring, RingLaws}
use Rattle.proto_core.specs.RingsKeepLaws.{add_ring_laws, xor_ring_laws}
use Rattle.proto_core.proofs.Sums.{add-left_comm, zero-zero}
use Rattle.proto_core.specs.declared.party.Number.TheVariants.{One, Two, Three}
use Rattle.value_file.specs.declared.value.DataType.{DataType}
use Rattle.value_file.specs.declared.value.DataType.TheVariants as data_type
use Rattle.value_file.specs.declared.value.Domain.{Domain}
use Rattle.value_file.specs.declared.value.Domain.TheVariants as domain
use Rattle.value_file.specs.declared.value.Value.{Value}
use Rattle.value_file.specs.declared.inputs.Entry.{Entry}
use Rattle.value_file.specs.Values.{type_of, count_of}
use Rattle.input_share.specs.Values.{elements_of, shared_words, shared_size, ring_of}
use Rattle.input_share.specs.Dealing.{left_of, first_masks, second_masks, draws_for, draws_of, need_of, part_of, dealt_entries}
use Rattle.input_share.specs.AddUp.{sums_of, together, all_together, HasWords}
use Rattle.input_share.proofs.Elements.{length-shared_words, shared_words-fit}

module _ {r : Ring} (laws : RingLaws r) where
  pub masks_and_left : (x d1 d2 : ℕ) → x < 2 ^ 64 → r.add (r.add d1 d2) (r.sub (r.sub x d1) d2) ≡ x
  masks_and_left x d1 d2 h =
      let sorted : r.add (r.add d1 d2) (r.sub (r.sub x d1) d2) ≡ r.add x (r.add (r.add d1 (r.neg d1)) (r.add d2 (r.neg d2))) =
      simp (laws.sub_is, laws.add_assoc, add-left_comm laws) in
      sorted ∙ simp (laws.cancel, zero-zero laws) (laws.add_zero x h)

  pub sums_of-left_of :
      (xs d1s d2s : List ℕ) → length d1s ≡ length xs → length d2s ≡ length xs → All (λ n. n < 2 ^ 64) xs →
      sums_of r d1s d2s (left_of r xs d1s d2s) ≡ xs
  sums_of-left_of [] [] d2s h1 h2 words = refl
  sums_of-left_of [] (d1 ∷ d1s) d2s h1 h2 words = absurd (omega arith)
  sums_of-left_of (x ∷ xs) [] d2s h1 h2 words = absurd (omega arith)
  sums_of-left_of (x ∷ xs) (d1 ∷ d1s) [] h1 h2 words = absurd (omega arith)
  sums_of-left_of (x ∷ xs) (d1 ∷ d1s) (d2 ∷ d2s) h1 h2 words =
      ap (λ n. n ∷ sums_of r d1s d2s (left_of r xs d1s d2s)) (masks_and_left x d1 d2 (words 0 x (omega arith)))
      ∙ ap (λ l. x ∷ l) (sums_of-left_of xs d1s d2s (omega arith) (omega arith) (λ k d h. words (suc k) d (omega arith)))

pub ring_laws : (t : DataType) → RingLaws (ring_of t)
ring_laws data_type.Uint64 = add_ring_laws
ring_laws data_type.Int64 = add_ring_laws
ring_laws data_type.Bool = xor_ring_laws

private_together :
    (t : DataType) (xs words : List ℕ) → 2 * length xs ≤ length words → All (λ n. n < 2 ^ 64) xs →
    sums_of (ring_of t) (first_masks (length xs) words) (second_masks (length xs) words)
    (left_of (ring_of t) xs (first_masks (length xs) words) (second_masks (length xs) words)) ≡ xs
private_together t xs words enough fit =
    let behind : length (drop (length xs) words) ≡ length words - length xs = length-drop (length xs) words in
    sums_of-left_of (ring_laws t) xs (first_masks (length xs) words) (second_masks (length xs) words)
    (length-take-le (length xs) words (omega arith)) (length-take-le (length xs) (drop (length xs) words) (omega arith)) fit

pub together-part_of :
    (d : Domain) (v : Value) (words : List ℕ) → draws_for d (shared_size (type_of v) (count_of v)) ≤ length words → All (λ n. n < 2 ^ 64) (elements_of v) →
    together (part_of One d v words) (part_of Two d v words) (part_of Three d v words) ≡ shared_words v
together-part_of domain.Public v words enough fit = refl
together-part_of domain.Private v words enough fit =
    private_together (type_of v) (shared_words v) words (rw (length-shared_words v) enough) (shared_words-fit v fit)

pub add_up :
    (inputs : List Entry) (words : List ℕ) → All HasWords inputs → need_of inputs ≤ length words →
    all_together (dealt_entries One inputs words) (dealt_entries Two inputs words) (dealt_entries Three inputs words)
    ≡ map (λ entry. shared_words entry.value) inputs
add_up [] words fit enough = refl
add_up (e ∷ es) words fit enough =
    let need : need_of (e ∷ es) ≡ draws_of e + need_of es = sum_by-cons draws_of e es in
    let rest : length (drop (draws_of e) words) ≡ length words - draws_of e = length-drop (draws_of e) words in
    ap (λ l. l ∷ all_together (dealt_entries One es (drop (draws_of e) words)) (dealt_entries Two es (drop (draws_of e) words))
    (dealt_entries Three es (drop (draws_of e) words)))
    (together-part_of e.domain e.value words (omega arith) (fit 0 e (omega arith)))
    ∙ ap (λ l. shared_words e.value ∷ l) (add_up es (drop (draws_of e) words) (λ k d h. fit (suc k) d (omega arith)) (omega arith))
