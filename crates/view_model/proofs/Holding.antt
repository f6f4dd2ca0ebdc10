-- What the miners are dealt are shares of the private inputs, so their runs compute with these.
use Rattle.std.proofs.Common.{◌≡◌, ℕ, zero, suc, ◌+◌, ◌-◌, ◌*◌, ◌<◌, ◌≤◌, ◌^◌, List, [], ◌∷◌, All, length, drop, refl, sym, ◌∙◌, ap, arith}
use Rattle.std.proofs.lemmas.List.{length-take-le, length-drop}
use Rattle.std.proofs.lemmas.List.Sums.{sum_by-cons}
use Rattle.proto_core.specs.Ring.{Ring, RingLaws}
use Rattle.proto_core.specs.RingsKeepLaws.{add_ring_laws, xor_ring_laws}
use Rattle.proto_core.specs.declared.party.Number.{Number}
use Rattle.proto_core.specs.declared.party.Number.TheVariants.{One, Two, Three}
use Rattle.proto_core.specs.Lists.{at, AreWords}
use Rattle.protocol_model.specs.Gates.{sizes_of}
use Rattle.protocol_model.specs.Runs.{run_values}
use Rattle.protocol_model.proofs.Sizes.{AreWords-take, AreWords-drop}
use Rattle.gates.specs.declared.gate.Gate.{Gate}
use Rattle.gates.specs.Clear.{Values}
use Rattle.gates.specs.Clear as clear
use Rattle.shared_gates.specs.Shares.{Kind, AreShares, AllHeld}
use Rattle.shared_gates.specs.Kinds.{AllKinded}
use Rattle.shared_gates.specs.Computed.{Computed}
use Rattle.shared_gates.proofs.Computing.{computes}
use Rattle.value_file.specs.declared.value.DataType.{DataType}
use Rattle.value_file.specs.declared.value.DataType.TheVariants as data_type
use Rattle.value_file.specs.declared.value.Domain.{Domain}
use Rattle.value_file.specs.declared.value.Domain.TheVariants as domain
use Rattle.value_file.specs.declared.inputs.Entry.{Entry}
use Rattle.value_file.specs.Values.{type_of, count_of}
use Rattle.input_share.specs.Values.{shared_words, shared_size, ring_of}
use Rattle.input_share.specs.Dealing.{left_of, first_masks, second_masks, share_of, draws_for, draws_of, need_of, part_of}
use Rattle.input_share.specs.AddUp.{sums_of, HasWords}
use Rattle.input_share.proofs.AddUpLaws.{sums_of-left_of}
use Rattle.input_share.proofs.Elements.{length-shared_words, shared_words-fit}
use Rattle.tape_file.specs.Tapes.{FourTapes}
use Rattle.view_model.specs.Dealing.{private_then, size_then, dealt_to, private_sizes}
use Rattle.view_model.specs.Held.{ring_kind, kind_then, private_kinds, value_then, private_values}
use Rattle.view_model.specs.TapeMaps.{miners_of, no_values, gates_dealt, AreTapes, Reaches}
use Rattle.view_model.specs.Seen.{opened_by_all}
use Rattle.view_model.proofs.Masks.{left_of_words, length_left_of}
use Rattle.view_model.proofs.Dealings.{need_rest}
use Rattle.view_model.proofs.DealtSizes.{length_share, sizes_dealt}
use Rattle.view_model.proofs.Corresponding.{ready_with}

sums_at :
    (r : Ring) (xs ys zs : List ℕ) (k : ℕ) → k < length xs → length ys ≡ length xs → length zs ≡ length xs →
    at (sums_of r xs ys zs) k ≡ r.add (r.add (at xs k) (at ys k)) (at zs k)
sums_at r [] ys zs k h g f = absurd (omega arith)
sums_at r (x ∷ xs) [] zs k h g f = absurd (omega arith)
sums_at r (x ∷ xs) (y ∷ ys) [] k h g f = absurd (omega arith)
sums_at r (x ∷ xs) (y ∷ ys) (z ∷ zs) zero h g f = refl
sums_at r (x ∷ xs) (y ∷ ys) (z ∷ zs) (suc k) h g f = sums_at r xs ys zs k (omega arith) (omega arith) (omega arith)

module _ (r : Ring) (laws : RingLaws r) (xs words : List ℕ) (enough : 2 * length xs ≤ length words) where
  abbrev firsts : List ℕ
  firsts = first_masks (length xs) words

  abbrev seconds : List ℕ
  seconds = second_masks (length xs) words

  firsts_length : length firsts ≡ length xs
  firsts_length = length-take-le (length xs) words (omega arith)

  seconds_length : length seconds ≡ length xs
  seconds_length =
      let behind : length (drop (length xs) words) ≡ length words - length xs = length-drop (length xs) words in
      length-take-le (length xs) (drop (length xs) words) (omega arith)

  share_words : (i : Number) → AreWords words → AreWords (share_of i r xs words)
  share_words One h = AreWords-take (length xs) words h
  share_words Two h = AreWords-take (length xs) (drop (length xs) words) (AreWords-drop (length xs) words h)
  share_words Three h = left_of_words laws xs firsts seconds

  share_sum :
      All (λ n. n < 2 ^ 64) xs → (k : ℕ) → k < length xs →
      r.add (r.add (at firsts k) (at seconds k)) (at (left_of r xs firsts seconds) k) ≡ at xs k
  share_sum fit k h =
      let left = length_left_of r xs firsts seconds firsts_length seconds_length in
      let one = firsts_length in
      let two = seconds_length in
      sym (sums_at r firsts seconds (left_of r xs firsts seconds) k (omega arith) (omega arith) (omega arith))
      ∙ ap (λ ws. at ws k) (sums_of-left_of laws xs firsts seconds firsts_length seconds_length fit)

  are_shares : AreWords words → All (λ n. n < 2 ^ 64) xs → AreShares r xs (λ i. share_of i r xs words)
  are_shares are fit =
      record {
        sizes = λ i. length_share i r xs words enough;
        words = λ i. share_words i are;
        sum = share_sum fit;
      }

-- in the ring of its type
shares_in :
    (t : DataType) (xs words : List ℕ) → 2 * length xs ≤ length words → AreWords words → All (λ n. n < 2 ^ 64) xs →
    AreShares (clear.ring_of (ring_kind t)) xs (λ i. share_of i (ring_of t) xs words)
shares_in data_type.Uint64 xs words enough are fit = are_shares (ring_of data_type.Uint64) add_ring_laws xs words enough are fit
shares_in data_type.Int64 xs words enough are fit = are_shares (ring_of data_type.Int64) add_ring_laws xs words enough are fit
shares_in data_type.Bool xs words enough are fit = are_shares (ring_of data_type.Bool) xor_ring_laws xs words enough are fit

-- what is dealt of one input, before what is dealt of the others
module _ (words : List ℕ) (are : AreWords words) where
  held_then :
      (e : Entry) (d : Domain) (kinds : List Kind) (values : Values) (dealt : Number → Values) → AllHeld kinds values dealt →
      HasWords e → draws_for d (shared_size (type_of e.value) (count_of e.value)) ≤ length words →
      AllHeld (kind_then d e.value kinds) (value_then d e.value values) (λ i. private_then (part_of i d e.value words) (dealt i))
  held_then e domain.Public kinds values dealt rest fit enough k h = rest k h
  held_then e domain.Private kinds values dealt rest fit enough zero h =
      let count = length-shared_words e.value in
      shares_in (type_of e.value) (shared_words e.value) words (omega arith) are (shared_words-fit e.value fit)
  held_then e domain.Private kinds values dealt rest fit enough (suc k) h = rest k (omega arith)

pub dealt_held :
    (es : List Entry) (words : List ℕ) → All HasWords es → AreWords words → need_of es ≤ length words →
    AllHeld (private_kinds es) (private_values es) (dealt_to es words)
dealt_held [] words fit are enough = λ k h. absurd (omega arith)
dealt_held (e ∷ es) words fit are enough =
    let need : need_of (e ∷ es) ≡ draws_of e + need_of es = sum_by-cons draws_of e es in
    held_then words are e e.domain (private_kinds es) (private_values es) (dealt_to es (drop (draws_of e) words))
    (dealt_held es (drop (draws_of e) words) (λ k d h. fit (suc k) d (omega arith)) (AreWords-drop (draws_of e) words are)
    (need_rest e es words enough))
    (fit 0 e (omega arith)) (omega arith)

pub sizes_values : (es : List Entry) → sizes_of (private_values es) ≡ private_sizes es
sizes_values [] = refl
sizes_values (e ∷ es) = by_domain e.domain (sizes_values es)
  where
    by_domain :
        (d : Domain) → sizes_of (private_values es) ≡ private_sizes es →
        sizes_of (value_then d e.value (private_values es)) ≡ size_then d (shared_size (type_of e.value) (count_of e.value)) (private_sizes es)
    by_domain domain.Public rest = rest
    by_domain domain.Private rest =
        ap (λ n. n ∷ sizes_of (private_values es)) (length-shared_words e.value)
        ∙ ap (λ ns. shared_size (type_of e.value) (count_of e.value) ∷ ns) rest

below_none : (k : ℕ) → k < 0 → ⊥
below_none k h = omega arith

pub run_computes :
    (es : List Entry) (gates : List Gate) (t : FourTapes) (kinds : List Kind) → AreTapes t → All HasWords es →
    need_of es ≤ length t.dealer → Reaches es gates t → AllKinded (private_kinds es) kinds 0 gates →
    Computed kinds (private_values es) [] gates (run_values (gates_dealt es t.dealer gates) no_values (miners_of t)) (opened_by_all es gates t)
run_computes es gates t kinds are fit enough reaches kinded =
    computes (private_kinds es) kinds (private_values es) (dealt_to es t.dealer) (private_sizes es)
    (dealt_held es t.dealer fit are.dealer enough) (sizes_values es) (λ i. sizes_dealt i es t.dealer enough)
    gates [] [] no_values (miners_of t) refl (λ i. refl) (λ k h. absurd (below_none k h)) kinded reaches.suit
    (ready_with es gates t.dealer t are.miners enough reaches)
