-- Shares that add up are what a dealer deals whose words are the first two miners' shares.
use Rattle.std.proofs.Common.{◌≡◌, ℕ, suc, ◌*◌, ◌<◌, List, [], ◌∷◌, ◌++◌, length, take, drop, map, refl, sym, ◌∙◌, ap, arith, length-append}
use Rattle.proto_core.specs.Ring.{Ring, RingLaws}
use Rattle.proto_core.specs.RingsKeepLaws.{add_ring_laws, xor_ring_laws}
use Rattle.proto_core.proofs.Sums.{left_of_three}
use Rattle.proto_core.specs.declared.party.Number.{Number}
use Rattle.proto_core.specs.declared.party.Number.TheVariants.{One, Two, Three}
use Rattle.proto_core.specs.Lists.{at, AreWords}
use Rattle.proto_core.proofs.MessageFields.{take-front, drop-front}
use Rattle.shared_gates.specs.Shares.{sum_of}
use Rattle.value_file.specs.declared.value.DataType.{DataType}
use Rattle.value_file.specs.declared.value.DataType.TheVariants as data_type
use Rattle.value_file.specs.Values.{type_of, shape_of, count_of}
use Rattle.input_share.specs.declared.entry.Part.TheVariants as part
use Rattle.input_share.specs.declared.entry.ShareEntry.{ShareEntry}
use Rattle.input_share.specs.Values.{shared_words, shared_size, ring_of}
use Rattle.input_share.specs.Dealing.{left_of, share_of, dealt_entries, dealt}
use Rattle.input_share.proofs.Elements.{length-shared_words}
use Rattle.carried_shares.specs.Carrying.{Kept, IsShared, AllShared, carried_entry, input_of, tape_of, lens_of, carried}

laws_for : (d : DataType) → RingLaws (ring_of d)
laws_for data_type.Uint64 = add_ring_laws
laws_for data_type.Int64 = add_ring_laws
laws_for data_type.Bool = xor_ring_laws

zero_less : (n : ℕ) → 0 < suc n
zero_less n = omega arith

-- ---- the third share is what the first two leave

module _ {r : Ring} (laws : RingLaws r) where
  left_is_third :
      (xs a b c : List ℕ) → length a ≡ length xs → length b ≡ length xs → length c ≡ length xs → AreWords c
      → ((k : ℕ) → k < length xs → sum_of r (at a k) (at b k) (at c k) ≡ at xs k) → left_of r xs a b ≡ c
  left_is_third [] a b [] ea eb ec words sums = refl
  left_is_third [] a b (z ∷ c) ea eb ec words sums = absurd (omega (arith, ec))
  left_is_third (x ∷ xs) [] b c ea eb ec words sums = absurd (omega (arith, ea))
  left_is_third (x ∷ xs) (y ∷ a) [] c ea eb ec words sums = absurd (omega (arith, eb))
  left_is_third (x ∷ xs) (y ∷ a) (w ∷ b) [] ea eb ec words sums = absurd (omega (arith, ec))
  left_is_third (x ∷ xs) (y ∷ a) (w ∷ b) (z ∷ c) ea eb ec words sums =
      let first : r.sub (r.sub x y) w ≡ z =
      ap (λ s. r.sub (r.sub s y) w) (sym (sums 0 (zero_less (length xs)))) ∙ left_of_three laws y w z (words 0) in
      ap (λ v. v ∷ left_of r xs a b) first
      ∙ ap (λ l. z ∷ l)
      (left_is_third xs a b c (omega (arith, ea)) (omega (arith, eb)) (omega (arith, ec)) (λ k. words (suc k))
      (λ k l. sums (suc k) (omega (arith, l))))

-- ---- one value, with the words of others after it

module _ (k : Kept) (shared : IsShared k) (rest : List ℕ) where
  abbrev n : ℕ
  n = length (shared_words k.value)

  abbrev words : List ℕ
  words = (k.shares One ++ k.shares Two) ++ rest

  apart : words ≡ k.shares One ++ (k.shares Two ++ rest)
  apart = ends (k.shares One)
    where
      ends : (xs : List ℕ) → (xs ++ k.shares Two) ++ rest ≡ xs ++ (k.shares Two ++ rest)
      ends [] = refl
      ends (x ∷ xs) = ap (λ l. x ∷ l) (ends xs)

  firsts : take n words ≡ k.shares One
  firsts = ap (take n) apart ∙ take-front n (k.shares One) (k.shares Two ++ rest) (shared.sizes One)

  seconds : take n (drop n words) ≡ k.shares Two
  seconds =
      ap (λ l. take n (drop n l)) apart
      ∙ ap (take n) (drop-front n (k.shares One) (k.shares Two ++ rest) (shared.sizes One))
      ∙ take-front n (k.shares Two) rest (shared.sizes Two)

  dealt_share : (i : Number) → share_of i (ring_of (type_of k.value)) (shared_words k.value) words ≡ k.shares i
  dealt_share One = firsts
  dealt_share Two = seconds
  dealt_share Three =
      ap (λ d. left_of (ring_of (type_of k.value)) (shared_words k.value) d (take n (drop n words))) firsts
      ∙ ap (left_of (ring_of (type_of k.value)) (shared_words k.value) (k.shares One)) seconds
      ∙ left_is_third (laws_for (type_of k.value)) (shared_words k.value) (k.shares One) (k.shares Two) (k.shares Three)
      (shared.sizes One) (shared.sizes Two) (shared.sizes Three) (shared.words Three) shared.sum

  -- what the dealer takes for it
  abbrev m : ℕ
  m = 2 * shared_size (type_of k.value) (count_of k.value)

  left_words : drop m words ≡ rest
  left_words =
      drop-front m (k.shares One ++ k.shares Two) rest
      (let l = length-append (k.shares One) (k.shares Two) in
      let a = shared.sizes One in
      let b = shared.sizes Two in
      let c = length-shared_words k.value in
      omega (arith, l, a, b, c))

-- ---- all of them

abbrev entry_with : Kept → List ℕ → ShareEntry
entry_with k words = record { name = k.name; part = part.Private (record { data_type = type_of k.value; shape = shape_of k.value; words = words }) }

carried_entries : (i : Number) (ks : List Kept) → AllShared ks → map (carried_entry i) ks ≡ dealt_entries i (map input_of ks) (tape_of ks)
carried_entries i [] h = refl
carried_entries i (k ∷ ks) h =
    ap (λ (es : List ShareEntry). carried_entry i k ∷ es) (carried_entries i ks h.1)
    ∙ ap (λ w. carried_entry i k ∷ dealt_entries i (map input_of ks) w) (sym (left_words k h.0 (tape_of ks)))
    ∙ ap (λ w. entry_with k w ∷ dealt_entries i (map input_of ks) (drop (2 * shared_size (type_of k.value) (count_of k.value)) (tape_of (k ∷ ks)))) (sym (dealt_share k h.0 (tape_of ks) i))

pub carried_is_dealt : (i : Number) (ks : List Kept) (miners : List ℕ) → AllShared ks
    → carried i ks miners ≡ dealt i (map input_of ks) (tape_of ks) (lens_of ks miners)
carried_is_dealt i ks miners h = ap (λ es. record { entries = es; lens = lens_of ks miners; miner = i }) (carried_entries i ks h)
