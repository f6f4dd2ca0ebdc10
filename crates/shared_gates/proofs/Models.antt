-- The gates of a run are sound and private, and their sizes are as they want them.
use Rattle.std.proofs.Common.{◌≡◌, ℕ, zero, suc, ◌+◌, ◌*◌, ◌/◌, ◌<◌, ◌≤◌, List, [], ◌∷◌, ◌++◌, length, refl, sym, ◌∙◌, ap, subst, arith, length-append}
use Rattle.std.proofs.Common.{length-drop}
use Rattle.std.specs.Prelude.{Some, slice_get, replicate, sum, take, drop, ◌%◌, ◌^◌}
use Rattle.std.specs.List.{flat_map, range_with_len}
use Rattle.std.proofs.lemmas.List.FromFn.{length-map-range_with_len}
use Rattle.std.specs.Int.{w64, bit_not}
use Rattle.std.proofs.lemmas.List.{length-map, length-take-le, length-set, length-replicate}
use Rattle.proto_core.specs.RingsKeepLaws.{add_ring_laws, xor_ring_laws}
use Rattle.proto_core.specs.declared.party.Number.{Number}
use Rattle.proto_core.specs.declared.party.Number.TheVariants.{One, Two, Three}
use Rattle.protocol_model.specs.Gates.{nth_value, sizes_of, Sized, AreSound, ArePrivate}
use Rattle.gates.specs.Blocks.{block_sizes}
use Rattle.gates.specs.declared.gate.Gate.{Gate}
use Rattle.gates.specs.declared.gate.Gate.TheVariants.{Input, Const, Add, Sub, MulPub, Mul, Xor, And, Not, Shl, Shr, Low, Cat, Part, Put, Rep}
use Rattle.gates.specs.declared.gate.Gate.TheVariants.{Pack, Unpack, RepBit, PartBit, PutBit, CatBit}
use Rattle.gates.specs.declared.gate.Gate.TheVariants.{Sum, Stretch, Tile, SumEach, Split, Conv, Open, Result}
use Rattle.gates.specs.Clear.{Values, value, each_two, Suits}
use Rattle.gates.specs.Bits.{words_for}
use Rattle.gates.specs.Counts.{size_of}
use Rattle.gates.proofs.Packing.{length-packed, length-unpacked}
use Rattle.gates.proofs.Lengths.{length-repeated, length-taken, length-put, length-joined}
use Rattle.gates.proofs.Columns.{Column-of, Column-each_two}
use Rattle.blocked_protocol.proofs.Sizes.{block_sizes-cut}
use Rattle.blocked_protocol.proofs.WholeGates.{mul_whole, open_whole, reshare_whole, conv_whole, split_whole}
use Rattle.shared_gates.specs.LocalGates.{local_share, const_share, not_share, IsLocal}
use Rattle.shared_gates.specs.Model.{size_made, sizes_made, PairOf, SizesSuit, AllSizesSuit, run_gates}
use Rattle.shared_gates.proofs.LocalGates.{laws_of}

-- ---- sizes of values

pub nth_value-value : (values : Values) (k : ℕ) → nth_value values k ≡ value values k
nth_value-value [] k = sym (nothing_at k)
  where
    nothing_at : (k : ℕ) → value [] k ≡ []
    nothing_at zero = refl
    nothing_at (suc k) = refl
nth_value-value (x ∷ xs) zero = refl
nth_value-value (x ∷ xs) (suc k) = nth_value-value xs k

pub size-value : (values : Values) (k : ℕ) → length (value values k) ≡ size_of (sizes_of values) k
size-value [] zero = refl
size-value [] (suc k) = refl
size-value (x ∷ xs) zero = refl
size-value (x ∷ xs) (suc k) = size-value xs k

none_below : {P : Type 0} (k : ℕ) → k < 0 → P
none_below k h = absurd (never k h)
  where
    never : (k : ℕ) → k < 0 → ⊥
    never k h = omega arith

pub size_at-size : (sizes : List ℕ) (k : ℕ) → k < length sizes → slice_get sizes k ≡ Some (size_of sizes k)
size_at-size [] k h = none_below k h
size_at-size (n ∷ sizes) zero h = refl
size_at-size (n ∷ sizes) (suc k) h = size_at-size sizes k (omega arith)

-- ---- the protocols

sound-and-private : (dealt : Number → Values) (ds sizes : List ℕ) (gates : List Gate)
    → AreSound (run_gates dealt ds sizes gates) × ArePrivate (run_gates dealt ds sizes gates)
sound-and-private dealt ds sizes [] = (tt, tt)
sound-and-private dealt ds sizes (Mul u v ∷ gates) =
    let law = mul_whole block_sizes block_sizes-cut add_ring_laws in
    let rest = sound-and-private dealt ds (sizes ++ sizes_made ds sizes (Mul u v)) gates in
    ((law.sound, rest.0), (law.private, rest.1))
sound-and-private dealt ds sizes (And u v ∷ gates) =
    let law = mul_whole block_sizes block_sizes-cut xor_ring_laws in
    let rest = sound-and-private dealt ds (sizes ++ sizes_made ds sizes (And u v)) gates in
    ((law.sound, rest.0), (law.private, rest.1))
sound-and-private dealt ds sizes (Split u negated ∷ gates) =
    let law = split_whole block_sizes block_sizes-cut negated in
    let rest = sound-and-private dealt ds (sizes ++ sizes_made ds sizes (Split u negated)) gates in
    ((law.sound, rest.0), (law.private, rest.1))
sound-and-private dealt ds sizes (Conv u ∷ gates) =
    let law = conv_whole block_sizes block_sizes-cut in
    let rest = sound-and-private dealt ds (sizes ++ sizes_made ds sizes (Conv u)) gates in
    ((law.sound, rest.0), (law.private, rest.1))
sound-and-private dealt ds sizes (Open ring u ∷ gates) =
    let law = open_whole block_sizes block_sizes-cut (laws_of ring) in
    let rest = sound-and-private dealt ds (sizes ++ sizes_made ds sizes (Open ring u)) gates in
    ((law.sound, rest.0), (law.private, rest.1))
sound-and-private dealt ds sizes (Result ring u ∷ gates) =
    let law = reshare_whole block_sizes block_sizes-cut (laws_of ring) in
    let rest = sound-and-private dealt ds (sizes ++ sizes_made ds sizes (Result ring u)) gates in
    ((law.sound, rest.0), (law.private, rest.1))
sound-and-private dealt ds sizes (gate ∷ gates) = sound-and-private dealt ds (sizes ++ sizes_made ds sizes gate) gates

pub gates-sound : (dealt : Number → Values) (ds sizes : List ℕ) (gates : List Gate) → AreSound (run_gates dealt ds sizes gates)
gates-sound dealt ds sizes gates = (sound-and-private dealt ds sizes gates).0

pub gates-private : (dealt : Number → Values) (ds sizes : List ℕ) (gates : List Gate) → ArePrivate (run_gates dealt ds sizes gates)
gates-private dealt ds sizes gates = (sound-and-private dealt ds sizes gates).1

-- ---- sizes of what is made

pub length-each_two : (f : ℕ → ℕ → ℕ) (xs ys : List ℕ) → length xs ≡ length ys → length (each_two f xs ys) ≡ length xs
length-each_two f xs ys e = (Column-each_two f (Column-of (length xs) xs refl) (Column-of (length xs) ys (sym e))).size

length-stretch : (count : ℕ) (xs : List ℕ) → length (flat_map (λ x. replicate count x) xs) ≡ length xs * count
length-stretch count [] = omega arith
length-stretch count (x ∷ xs) =
    let more : suc (length xs) * count ≡ count + length xs * count = grind arith in
    length-append (replicate count x) (flat_map (λ y. replicate count y) xs)
    ∙ ap (λ n. n + length (flat_map (λ y. replicate count y) xs)) (length-replicate count x)
    ∙ ap (λ n. count + n) (length-stretch count xs)
    ∙ sym more

length-tile : (xs : List ℕ) (from count : ℕ) → length (flat_map (λ k. xs) (range_with_len from count)) ≡ length xs * count
length-tile xs from zero = omega arith
length-tile xs from (suc n) =
    let more : length xs * suc n ≡ length xs + length xs * n = grind arith in
    length-append xs (flat_map (λ k. xs) (range_with_len (from + 1) n)) ∙ ap (λ m. length xs + m) (length-tile xs (from + 1) n) ∙ sym more

length-const : (i : Number) (list : List ℕ) → length (const_share i list) ≡ length list
length-const One list = refl
length-const Two list = length-map list (λ x. 0)
length-const Three list = length-map list (λ x. 0)

length-not : (i : Number) (us : List ℕ) → length (not_share i us) ≡ length us
length-not One us = length-map us (bit_not w64)
length-not Two us = refl
length-not Three us = refl

module _ (ds sizes : List ℕ) (dealt own : Values) (dealt_sizes : sizes_of dealt ≡ ds) (own_sizes : sizes_of own ≡ sizes) where
  size_here : (u : ℕ) → length (value own u) ≡ size_of sizes u
  size_here u = size-value own u ∙ ap (λ s. size_of s u) own_sizes

  two_here : (f : ℕ → ℕ → ℕ) (u v : ℕ) → PairOf sizes u v → length (each_two f (value own u) (value own v)) ≡ size_of sizes u
  two_here f u v pair =
      length-each_two f (value own u) (value own v) (size_here u ∙ pair.same_size ∙ sym (size_here v)) ∙ size_here u

  pub local-size : (i : Number) (gate : Gate) → IsLocal gate → SizesSuit ds sizes gate → length (local_share i dealt own gate) ≡ size_made ds sizes gate
  local-size i (Input k) local suit = size-value dealt k ∙ ap (λ s. size_of s k) dealt_sizes
  local-size i (Const list) local suit = length-const i list
  local-size i (Add u v) local suit = two_here _ u v suit
  local-size i (Sub u v) local suit = two_here _ u v suit
  local-size i (MulPub ring u list) local suit =
      length-each_two _ (value own u) list (size_here u ∙ suit.1) ∙ size_here u
  local-size i (Mul u v) local suit = absurd local
  local-size i (Xor u v) local suit = two_here _ u v suit
  local-size i (And u v) local suit = absurd local
  local-size i (Not u) local suit = length-not i (value own u) ∙ size_here u
  local-size i (Shl u count) local suit = length-map (value own u) _ ∙ size_here u
  local-size i (Shr u count) local suit = length-map (value own u) _ ∙ size_here u
  local-size i (Low u) local suit = length-map (value own u) _ ∙ size_here u
  local-size i (Cat u v) local suit =
      length-append (value own u) (value own v) ∙ ap (λ n. n + length (value own v)) (size_here u) ∙ ap (λ n. size_of sizes u + n) (size_here v)
  local-size i (Part u from count) local suit =
      let here : length (value own u) ≡ size_of sizes u = size_here u in
      let le : from + count ≤ size_of sizes u = suit.1 in
      let l = length-drop from (value own u) in
      length-take-le count _ (omega arith)
  local-size i (Put u index v) local suit = length-set (value own u) index _ ∙ size_here u
  local-size i (Rep u count) local suit = length-replicate count _
  local-size i (Pack u) local suit = length-packed (value own u) ∙ ap words_for (size_here u)
  local-size i (Unpack u count) local suit = length-unpacked (value own u) count
  local-size i (RepBit u count) local suit = length-repeated (value own u) count
  local-size i (PartBit u index) local suit = length-taken (value own u) index
  local-size i (PutBit u index v) local suit = length-put (value own u) index (value own v) ∙ size_here u
  local-size i (CatBit u n v m) local suit = length-joined (value own u) n (value own v) m
  local-size i (Sum u) local suit = refl
  local-size i (Stretch u count) local suit = length-stretch count (value own u) ∙ ap (λ n. n * count) (size_here u)
  local-size i (Tile u count) local suit = length-tile (value own u) 0 count ∙ ap (λ n. n * count) (size_here u)
  local-size i (SumEach u size count) local suit = length-map-range_with_len (λ k. sum (take size (drop (k * size) (value own u))) % 2 ^ 64) 0 count
  local-size i (Split u negated) local suit = absurd local
  local-size i (Conv u) local suit = absurd local
  local-size i (Open ring u) local suit = absurd local
  local-size i (Result ring u) local suit = absurd local

pub gates-sized :
    (dealt : Number → Values) (ds sizes : List ℕ) (gates : List Gate) → ((i : Number) → sizes_of (dealt i) ≡ ds) →
    AllSizesSuit ds sizes gates → Sized (run_gates dealt ds sizes gates) sizes
gates-sized dealt ds sizes [] same suit = tt
gates-sized dealt ds sizes (Mul u v ∷ gates) same suit = (
  size_at-size sizes u suit.0.first,
  size_at-size sizes v suit.0.second ∙ ap Some (sym suit.0.same_size),
  gates-sized dealt ds (sizes ++ sizes_made ds sizes (Mul u v)) gates same suit.1,
)
gates-sized dealt ds sizes (And u v ∷ gates) same suit = (
  size_at-size sizes u suit.0.first,
  size_at-size sizes v suit.0.second ∙ ap Some (sym suit.0.same_size),
  gates-sized dealt ds (sizes ++ sizes_made ds sizes (And u v)) gates same suit.1,
)
gates-sized dealt ds sizes (Split u negated ∷ gates) same suit =
    (size_at-size sizes u suit.0, refl, gates-sized dealt ds (sizes ++ sizes_made ds sizes (Split u negated)) gates same suit.1)
gates-sized dealt ds sizes (Conv u ∷ gates) same suit =
    (size_at-size sizes u suit.0, refl, gates-sized dealt ds (sizes ++ sizes_made ds sizes (Conv u)) gates same suit.1)
gates-sized dealt ds sizes (Open ring u ∷ gates) same suit =
    (size_at-size sizes u suit.0, refl, gates-sized dealt ds (sizes ++ sizes_made ds sizes (Open ring u)) gates same suit.1)
gates-sized dealt ds sizes (Result ring u ∷ gates) same suit =
    (size_at-size sizes u suit.0, refl, gates-sized dealt ds (sizes ++ sizes_made ds sizes (Result ring u)) gates same suit.1)
gates-sized dealt ds sizes (gate ∷ gates) same suit = (
  λ i own e. local-size ds sizes (dealt i) own (same i) e i gate tt suit.0,
  gates-sized dealt ds (sizes ++ sizes_made ds sizes gate) gates same suit.1,
)

-- ---- gates suit values of these sizes

module _ (ds sizes : List ℕ) (inputs values : Values) (inputs_sizes : sizes_of inputs ≡ ds) (values_sizes : sizes_of values ≡ sizes) where
  count_inputs : length ds ≡ length inputs
  count_inputs = sym (ap length inputs_sizes) ∙ length-map inputs length

  count_values : length sizes ≡ length values
  count_values = sym (ap length values_sizes) ∙ length-map values length

  size_there : (u : ℕ) → length (value values u) ≡ size_of sizes u
  size_there u = size-value values u ∙ ap (λ s. size_of s u) values_sizes

  there : (u : ℕ) → u < length sizes → u < length values
  there u lt = subst (λ n. u < n) count_values lt

  pub suits-sizes : (gate : Gate) → SizesSuit ds sizes gate → Suits inputs values (length values) gate
  suits-sizes (Input k) suit = subst (λ n. k < n) count_inputs suit
  suits-sizes (Const list) suit = tt
  suits-sizes (Add u v) suit =
      record { first = there u suit.first; second = there v suit.second; same_size = size_there u ∙ suit.same_size ∙ sym (size_there v) }
  suits-sizes (Sub u v) suit =
      record { first = there u suit.first; second = there v suit.second; same_size = size_there u ∙ suit.same_size ∙ sym (size_there v) }
  suits-sizes (MulPub ring u list) suit = (there u suit.0, size_there u ∙ suit.1)
  suits-sizes (Mul u v) suit =
      record { first = there u suit.first; second = there v suit.second; same_size = size_there u ∙ suit.same_size ∙ sym (size_there v) }
  suits-sizes (Xor u v) suit =
      record { first = there u suit.first; second = there v suit.second; same_size = size_there u ∙ suit.same_size ∙ sym (size_there v) }
  suits-sizes (And u v) suit =
      record { first = there u suit.first; second = there v suit.second; same_size = size_there u ∙ suit.same_size ∙ sym (size_there v) }
  suits-sizes (Not u) suit = there u suit
  suits-sizes (Shl u count) suit = there u suit
  suits-sizes (Shr u count) suit = there u suit
  suits-sizes (Low u) suit = there u suit
  suits-sizes (Cat u v) suit = (there u suit.0, there v suit.1)
  suits-sizes (Part u from count) suit = (there u suit.0, subst (λ n. from + count ≤ n) (sym (size_there u)) suit.1)
  suits-sizes (Put u index v) suit =
      (there u suit.0, there v suit.1, subst (λ n. index < n) (sym (size_there u)) suit.2, size_there v ∙ suit.3)
  suits-sizes (Rep u count) suit = (there u suit.0, size_there u ∙ suit.1)
  suits-sizes (Pack u) suit = there u suit
  suits-sizes (Unpack u count) suit = (there u suit.0, size_there u ∙ suit.1)
  suits-sizes (RepBit u count) suit = (there u suit.0, size_there u ∙ suit.1)
  suits-sizes (PartBit u index) suit = (there u suit.0, subst (λ n. index / 64 < n) (sym (size_there u)) suit.1)
  suits-sizes (PutBit u index v) suit =
      (there u suit.0, there v suit.1, subst (λ n. index / 64 < n) (sym (size_there u)) suit.2, size_there v ∙ suit.3)
  suits-sizes (CatBit u n v m) suit = (there u suit.0, there v suit.1, size_there u ∙ suit.2, size_there v ∙ suit.3)
  suits-sizes (Sum u) suit = there u suit
  suits-sizes (Stretch u count) suit = there u suit
  suits-sizes (Tile u count) suit = there u suit
  suits-sizes (SumEach u size count) suit = (there u suit.0, size_there u ∙ suit.1)
  suits-sizes (Split u negated) suit = there u suit
  suits-sizes (Conv u) suit = there u suit
  suits-sizes (Open ring u) suit = there u suit
  suits-sizes (Result ring u) suit = there u suit
