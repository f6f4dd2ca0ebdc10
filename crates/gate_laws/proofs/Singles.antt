-- What each gate gains whose operands stand.
use Rattle.std.proofs.Common.{◌≡◌, ℕ, ◌+◌, ◌*◌, ◌/◌, ◌<◌, ◌≤◌, Some, List, [], ◌∷◌, ◌++◌, length, map, take, drop, refl, sym, ap, ◌∙◌, subst, arith}
use Rattle.std.specs.Prelude.{slice_get, set, sum, replicate, ◌^◌, ◌%◌}
use Rattle.std.proofs.lemmas.List.{length-map}
use Rattle.proto_core.specs.Lists.{AreWords}
use Rattle.proto_core.specs.Rings.{add_ring, xor_ring}
use Rattle.gates.specs.declared.ring_kind.RingKind.{RingKind}
use Rattle.gates.specs.declared.ring_kind.RingKind.TheVariants.{Arithmetic, Boolean}
use Rattle.gates.specs.declared.gate.Gate.{Gate}
use Rattle.gates.specs.declared.gate.Gate.TheVariants as gates
use Rattle.gates.specs.Clear.{Values, value, ring_of, each_two, first_word, Makes, FitFrom}
use Rattle.gates.specs.Bits.{words_for}
use Rattle.gates.specs.Gathered.{packed, unpacked, bits_repeated, bit_taken, bit_put, bits_joined}
use Rattle.gates.specs.Counts.{Miner, size_of, made_by, words_of, words_of_conversion}
use Rattle.gates.proofs.Sizes.{size_of-value}
use Rattle.shared_plans.specs.Shares.{Kind, Shared, kind_at}
use Rattle.shared_plans.specs.Kinds.{AllShared, Kinded}
use Rattle.shared_plans.specs.Model.{PairOf, SizesSuit}
use Rattle.shared_plans.specs.GateRuns.{GateRun, IsWellFormed, dealt_sizes, value_count, value_sizes}
use Rattle.shared_plans.specs.Outcomes.{OpensNone, Follows}
use Rattle.shared_plans.proofs.KindedPlans.{shared-grown, shared-below, kind-behind}
use Rattle.shared_plans.proofs.GateRunLaws.{run-computes, computed-sizes, sizes-count, zero_tapes, zeros-go}
use Rattle.gate_laws.specs.Facts.{handed_by_gate, none_of, Stands}
use Rattle.gate_laws.proofs.Gains.{Gain, fact}

module _ (r : GateRun) (good : IsWellFormed r) where
  -- ---- what is known of a value that stands

  pub stands_below : (u : ℕ) (ring : RingKind) (us : List ℕ) → Stands r (fact u ring us) → u < value_count r
  stands_below u ring us h = subst (λ n. u < n) good.counted (shared-below r.kinds u ring h.kind)

  pub stands_inside : (u : ℕ) (ring : RingKind) (us : List ℕ) → Stands r (fact u ring us) → u < length (value_sizes r)
  stands_inside u ring us h = subst (λ n. u < n) (sym (sizes-count r good)) (stands_below u ring us h)

  -- some values fit the run, and have the sizes that are told
  pub stands_size : (u : ℕ) (ring : RingKind) (us : List ℕ) → Stands r (fact u ring us) → size_of (value_sizes r) u ≡ length us
  stands_size u ring us h =
      let tapes = zero_tapes r good in
      let ready = zeros-go r good in
      let computed = run-computes r good tapes ready in
      ap (λ sizes. size_of sizes u) (sym (computed-sizes r good tapes ready computed.more computed.count computed.held))
      ∙ size_of-value computed.more u ∙ ap length (h.words computed.more computed.fit)

  -- ---- one gate

  abbrev with_one : RingKind → List Kind
  with_one ring = r.kinds ++ Shared ring ∷ []

  new_kind : (ring : RingKind) → kind_at (with_one ring) (value_count r) ≡ Shared ring
  new_kind ring =
      let count : length r.kinds ≡ value_count r = good.counted in
      let e : length r.kinds + 0 ≡ value_count r = omega arith in
      subst (λ n. kind_at (with_one ring) n ≡ Shared ring) e (kind-behind r.kinds (Shared ring ∷ []) 0)

  pub one_follows :
      (g : Gate) (taken : Miner → ℕ) (ring : RingKind) → made_by g ≡ 1 → OpensNone (g ∷ [])
      → Kinded r.dealt_kinds (with_one ring) (value_count r) g → SizesSuit (dealt_sizes r) (value_sizes r) g
      → ((values : Values) (miner : Miner) → ((u : ℕ) → u < value_count r → length (value values u) ≡ size_of (value_sizes r) u)
      → words_of (map length values) miner g ≡ taken miner)
      → Follows r (g ∷ []) (Shared ring ∷ []) taken
  one_follows g taken ring one none kinded suits takes =
      record {
        kinded = (kinded, tt);
        suits = (suits, tt);
        counted = omega (arith, one);
        opens_none = none;
        takes = λ inputs values miner same fit. let t = takes values miner same in omega arith;
      }

  pub one_gain :
      (g : Gate) (taken : Miner → ℕ) (ring : RingKind) (ws : List ℕ) → made_by g ≡ 1 → OpensNone (g ∷ []) → ((values : Values) → handed_by_gate values g ≡ [])
      → Kinded r.dealt_kinds (with_one ring) (value_count r) g → SizesSuit (dealt_sizes r) (value_sizes r) g
      → ((values : Values) (miner : Miner) → ((u : ℕ) → u < value_count r → length (value values u) ≡ size_of (value_sizes r) u)
      → words_of (map length values) miner g ≡ taken miner)
      → ((values : Values) → FitFrom r.inputs values 0 r.gates → Makes r.inputs values (value_count r) g → slice_get values (value_count r) ≡ Some ws)
      → Gain r (g ∷ []) (Shared ring ∷ []) taken 0 ring ws
  one_gain g taken ring ws one none unhanded kinded suits takes makes =
      let e : value_count r + 0 ≡ value_count r = omega arith in
      record {
        follows = one_follows g taken ring one none kinded suits takes;
        none_handed = λ values. ap (λ z. z ++ []) (unhanded values);
        kind = refl;
        makes = λ values before fit. subst (λ n. slice_get values n ≡ Some ws) (sym e) (makes values before fit.1);
      }

  pub const_gain : (ring : RingKind) (ws : List ℕ) → AreWords ws → Gain r (gates.Const ws ∷ []) (Shared ring ∷ []) none_of 0 ring ws
  const_gain ring ws words =
      one_gain (gates.Const ws) none_of ring ws refl tt (λ values. refl) (words, (ring, (new_kind ring, tt))) tt (λ values miner same. refl)
      (λ values before m. m)

  pub input_gain : (k : ℕ) (ring : RingKind) (ws : List ℕ) → k < length r.inputs → value r.inputs k ≡ ws → kind_at r.dealt_kinds k ≡ Shared ring
      → Gain r (gates.Input k ∷ []) (Shared ring ∷ []) none_of 0 ring ws
  input_gain k ring ws there words kind =
      one_gain (gates.Input k) none_of ring ws refl tt (λ values. refl) (new_kind ring ∙ sym kind) (subst (λ n. k < n) (sym (length-map r.inputs length)) there)
      (λ values miner same. refl) (λ values before m. m ∙ ap (λ z. Some z) words)

  -- ---- one operand

  module _ (u : ℕ) (ring : RingKind) (us : List ℕ) (h : Stands r (fact u ring us)) where
    stays_shared : (own : RingKind) → kind_at (with_one own) u ≡ Shared ring
    stays_shared own = shared-grown r.kinds (Shared own ∷ []) u ring h.kind

    operand_size : (values : Values) → ((k : ℕ) → k < value_count r → length (value values k) ≡ size_of (value_sizes r) k)
        → size_of (map length values) u ≡ length us
    operand_size values same = size_of-value values u ∙ same u (stands_below u ring us h) ∙ stands_size u ring us h

    pub rep_gain : (n : ℕ) → length us ≡ 1 → Gain r (gates.Rep u n ∷ []) (Shared ring ∷ []) none_of 0 ring (replicate n (first_word us))
    rep_gain n single =
        one_gain (gates.Rep u n) none_of ring (replicate n (first_word us)) refl tt (λ values. refl) (ring, (stays_shared ring, (new_kind ring, tt)))
        (stands_inside u ring us h, stands_size u ring us h ∙ single) (λ values miner same. refl)
        (λ values before m. m ∙ ap (λ z. Some (replicate n (first_word z))) (h.words values before))

    pub part_gain : (from n : ℕ) → from + n ≤ length us → Gain r (gates.Part u from n ∷ []) (Shared ring ∷ []) none_of 0 ring (take n (drop from us))
    part_gain from n inside =
        one_gain (gates.Part u from n) none_of ring (take n (drop from us)) refl tt (λ values. refl) (ring, (stays_shared ring, (new_kind ring, tt)))
        (stands_inside u ring us h, subst (λ z. from + n ≤ z) (sym (stands_size u ring us h)) inside) (λ values miner same. refl)
        (λ values before m. m ∙ ap (λ z. Some (take n (drop from z))) (h.words values before))

    pub mulpub_gain : (list : List ℕ) → length us ≡ length list
        → Gain r (gates.MulPub ring u list ∷ []) (Shared ring ∷ []) none_of 0 ring (each_two (ring_of ring).mul us list)
    mulpub_gain list same =
        one_gain (gates.MulPub ring u list) none_of ring (each_two (ring_of ring).mul us list) refl tt (λ values. refl) (stays_shared ring, (new_kind ring, tt))
        (stands_inside u ring us h, stands_size u ring us h ∙ same) (λ values miner same. refl)
        (λ values before m. m ∙ ap (λ z. Some (each_two (ring_of ring).mul z list)) (h.words values before))

    -- each miner's share is made anew
    pub result_follows : Follows r (gates.Result ring u ∷ []) (Shared ring ∷ []) (λ m. length us)
    result_follows =
        one_follows (gates.Result ring u) (λ m. length us) ring refl tt (stays_shared ring, (new_kind ring, tt))
        (stands_inside u ring us h) (λ values miner same. operand_size values same)

  pub sum_gain : (u : ℕ) (us : List ℕ) → Stands r (fact u Arithmetic us)
      → Gain r (gates.Sum u ∷ []) (Shared Arithmetic ∷ []) none_of 0 Arithmetic (sum us % 2 ^ 64 ∷ [])
  sum_gain u us h =
      one_gain (gates.Sum u) none_of Arithmetic (sum us % 2 ^ 64 ∷ []) refl tt (λ values. refl)
      (stays_shared u Arithmetic us h Arithmetic, (new_kind Arithmetic, tt))
      (stands_inside u Arithmetic us h) (λ values miner same. refl)
      (λ values before m. m ∙ ap (λ z. Some (sum z % 2 ^ 64 ∷ [])) (h.words values before))

  -- packed bits
  module _ (u : ℕ) (us : List ℕ) (h : Stands r (fact u Boolean us)) where
    shared_two : AllShared Boolean (with_one Boolean) (u ∷ value_count r ∷ [])
    shared_two = (stays_shared u Boolean us h Boolean, (new_kind Boolean, tt))

    size_is : (n : ℕ) → length us ≡ n → size_of (value_sizes r) u ≡ n
    size_is n e = stands_size u Boolean us h ∙ e

    pub pack_gain : Gain r (gates.Pack u ∷ []) (Shared Boolean ∷ []) none_of 0 Boolean (packed us)
    pack_gain =
        one_gain (gates.Pack u) none_of Boolean (packed us) refl tt (λ values. refl) shared_two
        (stands_inside u Boolean us h) (λ values miner same. refl)
        (λ values before m. m ∙ ap (λ z. Some (packed z)) (h.words values before))

    pub unpack_gain : (n : ℕ) → length us ≡ words_for n → Gain r (gates.Unpack u n ∷ []) (Shared Boolean ∷ []) none_of 0 Boolean (unpacked us n)
    unpack_gain n e =
        one_gain (gates.Unpack u n) none_of Boolean (unpacked us n) refl tt (λ values. refl) shared_two
        (stands_inside u Boolean us h, size_is (words_for n) e) (λ values miner same. refl)
        (λ values before m. m ∙ ap (λ z. Some (unpacked z n)) (h.words values before))

    pub repbit_gain : (n : ℕ) → length us ≡ 1 → Gain r (gates.RepBit u n ∷ []) (Shared Boolean ∷ []) none_of 0 Boolean (bits_repeated us n)
    repbit_gain n e =
        one_gain (gates.RepBit u n) none_of Boolean (bits_repeated us n) refl tt (λ values. refl) shared_two
        (stands_inside u Boolean us h, size_is 1 e) (λ values miner same. refl)
        (λ values before m. m ∙ ap (λ z. Some (bits_repeated z n)) (h.words values before))

    pub partbit_gain : (i : ℕ) → i / 64 < length us → Gain r (gates.PartBit u i ∷ []) (Shared Boolean ∷ []) none_of 0 Boolean (bit_taken us i)
    partbit_gain i inside =
        one_gain (gates.PartBit u i) none_of Boolean (bit_taken us i) refl tt (λ values. refl) shared_two
        (stands_inside u Boolean us h, subst (λ n. i / 64 < n) (sym (stands_size u Boolean us h)) inside) (λ values miner same. refl)
        (λ values before m. m ∙ ap (λ z. Some (bit_taken z i)) (h.words values before))

  -- truth values as numbers
  pub conv_gain : (u : ℕ) (us : List ℕ) → Stands r (fact u Boolean us)
      → Gain r (gates.Conv u ∷ []) (Shared Arithmetic ∷ []) (λ m. words_of_conversion m (length us)) 0 Arithmetic (map (λ x. x % 2) us)
  conv_gain u us h =
      one_gain (gates.Conv u) (λ m. words_of_conversion m (length us)) Arithmetic (map (λ x. x % 2) us) refl tt (λ values. refl)
      ((stays_shared u Boolean us h Arithmetic, tt), (new_kind Arithmetic, tt))
      (stands_inside u Boolean us h) (λ values miner same. ap (words_of_conversion miner) (operand_size u Boolean us h values same))
      (λ values before m. m ∙ ap (λ z. Some (map (λ x. x % 2) z)) (h.words values before))

  -- ---- two operands

  module _ (u v : ℕ) (ring : RingKind) (us vs : List ℕ) (h : Stands r (fact u ring us)) (k : Stands r (fact v ring vs)) where
    pair_of : length us ≡ length vs → PairOf (value_sizes r) u v
    pair_of same =
        record {
          first = stands_inside u ring us h;
          second = stands_inside v ring vs k;
          same_size = stands_size u ring us h ∙ same ∙ sym (stands_size v ring vs k);
        }

    shared_three : AllShared ring (with_one ring) (u ∷ v ∷ value_count r ∷ [])
    shared_three = (stays_shared u ring us h ring, (stays_shared v ring vs k ring, (new_kind ring, tt)))

    pub cat_gain : Gain r (gates.Cat u v ∷ []) (Shared ring ∷ []) none_of 0 ring (us ++ vs)
    cat_gain =
        one_gain (gates.Cat u v) none_of ring (us ++ vs) refl tt (λ values. refl) (ring, shared_three)
        (stands_inside u ring us h, stands_inside v ring vs k) (λ values miner same. refl)
        (λ values before m. m ∙ ap (λ z. Some (z ++ value values v)) (h.words values before) ∙ ap (λ z. Some (us ++ z)) (k.words values before))

    pub put_gain : (i : ℕ) → i < length us → length vs ≡ 1 → Gain r (gates.Put u i v ∷ []) (Shared ring ∷ []) none_of 0 ring (set us i (first_word vs))
    put_gain i inside single =
        one_gain (gates.Put u i v) none_of ring (set us i (first_word vs)) refl tt (λ values. refl) (ring, shared_three)
        (stands_inside u ring us h, stands_inside v ring vs k, subst (λ n. i < n) (sym (stands_size u ring us h)) inside, stands_size v ring vs k ∙ single)
        (λ values miner same. refl)
        (λ values before m. m ∙ ap (λ z. Some (set z i (first_word (value values v)))) (h.words values before)
        ∙ ap (λ z. Some (set us i (first_word z))) (k.words values before))

    pub putbit_gain : ring ≡ Boolean → (i : ℕ) → i / 64 < length us → length vs ≡ 1
        → Gain r (gates.PutBit u i v ∷ []) (Shared ring ∷ []) none_of 0 ring (bit_put us i vs)
    putbit_gain e i inside single =
        one_gain (gates.PutBit u i v) none_of ring (bit_put us i vs) refl tt (λ values. refl)
        (subst (λ z. AllShared z (with_one ring) (u ∷ v ∷ value_count r ∷ [])) e shared_three)
        (stands_inside u ring us h, stands_inside v ring vs k, subst (λ n. i / 64 < n) (sym (stands_size u ring us h)) inside, stands_size v ring vs k ∙ single)
        (λ values miner same. refl)
        (λ values before m. m ∙ ap (λ z. Some (bit_put z i (value values v))) (h.words values before)
        ∙ ap (λ z. Some (bit_put us i z)) (k.words values before))

    pub catbit_gain : ring ≡ Boolean → (n m : ℕ) → length us ≡ words_for n → length vs ≡ words_for m
        → Gain r (gates.CatBit u n v m ∷ []) (Shared ring ∷ []) none_of 0 ring (bits_joined us n vs m)
    catbit_gain e n m left right =
        one_gain (gates.CatBit u n v m) none_of ring (bits_joined us n vs m) refl tt (λ values. refl)
        (subst (λ z. AllShared z (with_one ring) (u ∷ v ∷ value_count r ∷ [])) e shared_three)
        (stands_inside u ring us h, stands_inside v ring vs k, stands_size u ring us h ∙ left, stands_size v ring vs k ∙ right)
        (λ values miner same. refl)
        (λ values before p. p ∙ ap (λ z. Some (bits_joined z n (value values v) m)) (h.words values before)
        ∙ ap (λ z. Some (bits_joined us n z m)) (k.words values before))

    -- f of each two words, with t random words of each miner for each of them
    two_gain :
        (g : Gate) (f : ℕ → ℕ → ℕ) (t : ℕ) → length us ≡ length vs → made_by g ≡ 1 → OpensNone (g ∷ []) → ((values : Values) → handed_by_gate values g ≡ [])
        → (AllShared ring (with_one ring) (u ∷ v ∷ value_count r ∷ []) → Kinded r.dealt_kinds (with_one ring) (value_count r) g)
        → (PairOf (value_sizes r) u v → SizesSuit (dealt_sizes r) (value_sizes r) g)
        → ((sizes : List ℕ) (miner : Miner) → words_of sizes miner g ≡ t * size_of sizes u)
        → ((values : Values) → Makes r.inputs values (value_count r) g → slice_get values (value_count r) ≡ Some (each_two f (value values u) (value values v)))
        → Gain r (g ∷ []) (Shared ring ∷ []) (λ m. t * length us) 0 ring (each_two f us vs)
    two_gain g f t same one none unhanded kinded suits takes makes =
        one_gain g (λ m. t * length us) ring (each_two f us vs) one none unhanded (kinded shared_three) (suits (pair_of same))
        (λ values miner sizes. takes (map length values) miner ∙ ap (λ n. t * n) (operand_size u ring us h values sizes))
        (λ values before m. makes values m ∙ ap (λ z. Some (each_two f z (value values v))) (h.words values before)
        ∙ ap (λ z. Some (each_two f us z)) (k.words values before))

  module _ (u v : ℕ) (us vs : List ℕ) (same : length us ≡ length vs) where
    module _ (h : Stands r (fact u Arithmetic us)) (k : Stands r (fact v Arithmetic vs)) where
      pub add_gain : Gain r (gates.Add u v ∷ []) (Shared Arithmetic ∷ []) (λ m. 0 * length us) 0 Arithmetic (each_two add_ring.add us vs)
      add_gain = two_gain u v Arithmetic us vs h k (gates.Add u v) add_ring.add 0 same refl tt (λ values. refl) (λ q. q) (λ q. q)
          (λ sizes miner. omega arith) (λ values m. m)

      pub sub_gain : Gain r (gates.Sub u v ∷ []) (Shared Arithmetic ∷ []) (λ m. 0 * length us) 0 Arithmetic (each_two add_ring.sub us vs)
      sub_gain = two_gain u v Arithmetic us vs h k (gates.Sub u v) add_ring.sub 0 same refl tt (λ values. refl) (λ q. q) (λ q. q)
          (λ sizes miner. omega arith) (λ values m. m)

      pub mul_gain : Gain r (gates.Mul u v ∷ []) (Shared Arithmetic ∷ []) (λ m. 3 * length us) 0 Arithmetic (each_two add_ring.mul us vs)
      mul_gain = two_gain u v Arithmetic us vs h k (gates.Mul u v) add_ring.mul 3 same refl tt (λ values. refl) (λ q. q) (λ q. q) (λ sizes miner. refl)
          (λ values m. m)

    module _ (h : Stands r (fact u Boolean us)) (k : Stands r (fact v Boolean vs)) where
      pub xor_gain : Gain r (gates.Xor u v ∷ []) (Shared Boolean ∷ []) (λ m. 0 * length us) 0 Boolean (each_two xor_ring.add us vs)
      xor_gain = two_gain u v Boolean us vs h k (gates.Xor u v) xor_ring.add 0 same refl tt (λ values. refl) (λ q. q) (λ q. q) (λ sizes miner. omega arith)
          (λ values m. m)

      pub and_gain : Gain r (gates.And u v ∷ []) (Shared Boolean ∷ []) (λ m. 3 * length us) 0 Boolean (each_two xor_ring.mul us vs)
      and_gain = two_gain u v Boolean us vs h k (gates.And u v) xor_ring.mul 3 same refl tt (λ values. refl) (λ q. q) (λ q. q) (λ sizes miner. refl)
          (λ values m. m)
