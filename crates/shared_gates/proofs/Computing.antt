-- After a list of gates the miners hold values that fit it.
use Rattle.std.proofs.Common.{◌≡◌, ℕ, ◌+◌, ◌%◌, ◌<◌, ◌≤◌, Bool, List, [], ◌∷◌, ◌++◌, length, refl, sym, ◌∙◌, ap, subst, arith, inl, inr}
use Rattle.std.proofs.Common.{length-append, append_assoc}
use Rattle.std.specs.Prelude.{Option, Some, None, slice_get}
use Rattle.std.proofs.lemmas.Bool.{cases_lt}
use Rattle.std.proofs.lemmas.List.{length-map, get_or_append_left}
use Rattle.proto_core.specs.Rings.{add_ring, xor_ring}
use Rattle.proto_core.specs.RingsKeepLaws.{add_ring_laws, xor_ring_laws}
use Rattle.proto_core.specs.declared.party.Number.{Number}
use Rattle.proto_core.specs.declared.party.Number.TheVariants.{One}
use Rattle.proto_core.specs.Protocol.{Joint, Protocol, Fits, Sound, AreBlocks}
use Rattle.proto_core.proofs.Beginnings.{append-none}
use Rattle.protocol_model.specs.Gates.{Joined, nth_value, sizes_of}
use Rattle.protocol_model.specs.Gates as model
use Rattle.protocol_model.specs.Runs.{Shares, Tapes, drawn, gate_joint, after, after_local, run_values, run_opened, left, Ready}
use Rattle.protocol_model.proofs.Sizes.{block-fits, ready-next, ready-local, sizes-append}
use Rattle.blocked_protocol.specs.Multiplying.{mul_protocol}
use Rattle.blocked_protocol.specs.Opening.{open_protocol}
use Rattle.blocked_protocol.specs.Resharing.{reshare_protocol}
use Rattle.blocked_protocol.specs.Converting.{conv_protocol}
use Rattle.blocked_protocol.specs.Splitting.{split_protocol}
use Rattle.gates.specs.Blocks.{block_sizes}
use Rattle.gates.specs.declared.ring_kind.RingKind.{RingKind}
use Rattle.gates.specs.declared.ring_kind.RingKind.TheVariants.{Arithmetic, Boolean}
use Rattle.gates.specs.declared.gate.Gate.{Gate}
use Rattle.gates.specs.declared.gate.Gate.TheVariants.{Mul, And, Low, Split, Conv, Open, Result}
use Rattle.gates.specs.Clear.{Values, value, ring_of, clear_value, Suits, Makes, FitFrom}
use Rattle.gates.specs.Clear as clear
use Rattle.gates.specs.Counts.{size_of, made_by}
use Rattle.gates.proofs.Growing.{Suits-grown, Makes-grown, clear_value-grown}
use Rattle.blocked_protocol.specs.Blocked.{blocked}
use Rattle.blocked_protocol.specs.Outcomes.{nth}
use Rattle.blocked_protocol.proofs.Sizes.{block_sizes-cut}
use Rattle.blocked_protocol.proofs.Fitting.{no_words}
use Rattle.blocked_protocol.proofs.BlockViews.{same_words}
use Rattle.blocked_protocol.proofs.WholeGates.{mul_whole, open_whole, reshare_whole, conv_whole, split_whole}
use Rattle.shared_gates.specs.Shares.{AreShares, Kind, Shared, Known, Holds, kind_at, share_at, AllHeld}
use Rattle.shared_gates.specs.LocalGates.{local_share}
use Rattle.shared_gates.specs.Kinds.{AllKinded}
use Rattle.shared_gates.specs.Model.{size_made, AllSizesSuit, run_gates}
use Rattle.shared_gates.specs.Computed.{opened_by_gate, opened_values, Computed}
use Rattle.shared_gates.proofs.LocalGates.{laws_of, of_ring, local-held}
use Rattle.shared_gates.proofs.Models.{nth_value-value, size-value, local-size, suits-sizes}
use Rattle.shared_gates.proofs.Gained.{one-block, two-blocks, first-block-size, second-block-size, length-two, word_of, length-word, gained-product}
use Rattle.shared_gates.proofs.Gained.{gained-opened, gained-reshared, gained-converted, gained-split, first-word-shares, second-word-shares}

-- ---- one more value

same_values : (s t : Number → Values) → ((i : Number) → s i ≡ t i) → s ≡ t
same_values s t h = λ d. λ i. h i d

at_end : (xs : Values) (x : List ℕ) (ys : Values) → value (xs ++ x ∷ ys) (length xs) ≡ x
at_end [] x ys = refl
at_end (y ∷ xs) x ys = at_end xs x ys

stands_at_end : (xs : Values) (x : List ℕ) (ys : Values) → slice_get (xs ++ x ∷ ys) (length xs) ≡ Some x
stands_at_end [] x ys = refl
stands_at_end (y ∷ xs) x ys = stands_at_end xs x ys

one_longer : (xs : Values) (x : List ℕ) → length (xs ++ x ∷ []) ≡ length xs + 1
one_longer xs x = length-append xs (x ∷ [])

sizes-one : (xs : Values) (x : List ℕ) (sizes : List ℕ) (n : ℕ) → sizes_of xs ≡ sizes → length x ≡ n → sizes_of (xs ++ x ∷ []) ≡ sizes ++ n ∷ []
sizes-one xs x sizes n e f =
    sizes-append xs (x ∷ []) ∙ ap (λ s. s ++ length x ∷ []) e ∙ ap (λ k. sizes ++ k ∷ []) f

pub same-count : (xs ys : Values) → sizes_of xs ≡ sizes_of ys → length xs ≡ length ys
same-count xs ys e = sym (length-map xs length) ∙ ap length e ∙ length-map ys length

pub holds-size : (kind : Kind) (xs : List ℕ) (s : Number → List ℕ) → Holds kind xs s → (i : Number) → length xs ≡ length (s i)
holds-size (Shared ring) xs s h i = sym (h.sizes i)
holds-size Known xs s h i = sym (ap length (h i))

module _ (kinds : List Kind) where
  -- the miners hold the values that were there, and one more
  held-one :
      (before : Values) (shares : Number → Values) (x : List ℕ) (s : Number → List ℕ) → ((i : Number) → length before ≡ length (shares i)) →
      AllHeld kinds before shares → Holds (kind_at kinds (length before)) x s →
      AllHeld kinds (before ++ x ∷ []) (λ i. shares i ++ s i ∷ [])
  held-one before shares x s same held new k lt =
      elim (cases_lt k (length before)) as (λ c. Holds (kind_at kinds k) (value (before ++ x ∷ []) k) (share_at (λ i. shares i ++ s i ∷ []) k)) [
        | inl below ↦
            subst (λ xs. Holds (kind_at kinds k) xs (share_at (λ i. shares i ++ s i ∷ []) k)) (sym (get_or_append_left before (x ∷ []) [] k below))
            (subst (λ t. Holds (kind_at kinds k) (value before k) t)
            (same_words (share_at shares k) (share_at (λ i. shares i ++ s i ∷ []) k)
            (λ i. sym (get_or_append_left (shares i) (s i ∷ []) [] k (subst (λ n. k < n) (same i) below))))
            (held k below))
        | inr past ↦ last k (omega (arith, one_longer before x))
      ]
    where
      last : (k : ℕ) → length before ≡ k → Holds (kind_at kinds k) (value (before ++ x ∷ []) k) (share_at (λ i. shares i ++ s i ∷ []) k)
      last k e =
          subst (λ n. Holds (kind_at kinds n) (value (before ++ x ∷ []) n) (share_at (λ i. shares i ++ s i ∷ []) n)) e
          (subst (λ xs. Holds (kind_at kinds (length before)) xs (share_at (λ i. shares i ++ s i ∷ []) (length before))) (sym (at_end before x []))
          (subst (λ t. Holds (kind_at kinds (length before)) x t)
          (same_words s (share_at (λ i. shares i ++ s i ∷ []) (length before))
          (λ i. sym (at_end (shares i) (s i) []) ∙ ap (value (shares i ++ s i ∷ [])) (sym (same i))))
          new))

  -- ---- a gate, and then the others

  go_on :
      (inputs before made : Values) (gate : Gate) (gates : List Gate) (final : Number → Values) (opened later : List ℕ) →
      Suits inputs before (length before) gate → Makes inputs (before ++ made) (length before) gate → length made ≡ made_by gate →
      ((more : Values) → opened ≡ opened_by_gate ((before ++ made) ++ more) gate) →
      Computed kinds inputs (before ++ made) gates final later → Computed kinds inputs before (gate ∷ gates) final (opened ++ later)
  go_on inputs before made gate gates final opened later suits makes count opens rest =
      let all = append_assoc before made rest.more in
      let longer = length-append before made in
      let le : length before ≤ length (before ++ made) = omega arith in
      let refl_le : length before ≤ length before = omega arith in
      let suits_made : Suits inputs (before ++ made) (length before) gate = Suits-grown before made inputs (length before) gate refl_le suits in
      record {
        more = made ++ rest.more;
        fit =
            subst (λ values. FitFrom inputs values (length before) (gate ∷ gates)) all (
              Suits-grown (before ++ made) rest.more inputs (length before) gate le suits_made,
              Makes-grown (before ++ made) rest.more inputs (length before) gate le suits_made makes,
              subst (λ n. FitFrom inputs ((before ++ made) ++ rest.more) n gates) (longer ∙ ap (λ k. length before + k) count) rest.fit,
            );
        count = length-append made rest.more ∙ ap (λ k. k + length rest.more) count ∙ ap (λ k. made_by gate + k) rest.count;
        held = subst (λ values. AllHeld kinds values final) all rest.held;
        opens =
            ap (λ o. o ++ later) (opens rest.more)
            ∙ ap (λ o. opened_by_gate ((before ++ made) ++ rest.more) gate ++ o) rest.opens
            ∙ ap (λ values. opened_values values (gate ∷ gates)) all;
      }

-- a gate that makes one value, of others
abbrev MakesOne : Gate → Type 0
MakesOne (Split u negated) = ⊥
MakesOne gate = Unit {0}

makes-one :
    (inputs before : Values) (gate : Gate) → MakesOne gate → Suits inputs before (length before) gate →
    Makes inputs (before ++ clear_value inputs before gate ∷ []) (length before) gate
makes-one inputs before (Split u negated) one suits = absurd one
makes-one inputs before (Low u) one suits =
    let le : length before ≤ length before = omega arith in
    stands_at_end before (clear_value inputs before (Low u)) []
    ∙ ap Some (sym (clear_value-grown before (clear_value inputs before (Low u) ∷ []) inputs (length before) (Low u) le suits))
makes-one inputs before gate one suits =
    let le : length before ≤ length before = omega arith in
    stands_at_end before (clear_value inputs before gate) []
    ∙ ap Some (sym (clear_value-grown before (clear_value inputs before gate ∷ []) inputs (length before) gate le suits))

-- the two words of a splitting
module _ (before : Values) (x y : List ℕ) where
  abbrev with_two : Values
  with_two = before ++ x ∷ y ∷ []

  first_of_two : value with_two (length before) ≡ x
  first_of_two = at_end before x (y ∷ [])

  second_of_two : value with_two (length before + 1) ≡ y
  second_of_two =
      ap (value with_two) (sym (one_longer before x))
      ∙ ap (λ vs. value vs (length (before ++ x ∷ []))) (sym (append_assoc before (x ∷ []) (y ∷ [])))
      ∙ at_end (before ++ x ∷ []) y []

  second_stands : slice_get with_two (length before + 1) ≡ Some y
  second_stands =
      ap (slice_get with_two) (sym (one_longer before x))
      ∙ ap (λ vs. slice_get vs (length (before ++ x ∷ []))) (sym (append_assoc before (x ∷ []) (y ∷ [])))
      ∙ stands_at_end (before ++ x ∷ []) y []

  makes-split :
      (inputs : Values) (u : ℕ) (negated : Bool) → u < length before → clear.IsSplit negated (value before u) x y →
      Makes inputs with_two (length before) (Split u negated)
  makes-split inputs u negated lt split = (
    stands_at_end before x (y ∷ []) ∙ ap Some (sym first_of_two),
    second_stands ∙ ap Some (sym second_of_two),
    subst (λ us. clear.IsSplit negated us (value with_two (length before)) (value with_two (length before + 1)))
        (sym (get_or_append_left before (x ∷ y ∷ []) [] u lt))
        (subst (λ a. clear.IsSplit negated (value before u) a (value with_two (length before + 1))) (sym first_of_two)
        (subst (λ b. clear.IsSplit negated (value before u) x b) (sym second_of_two) split)),
  )

-- ---- after a whole gate

module _ (before : Values) (sizes : List ℕ) (shares : Shares) (tapes : Tapes) (p : Protocol) (n u : ℕ) (v : Option ℕ) (gates : List model.Gate)
    (sound : Sound p) (ready : Ready (Joined p n u v ∷ gates) shares tapes) (before_sizes : sizes_of before ≡ sizes)
    (share_sizes : (i : Number) → sizes_of (shares i) ≡ sizes) where
  abbrev j : Joint
  j = gate_joint u v shares (drawn p n tapes)

  abbrev out : Number → List (List ℕ)
  out i = p.output n j i

  abbrev next_shares : Shares
  next_shares = after p n u v shares (drawn p n tapes)

  fits : Fits p n j
  fits = block-fits p n u v gates shares tapes ready

  silent : p.opens n ≡ 0 → p.opened n j ≡ []
  silent none = sym (no_words (p.opened n j) (sound.opens n j fits ∙ none))

  same_count : (i : Number) → length before ≡ length (shares i)
  same_count i = same-count before (shares i) (before_sizes ∙ sym (share_sizes i))

  -- of one block
  module _ (made : p.made n ≡ n ∷ []) where
    blocks : (i : Number) → AreBlocks (n ∷ []) (out i)
    blocks i = subst (λ s. AreBlocks s (out i)) made (sound.blocks n j fits i)

    next_is : (i : Number) → shares i ++ nth 0 out i ∷ [] ≡ next_shares i
    next_is i = ap (λ b. shares i ++ b) (one-block n (out i) (blocks i))

    next_sizes : (i : Number) → sizes_of (next_shares i) ≡ sizes ++ n ∷ []
    next_sizes i =
        sym (ap sizes_of (next_is i)) ∙ sizes-one (shares i) (nth 0 out i) sizes n (share_sizes i) (first-block-size n [] (out i) (blocks i))

    next_held :
        (kinds : List Kind) (x : List ℕ) → AllHeld kinds before shares → Holds (kind_at kinds (length before)) x (nth 0 out) →
        AllHeld kinds (before ++ x ∷ []) next_shares
    next_held kinds x held new =
        subst (λ s. AllHeld kinds (before ++ x ∷ []) s) (same_values _ next_shares next_is)
        (held-one kinds before shares x (nth 0 out) same_count held new)

  -- of two
  module _ (made : p.made n ≡ n ∷ n ∷ []) where
    pair_blocks : (i : Number) → AreBlocks (n ∷ n ∷ []) (out i)
    pair_blocks i = subst (λ s. AreBlocks s (out i)) made (sound.blocks n j fits i)

    pair_is : (i : Number) → (shares i ++ nth 0 out i ∷ []) ++ nth 1 out i ∷ [] ≡ next_shares i
    pair_is i =
        append_assoc (shares i) (nth 0 out i ∷ []) (nth 1 out i ∷ []) ∙ ap (λ b. shares i ++ b) (two-blocks n n (out i) (pair_blocks i))

    pair_sizes : (i : Number) → sizes_of (next_shares i) ≡ sizes ++ n ∷ n ∷ []
    pair_sizes i =
        sym (ap sizes_of (pair_is i))
        ∙ sizes-one (shares i ++ nth 0 out i ∷ []) (nth 1 out i) (sizes ++ n ∷ []) n
        (sizes-one (shares i) (nth 0 out i) sizes n (share_sizes i) (first-block-size n (n ∷ []) (out i) (pair_blocks i)))
        (second-block-size n n [] (out i) (pair_blocks i))
        ∙ append_assoc sizes (n ∷ []) (n ∷ [])

    pair_held :
        (kinds : List Kind) (x y : List ℕ) → AllHeld kinds before shares → Holds (kind_at kinds (length before)) x (nth 0 out) →
        Holds (kind_at kinds (length before + 1)) y (nth 1 out) → AllHeld kinds (before ++ x ∷ y ∷ []) next_shares
    pair_held kinds x y held first second =
        subst (λ values. AllHeld kinds values next_shares) (append_assoc before (x ∷ []) (y ∷ []))
        (subst (λ s. AllHeld kinds ((before ++ x ∷ []) ++ y ∷ []) s) (same_values _ next_shares pair_is)
        (held-one kinds (before ++ x ∷ []) (λ i. shares i ++ nth 0 out i ∷ []) y (nth 1 out)
        (λ i. one_longer before x ∙ ap (λ k. k + 1) (same_count i) ∙ sym (one_longer (shares i) (nth 0 out i)))
        (held-one kinds before shares x (nth 0 out) same_count held first)
        (subst (λ k. Holds (kind_at kinds k) y (nth 1 out)) (sym (one_longer before x)) second)))

-- ---- a list of gates

module _ (dealt_kinds kinds : List Kind) (inputs : Values) (dealt : Number → Values) (ds : List ℕ) (inputs_held : AllHeld dealt_kinds inputs dealt)
    (inputs_sizes : sizes_of inputs ≡ ds) (dealt_sizes : (i : Number) → sizes_of (dealt i) ≡ ds) where
  -- the shares of an operand
  operand-shares :
      (before : Values) (shares : Number → Values) → AllHeld kinds before shares → (ring : RingKind) (u : ℕ) → u < length before →
      kind_at kinds u ≡ Shared ring → AreShares (ring_of ring) (value before u) (λ i. nth_value (shares i) u)
  operand-shares before shares held ring u lt e =
      subst (λ s. AreShares (ring_of ring) (value before u) s)
      (same_words (share_at shares u) (λ i. nth_value (shares i) u) (λ i. sym (nth_value-value (shares i) u)))
      (of_ring dealt_kinds kinds inputs before dealt shares inputs_held held ring u lt e)

  made_kind : (before : Values) (xs : List ℕ) (s : Number → List ℕ) (kind : Kind) → kind_at kinds (length before) ≡ kind → Holds kind xs s
      → Holds (kind_at kinds (length before)) xs s
  made_kind before xs s kind e h = subst (λ k. Holds k xs s) (sym e) h

  operand-size : (before : Values) (sizes : List ℕ) (u : ℕ) → sizes_of before ≡ sizes → length (value before u) ≡ size_of sizes u
  operand-size before sizes u bs = size-value before u ∙ ap (λ s. size_of s u) bs

  in_place : (before : Values) (x : List ℕ) (gates : List Gate) → AllKinded dealt_kinds kinds (length before + 1) gates
      → AllKinded dealt_kinds kinds (length (before ++ x ∷ [])) gates
  in_place before x gates h = subst (λ k. AllKinded dealt_kinds kinds k gates) (sym (one_longer before x)) h

  -- what the others need after a gate, in a state of theirs
  abbrev Goes : (gates : List Gate) (before : Values) (sizes : List ℕ) (shares : Shares) (rest : List model.Gate) (tapes : Tapes) → Type 0
  Goes gates before sizes shares rest tapes =
      sizes_of before ≡ sizes → ((i : Number) → sizes_of (shares i) ≡ sizes) → AllHeld kinds before shares → Ready rest shares tapes →
      Computed kinds inputs before gates (run_values rest shares tapes) (run_opened rest shares tapes)

  -- a protocol that makes one value
  joined-gate :
      (gate : Gate) (gates : List Gate) (before : Values) (sizes : List ℕ) (shares : Shares) (tapes : Tapes) (p : Protocol) (n u : ℕ) (v : Option ℕ)
      (rest : List model.Gate) →
      sizes_of before ≡ sizes → ((i : Number) → sizes_of (shares i) ≡ sizes) → AllHeld kinds before shares → MakesOne gate →
      Suits inputs before (length before) gate → Sound p → p.made n ≡ n ∷ [] → Ready (Joined p n u v ∷ rest) shares tapes →
      length (clear_value inputs before gate) ≡ n →
      (Fits p n (gate_joint u v shares (drawn p n tapes)) → ((i : Number) → AreBlocks (n ∷ []) (p.output n (gate_joint u v shares (drawn p n tapes)) i)) →
      Holds (kind_at kinds (length before)) (clear_value inputs before gate) (nth 0 (p.output n (gate_joint u v shares (drawn p n tapes))))) →
      (Fits p n (gate_joint u v shares (drawn p n tapes)) → (more : Values) →
      p.opened n (gate_joint u v shares (drawn p n tapes)) ≡ opened_by_gate ((before ++ clear_value inputs before gate ∷ []) ++ more) gate) →
      Goes gates (before ++ clear_value inputs before gate ∷ []) (sizes ++ n ∷ []) (after p n u v shares (drawn p n tapes)) rest (left p n tapes) →
      Computed kinds inputs before (gate ∷ gates) (run_values (Joined p n u v ∷ rest) shares tapes) (run_opened (Joined p n u v ∷ rest) shares tapes)
  joined-gate gate gates before sizes shares tapes p n u v rest bs ss held one suits sound made ready size gained opens goes =
      let x : List ℕ = clear_value inputs before gate in
      let f = fits before sizes shares tapes p n u v rest sound ready bs ss in
      go_on kinds inputs before (x ∷ []) gate gates _ (p.opened n (gate_joint u v shares (drawn p n tapes))) _ suits
      (makes-one inputs before gate one suits) (makes_one_count gate one)
      (opens f)
      (goes (sizes-one before x sizes n bs size)
      (next_sizes before sizes shares tapes p n u v rest sound ready bs ss made)
      (next_held before sizes shares tapes p n u v rest sound ready bs ss made kinds x held
      (gained f (blocks before sizes shares tapes p n u v rest sound ready bs ss made)))
      (ready-next p n u v rest shares tapes ready sound))
    where
      makes_one_count : (gate : Gate) → MakesOne gate → 1 ≡ made_by gate
      makes_one_count (Split u negated) h = absurd h
      makes_one_count gate h = refl

  pub computes :
      (gates : List Gate) (before : Values) (sizes : List ℕ) (shares : Shares) (tapes : Tapes) →
      sizes_of before ≡ sizes → ((i : Number) → sizes_of (shares i) ≡ sizes) → AllHeld kinds before shares →
      AllKinded dealt_kinds kinds (length before) gates → AllSizesSuit ds sizes gates →
      Ready (run_gates dealt ds sizes gates) shares tapes →
      Computed kinds inputs before gates (run_values (run_gates dealt ds sizes gates) shares tapes) (run_opened (run_gates dealt ds sizes gates) shares tapes)
  computes [] before sizes shares tapes bs ss held kinded suit ready =
      record { more = []; fit = tt; count = refl; held = subst (λ values. AllHeld kinds values shares) (sym (append-none before)) held; opens = refl }
  computes (Mul u v ∷ gates) before sizes shares tapes bs ss held kinded suit ready =
      let n = size_of sizes u in
      let p = blocked (mul_protocol add_ring) in
      let j = gate_joint u (Some v) shares (drawn p n tapes) in
      let law = mul_whole block_sizes block_sizes-cut add_ring_laws in
      let suits = suits-sizes ds sizes inputs before inputs_sizes bs (Mul u v) suit.0 in
      let hu : length (value before u) ≡ n = operand-size before sizes u bs in
      let hv : length (value before v) ≡ n = operand-size before sizes v bs ∙ sym suit.0.same_size in
      let x : List ℕ = clear_value inputs before (Mul u v) in
      joined-gate (Mul u v) gates before sizes shares tapes p n u (Some v) (run_gates dealt ds (sizes ++ n ∷ []) gates) bs ss held tt suits law.sound refl ready
      (length-two add_ring n (value before u) (value before v) hu hv add_ring.mul)
      (λ f made.
      made_kind before x (nth 0 (p.output n j)) (Shared Arithmetic) kinded.0.1.1.0
      (gained-product n j (p.output n j) (p.opened n j) add_ring (value before u) (value before v) made hu hv
      (operand-shares before shares held Arithmetic u suits.first kinded.0.0)
      (operand-shares before shares held Arithmetic v suits.second kinded.0.1.0) (law.clear n j f)))
      (λ f more. sym (no_words (p.opened n j) (law.sound.opens n j f)))
      (λ bs2 ss2 held2 ready2.
      computes gates (before ++ x ∷ []) (sizes ++ n ∷ []) (after p n u (Some v) shares (drawn p n tapes)) (left p n tapes) bs2 ss2 held2
      (in_place before x gates kinded.1) suit.1 ready2)
  computes (And u v ∷ gates) before sizes shares tapes bs ss held kinded suit ready =
      let n = size_of sizes u in
      let p = blocked (mul_protocol xor_ring) in
      let j = gate_joint u (Some v) shares (drawn p n tapes) in
      let law = mul_whole block_sizes block_sizes-cut xor_ring_laws in
      let suits = suits-sizes ds sizes inputs before inputs_sizes bs (And u v) suit.0 in
      let hu : length (value before u) ≡ n = operand-size before sizes u bs in
      let hv : length (value before v) ≡ n = operand-size before sizes v bs ∙ sym suit.0.same_size in
      let x : List ℕ = clear_value inputs before (And u v) in
      joined-gate (And u v) gates before sizes shares tapes p n u (Some v) (run_gates dealt ds (sizes ++ n ∷ []) gates) bs ss held tt suits law.sound refl ready
      (length-two xor_ring n (value before u) (value before v) hu hv xor_ring.mul)
      (λ f made.
      made_kind before x (nth 0 (p.output n j)) (Shared Boolean) kinded.0.1.1.0
      (gained-product n j (p.output n j) (p.opened n j) xor_ring (value before u) (value before v) made hu hv
      (operand-shares before shares held Boolean u suits.first kinded.0.0) (operand-shares before shares held Boolean v suits.second kinded.0.1.0)
      (law.clear n j f)))
      (λ f more. sym (no_words (p.opened n j) (law.sound.opens n j f)))
      (λ bs2 ss2 held2 ready2.
      computes gates (before ++ x ∷ []) (sizes ++ n ∷ []) (after p n u (Some v) shares (drawn p n tapes)) (left p n tapes) bs2 ss2 held2
      (in_place before x gates kinded.1) suit.1 ready2)
  computes (Conv u ∷ gates) before sizes shares tapes bs ss held kinded suit ready =
      let n = size_of sizes u in
      let p = blocked conv_protocol in
      let j = gate_joint u None shares (drawn p n tapes) in
      let law = conv_whole block_sizes block_sizes-cut in
      let suits = suits-sizes ds sizes inputs before inputs_sizes bs (Conv u) suit.0 in
      let hu : length (value before u) ≡ n = operand-size before sizes u bs in
      let x : List ℕ = clear_value inputs before (Conv u) in
      joined-gate (Conv u) gates before sizes shares tapes p n u None (run_gates dealt ds (sizes ++ n ∷ []) gates) bs ss held tt suits law.sound refl ready
      (length-map (value before u) (λ w. w % 2) ∙ hu)
      (λ f made.
      made_kind before x (nth 0 (p.output n j)) (Shared Arithmetic) kinded.0.1.0
      (gained-converted n j (p.output n j) (p.opened n j) (value before u) made hu (operand-shares before shares held Boolean u suits kinded.0.0.0)
      (law.clear n j f)))
      (λ f more. sym (no_words (p.opened n j) (law.sound.opens n j f)))
      (λ bs2 ss2 held2 ready2.
      computes gates (before ++ x ∷ []) (sizes ++ n ∷ []) (after p n u None shares (drawn p n tapes)) (left p n tapes) bs2 ss2 held2
      (in_place before x gates kinded.1) suit.1 ready2)
  computes (Open ring u ∷ gates) before sizes shares tapes bs ss held kinded suit ready =
      let n = size_of sizes u in
      let p = blocked (open_protocol (ring_of ring)) in
      let j = gate_joint u None shares (drawn p n tapes) in
      let law = open_whole block_sizes block_sizes-cut (laws_of ring) in
      let suits = suits-sizes ds sizes inputs before inputs_sizes bs (Open ring u) suit.0 in
      let hu : length (value before u) ≡ n = operand-size before sizes u bs in
      let x : List ℕ = clear_value inputs before (Open ring u) in
      let us = operand-shares before shares held ring u suits kinded.0.0.0 in
      joined-gate (Open ring u) gates before sizes shares tapes p n u None (run_gates dealt ds (sizes ++ n ∷ []) gates) bs ss held tt suits law.sound refl ready
      hu
      (λ f made.
      made_kind before x (nth 0 (p.output n j)) Known kinded.0.1
      (gained-opened n j (p.output n j) (p.opened n j) (ring_of ring) (value before u) hu us (law.clear n j f)).1)
      (λ f more.
      (gained-opened n j (p.output n j) (p.opened n j) (ring_of ring) (value before u) hu us (law.clear n j f)).0
      ∙ sym (still before x more u suits))
      (λ bs2 ss2 held2 ready2.
      computes gates (before ++ x ∷ []) (sizes ++ n ∷ []) (after p n u None shares (drawn p n tapes)) (left p n tapes) bs2 ss2 held2
      (in_place before x gates kinded.1) suit.1 ready2)
    where
      still : (before : Values) (x : List ℕ) (more : Values) (u : ℕ) → u < length before → value ((before ++ x ∷ []) ++ more) u ≡ value before u
      still before x more u lt =
          ap (λ values. value values u) (append_assoc before (x ∷ []) more) ∙ get_or_append_left before (x ∷ more) [] u lt
  computes (Result ring u ∷ gates) before sizes shares tapes bs ss held kinded suit ready =
      let n = size_of sizes u in
      let p = blocked (reshare_protocol (ring_of ring)) in
      let j = gate_joint u None shares (drawn p n tapes) in
      let law = reshare_whole block_sizes block_sizes-cut (laws_of ring) in
      let suits = suits-sizes ds sizes inputs before inputs_sizes bs (Result ring u) suit.0 in
      let hu : length (value before u) ≡ n = operand-size before sizes u bs in
      let x : List ℕ = clear_value inputs before (Result ring u) in
      joined-gate (Result ring u) gates before sizes shares tapes p n u None (run_gates dealt ds (sizes ++ n ∷ []) gates) bs ss held tt suits
      law.sound refl ready
      hu
      (λ f made.
      made_kind before x (nth 0 (p.output n j)) (Shared ring) kinded.0.1.0
      (gained-reshared n j (p.output n j) (p.opened n j) (ring_of ring) (value before u) made hu
      (operand-shares before shares held ring u suits kinded.0.0) (law.clear n j f)))
      (λ f more. sym (no_words (p.opened n j) (law.sound.opens n j f)))
      (λ bs2 ss2 held2 ready2.
      computes gates (before ++ x ∷ []) (sizes ++ n ∷ []) (after p n u None shares (drawn p n tapes)) (left p n tapes) bs2 ss2 held2
      (in_place before x gates kinded.1) suit.1 ready2)
  computes (Split u negated ∷ gates) before sizes shares tapes bs ss held kinded suit ready =
      let n = size_of sizes u in
      let p = blocked (split_protocol negated) in
      let j = gate_joint u None shares (drawn p n tapes) in
      let law = split_whole block_sizes block_sizes-cut negated in
      let rest = run_gates dealt ds (sizes ++ n ∷ n ∷ []) gates in
      let suits = suits-sizes ds sizes inputs before inputs_sizes bs (Split u negated) suit.0 in
      let hu : length (value before u) ≡ n = operand-size before sizes u bs in
      let f : Fits p n j = fits before sizes shares tapes p n u None rest law.sound ready bs ss in
      let two : (i : Number) → AreBlocks (n ∷ n ∷ []) (p.output n j i) = pair_blocks before sizes shares tapes p n u None rest law.sound ready bs ss refl in
      let x : List ℕ = word_of n j (p.output n j) (p.opened n j) 0 in
      let y : List ℕ = word_of n j (p.output n j) (p.opened n j) 1 in
      let hx : length x ≡ n = length-word n j (p.output n j) (p.opened n j) 0 in
      let hy : length y ≡ n = length-word n j (p.output n j) (p.opened n j) 1 in
      let split = gained-split n j (p.output n j) (p.opened n j) xor_ring_laws negated (value before u) hu
      (operand-shares before shares held Arithmetic u suits kinded.0.0.0) (law.clear n j f) in
      go_on kinds inputs before (x ∷ y ∷ []) (Split u negated) gates _ (p.opened n j) _ suits (makes-split before x y inputs u negated suits split) refl
      (λ more. sym (no_words (p.opened n j) (law.sound.opens n j f)))
      (computes gates (before ++ x ∷ y ∷ []) (sizes ++ n ∷ n ∷ []) (after p n u None shares (drawn p n tapes)) (left p n tapes)
      (sizes-append before (x ∷ y ∷ []) ∙ ap (λ s. s ++ length x ∷ length y ∷ []) bs ∙ ap (λ k. sizes ++ k ∷ length y ∷ []) hx
      ∙ ap (λ k. sizes ++ n ∷ k ∷ []) hy)
      (pair_sizes before sizes shares tapes p n u None rest law.sound ready bs ss refl)
      (pair_held before sizes shares tapes p n u None rest law.sound ready bs ss refl kinds x y held
      (made_kind before x (nth 0 (p.output n j)) (Shared Boolean) kinded.0.1.0 (first-word-shares n j (p.output n j) (p.opened n j) two))
      (subst (λ kind. Holds kind y (nth 1 (p.output n j))) (sym kinded.0.1.1.0) (second-word-shares n j (p.output n j) (p.opened n j) two)))
      (subst (λ k. AllKinded dealt_kinds kinds k gates) (sym (length-append before (x ∷ y ∷ []))) kinded.1) suit.1
      (ready-next p n u None rest shares tapes ready law.sound))
  computes (gate ∷ gates) before sizes shares tapes bs ss held kinded suit ready =
      let x : List ℕ = clear_value inputs before gate in
      let suits = suits-sizes ds sizes inputs before inputs_sizes bs gate suit.0 in
      let new : Holds (kind_at kinds (length before)) x (λ i. local_share i (dealt i) (shares i) gate) =
      local-held dealt_kinds kinds inputs before dealt shares inputs_held held gate tt kinded.0 suits in
      let size : (i : Number) → length (local_share i (dealt i) (shares i) gate) ≡ size_made ds sizes gate =
      λ i. local-size ds sizes (dealt i) (shares i) (dealt_sizes i) (ss i) i gate tt suit.0 in
      go_on kinds inputs before (x ∷ []) gate gates _ [] _ suits (makes-one inputs before gate tt suits) refl
      (λ more. refl)
      (computes gates (before ++ x ∷ []) (sizes ++ size_made ds sizes gate ∷ []) (after_local (λ i own. local_share i (dealt i) own gate) shares) tapes
      (sizes-one before x sizes (size_made ds sizes gate) bs
      (holds-size (kind_at kinds (length before)) x (λ i. local_share i (dealt i) (shares i) gate) new One ∙ size One))
      (λ i. sizes-one (shares i) (local_share i (dealt i) (shares i) gate) sizes (size_made ds sizes gate) (ss i) (size i))
      (held-one kinds before shares x (λ i. local_share i (dealt i) (shares i) gate) (λ i. same-count before (shares i) (bs ∙ sym (ss i))) held new)
      (in_place before x gates kinded.1) suit.1
      (ready-local (size_made ds sizes gate) (λ i own. local_share i (dealt i) own gate) _ shares tapes ready))
