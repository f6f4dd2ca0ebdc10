-- What gates end with that suit, on a tape that suffices for them, whatever messages come.
use Rattle.std.proofs.Common.{◌≡◌, ℕ, ◌+◌, ◌-◌, ◌<◌, ◌≤◌, ◌^◌, Bool, true, false, ◌&&◌, nat_le, if◌then◌else◌}
use Rattle.std.proofs.Common.{List, [], ◌∷◌, ◌++◌, length, take, drop}
use Rattle.std.proofs.Common.{refl, sym, ◌∙◌, ap, subst, arith, length-drop, length-append}
use Rattle.std.specs.Prelude.{Option, Some, None, map, slice_get}
use Rattle.std.proofs.lemmas.Bool.{le-leb}
use Rattle.std.proofs.lemmas.List.{length-map}
use Rattle.std.proofs.lemmas.Nat.{mod_below}
use Rattle.proto_core.specs.declared.party.Number.{Number}
use Rattle.proto_core.specs.Lists.{AreWords}
use Rattle.proto_core.specs.Resharing.{sum_of_three}
use Rattle.proto_core.specs.Strand.{Mail, Strand, Ends, Acts, Waits, Ran, accepts, came, run, taken, then_do}
use Rattle.proto_core.proofs.Each.{AreWords-each}
use Rattle.proto_core.proofs.Parts.{AreWords-append}
use Rattle.protocol_model.specs.Gates as model
use Rattle.protocol_model.specs.Gates.{Joined, Local, nth_value, operand, sizes_of, needed, gates_strand}
use Rattle.protocol_model.proofs.Sizes.{sizes-append, past_end, nth_value-sized}
use Rattle.gates.specs.Blocks.{block_sizes}
use Rattle.gates.specs.declared.ring_kind.RingKind.{RingKind}
use Rattle.gates.specs.declared.ring_kind.RingKind.TheVariants.{Arithmetic, Boolean}
use Rattle.gates.specs.declared.gate.Gate.{Gate}
use Rattle.gates.specs.declared.gate.Gate.TheVariants.{Mul, And, Split, Conv, Open, Result}
use Rattle.gates.specs.Counts.{size_of}
use Rattle.gates.specs.Clear.{Values, ring_of}
use Rattle.blocked_protocol.specs.Blocked.{blocked, blocks_strand, joined}
use Rattle.blocked_protocol.specs.Opening.{open_protocol}
use Rattle.shared_gates.specs.LocalGates.{local_share}
use Rattle.shared_gates.specs.Model.{sizes_made, SizesSuit, AllSizesSuit, run_gates, sizes_after}
use Rattle.shared_gates.proofs.Models.{local-size}
use Rattle.gate_exchanges.specs.declared.exchange.Exchange.{Exchange}
use Rattle.gate_exchanges.specs.declared.exchange.Exchange.TheVariants.{Product, Splitting, Conversion, Opening, Resharing}
use Rattle.gate_exchanges.specs.Exchanges.{protocol_of}
use Rattle.driven_nodes.specs.Steps.{last_of}
use Rattle.gate_node.specs.OwnGates.{GatesEnd, Whole, Stuck, own_gate, own_draws, can_run, own_gates, then_gates}
use Rattle.gate_node.proofs.Always.{EndsAlways, HaveSizes, always-then, gate-sized}
use Rattle.gate_node.proofs.Suiting.{test-is}
use Rattle.gate_node.proofs.OwnGates.{run-behind}

-- ---- strands

pub both : {A : Type 0} (P Q : A → Type 0) (s : Strand A) → EndsAlways P s → EndsAlways Q s → EndsAlways (λ a. P a × Q a) s
both P Q (Ends a) h k = (h, k)
both P Q (Acts act s) h k = both P Q s h k
both P Q (Waits l shape f) h k = λ m. both P Q (f m) (h m) (k m)

pub always : {A : Type 0} (P : A → Type 0) → ((a : A) → P a) → (s : Strand A) → EndsAlways P s
always P h (Ends a) = h a
always P h (Acts act s) = always P h s
always P h (Waits l shape f) = λ m. always P h (f m)

-- so it is of what a run leaves
pub left_always : {A : Type 0} (P : A → Type 0) (s : Strand A) (mail : Mail) → EndsAlways P s → EndsAlways P (run s mail).left
left_always P (Ends a) mail h = h
left_always P (Acts act s) mail h = left_always P s mail h
left_always {A = A} P (Waits l shape k) mail h = by_mail (mail l) (λ m. left_always P (k m) (taken l mail) (h m))
  where
    stands : Ran A
    stands = record { acts = []; left = Waits l shape k; unread = mail }

    by_mail : (ms : List (List ℕ)) → ((m : List ℕ) → EndsAlways P (run (k m) (taken l mail)).left)
        → EndsAlways P (came ms shape stands (λ m. run (k m) (taken l mail))).left
    by_mail [] more = h
    by_mail (m ∷ ms) more = by_shape (accepts shape m)
      where
        by_shape : (b : Bool) → EndsAlways P (if b then run (k m) (taken l mail) else stands).left
        by_shape true = more m
        by_shape false = h

-- ---- the sizes of what a gate makes

module _ (i : Number) (dealt values : Values) (tape : List ℕ) where
  abbrev MakesSizes : List ℕ → model.Gate → Type 0
  MakesSizes sizes g = EndsAlways (HaveSizes (sizes_of values ++ sizes)) (gates_strand i (g ∷ []) values tape)

  joined_makes : (e : Exchange) (n u : ℕ) (v : Option ℕ) → MakesSizes ((protocol_of e).made n) (Joined (blocked (protocol_of e)) n u v)
  joined_makes e n u v =
      always-then (HaveSizes ((protocol_of e).made n)) (HaveSizes (sizes_of values ++ (protocol_of e).made n))
      (blocks_strand (protocol_of e) (block_sizes n) i (nth_value values u) (operand values v) (take ((blocked (protocol_of e)).draws n i) tape))
      (λ made. Ends (values ++ made)) (gate-sized e n i _ _ _)
      (λ made same. sizes-append values made ∙ ap (λ s. sizes_of values ++ s) same)

  gate_makes :
      (gate : Gate) → SizesSuit (sizes_of dealt) (sizes_of values) gate →
      MakesSizes (sizes_made (sizes_of dealt) (sizes_of values) gate) (own_gate i dealt values gate)
  gate_makes (Mul u v) suit = joined_makes (Product Arithmetic) (size_of (sizes_of values) u) u (Some v)
  gate_makes (And u v) suit = joined_makes (Product Boolean) (size_of (sizes_of values) u) u (Some v)
  gate_makes (Split u negated) suit = joined_makes (Splitting negated) (size_of (sizes_of values) u) u None
  gate_makes (Conv u) suit = joined_makes Conversion (size_of (sizes_of values) u) u None
  gate_makes (Open ring u) suit = joined_makes (Opening ring) (size_of (sizes_of values) u) u None
  gate_makes (Result ring u) suit = joined_makes (Resharing ring) (size_of (sizes_of values) u) u None
  gate_makes gate suit =
      sizes-append values (local_share i dealt values gate ∷ [])
      ∙ ap (λ k. sizes_of values ++ k ∷ []) (local-size (sizes_of dealt) (sizes_of values) dealt values refl refl i gate tt suit)

-- ---- gates that suit

needed_apart : (i : Number) (g : model.Gate) (gates : List model.Gate) → needed (g ∷ []) i + needed gates i ≡ needed (g ∷ gates) i
needed_apart i (Joined p n u v) gates = omega arith
needed_apart i (Local n f) gates = omega arith

-- the words that gates draw after values of these sizes
abbrev pub draws_of : Number → (dealt : Values) → (sizes : List ℕ) → List Gate → ℕ
draws_of i dealt sizes gates = needed (run_gates (λ k. dealt) (sizes_of dealt) sizes gates) i

-- through, with values of the sizes that are told; what was drawn is gone from the tape
abbrev pub IsGone : Number → (dealt : Values) → List Gate → (values : Values) → (tape : List ℕ) → GatesEnd → Type 0
IsGone i dealt gates values tape (Whole all rest) =
    (sizes_of all ≡ sizes_after (sizes_of dealt) (sizes_of values) gates) × (length rest + draws_of i dealt (sizes_of values) gates ≡ length tape)
IsGone i dealt gates values tape Stuck = ⊥

module _ (i : Number) (dealt : Values) where
  abbrev ds : List ℕ
  ds = sizes_of dealt

  first_can :
      (values : Values) (tape : List ℕ) (gate : Gate) → SizesSuit ds (sizes_of values) gate → own_draws i dealt values gate ≤ length tape →
      can_run i dealt values tape gate ≡ true
  first_can values tape gate suit reach =
      ap (λ b. b && nat_le (own_draws i dealt values gate) (length tape)) ((test-is ds (sizes_of values) gate).1 suit)
      ∙ le-leb (own_draws i dealt values gate) (length tape) reach

  gone_then : (gate : Gate) (gates : List Gate) (values : Values) (tape : List ℕ) (all : Values) → own_draws i dealt values gate ≤ length tape
      → sizes_of all ≡ sizes_of values ++ sizes_made ds (sizes_of values) gate → (h : GatesEnd)
      → IsGone i dealt gates all (drop (own_draws i dealt values gate) tape) h → IsGone i dealt (gate ∷ gates) values tape h
  gone_then gate gates values tape all reach same Stuck h = h
  gone_then gate gates values tape all reach same (Whole ends rest) h =
      let later : List ℕ = sizes_of values ++ sizes_made ds (sizes_of values) gate in
      let n : ℕ = own_draws i dealt values gate in
      let left : length (drop n tape) ≡ length tape - n = length-drop n tape in
      let both = needed_apart i (own_gate i dealt values gate) (run_gates (λ k. dealt) ds later gates) in
      let draws : length rest + draws_of i dealt later gates ≡ length (drop n tape) =
      subst (λ ns. length rest + draws_of i dealt ns gates ≡ length (drop n tape)) same h.1 in
      (h.0 ∙ ap (λ ns. sizes_after ds ns gates) same, omega (arith, left, both, draws, reach))

  pub gates_go : (gates : List Gate) (values : Values) (tape : List ℕ) → AllSizesSuit ds (sizes_of values) gates
      → draws_of i dealt (sizes_of values) gates ≤ length tape → EndsAlways (IsGone i dealt gates values tape) (own_gates i dealt gates values tape)
  gates_go [] values tape suit reach = (refl, omega arith)
  gates_go (gate ∷ gates) values tape suit reach =
      let n : ℕ = own_draws i dealt values gate in
      let later : List ℕ = sizes_of values ++ sizes_made ds (sizes_of values) gate in
      let first : Strand Values = gates_strand i (own_gate i dealt values gate ∷ []) values tape in
      let apart = needed_apart i (own_gate i dealt values gate) (run_gates (λ k. dealt) ds later gates) in
      let now : n ≤ length tape = omega (arith, apart, reach) in
      let left : length (drop n tape) ≡ length tape - n = length-drop n tape in
      let rest : draws_of i dealt later gates ≤ length (drop n tape) = omega (arith, apart, reach, left) in
      subst (λ b. EndsAlways (IsGone i dealt (gate ∷ gates) values tape)
      (if b then then_do first (λ all. own_gates i dealt gates all (drop n tape)) else Ends Stuck))
      (sym (first_can values tape gate suit.0 now))
      (always-then (HaveSizes later) (IsGone i dealt (gate ∷ gates) values tape) first (λ all. own_gates i dealt gates all (drop n tape))
      (gate_makes i dealt values tape gate suit.0)
      (λ all same.
      weaken (IsGone i dealt gates all (drop n tape)) (IsGone i dealt (gate ∷ gates) values tape) (gone_then gate gates values tape all now same)
      (own_gates i dealt gates all (drop n tape))
      (gates_go gates all (drop n tape) (subst (λ ns. AllSizesSuit ds ns gates) (sym same) suit.1)
      (subst (λ ns. draws_of i dealt ns gates ≤ length (drop n tape)) (sym same) rest))))
    where
      weaken : (P Q : GatesEnd → Type 0) → ((h : GatesEnd) → P h → Q h) → (s : Strand GatesEnd) → EndsAlways P s → EndsAlways Q s
      weaken P Q so (Ends a) h = so a h
      weaken P Q so (Acts act s) h = weaken P Q so s h
      weaken P Q so (Waits l shape f) h = λ m. weaken P Q so (f m) (h m)

-- ---- the value that is opened last is of words, whatever came

ring_word : (ring : RingKind) (x y : ℕ) → (ring_of ring).add x y < 2 ^ 64
ring_word Arithmetic x y = mod_below _ (2 ^ 64) (omega arith)
ring_word Boolean x y = mod_below _ (2 ^ 64) (omega arith)

sum_words : (ring : RingKind) (n : ℕ) (x y z : List ℕ) → AreWords (sum_of_three (ring_of ring) n x y z)
unfolding sum_of_three
sum_words ring n x y z = AreWords-each n _ (λ k. ring_word ring _ _)

abbrev AllWords : List (List ℕ) → Type 0
AllWords [] = Unit {0}
AllWords (x ∷ xs) = AreWords x × AllWords xs

joined_words : (xs ys : List (List ℕ)) → AllWords xs → AllWords ys → AllWords (joined xs ys)
joined_words [] ys h k = tt
joined_words (x ∷ xs) [] h k = tt
joined_words (x ∷ xs) (y ∷ ys) h k = (AreWords-append x y h.0 k.0, joined_words xs ys h.1 k.1)

blocks_words : (ring : RingKind) (sizes : List ℕ) (i : Number) (u v words : List ℕ)
    → EndsAlways AllWords (blocks_strand (open_protocol (ring_of ring)) sizes i u v words)
blocks_words ring [] i u v words = (past_end, tt)
blocks_words ring (m ∷ sizes) i u v words =
    always-then AllWords AllWords ((open_protocol (ring_of ring)).strand m i (take m u) (take 0 v) (take m words))
    (λ here.
    then_do (blocks_strand (open_protocol (ring_of ring)) sizes i (drop m u) (drop 0 v) (drop m words)) (λ later. Ends (joined here later)))
    (λ a b c. (sum_words ring m _ _ _, tt))
    (λ here h.
    always-then AllWords AllWords (blocks_strand (open_protocol (ring_of ring)) sizes i (drop m u) (drop 0 v) (drop m words))
    (λ later. Ends (joined here later))
    (blocks_words ring sizes i _ _ _) (λ later k. joined_words here later h k))

nth_last : (values : Values) (m : List ℕ) → nth_value (values ++ m ∷ []) (length values) ≡ m
nth_last [] m = refl
nth_last (x ∷ values) m = nth_last values m

pub last_made : (values : Values) (m : List ℕ) → last_of (values ++ m ∷ []) ≡ m
last_made values m =
    let both : length (values ++ m ∷ []) ≡ length values + 1 = length-append values (m ∷ []) in
    let e : length (values ++ m ∷ []) - 1 ≡ length values = omega (arith, both) in
    ap (nth_value (values ++ m ∷ [])) e ∙ nth_last values m

abbrev pub LastWords : GatesEnd → Type 0
LastWords (Whole all rest) = AreWords (last_of all)
LastWords Stuck = Unit {0}

made_words : (n : ℕ) (values made : Values) → HaveSizes (n ∷ []) made → AllWords made → AreWords (last_of (values ++ made))
made_words n values [] same h = absurd (none same)
  where
    none : ◌≡◌ {A = List ℕ} [] (n ∷ []) → ⊥
    none e = cc
made_words n values (m ∷ []) same h = subst AreWords (sym (last_made values m)) h.0
made_words n values (m ∷ x ∷ xs) same h = absurd (more same)
  where
    more : ◌≡◌ {A = List ℕ} (length m ∷ length x ∷ map length xs) (n ∷ []) → ⊥
    more e = cc

module _ (i : Number) (dealt : Values) (ring : RingKind) (u : ℕ) where
  opening_last : (values : Values) (tape : List ℕ) → EndsAlways LastWords (own_gates i dealt (Open ring u ∷ []) values tape)
  opening_last values tape = by_test (can_run i dealt values tape (Open ring u))
    where
      n : ℕ
      n = size_of (sizes_of values) u

      opened : Strand Values
      opened =
          blocks_strand (open_protocol (ring_of ring)) (block_sizes n) i (nth_value values u) []
          (take ((blocked (open_protocol (ring_of ring))).draws n i) tape)

      on : Values → Strand GatesEnd
      on all = Ends (Whole all (drop (own_draws i dealt values (Open ring u)) tape))

      made : EndsAlways (λ m. HaveSizes (n ∷ []) m × AllWords m) opened
      made = both (HaveSizes (n ∷ [])) AllWords opened (gate-sized (Opening ring) n i _ _ _) (blocks_words ring (block_sizes n) i _ _ _)

      behind : EndsAlways LastWords (then_do (then_do opened (λ m. Ends (values ++ m))) on)
      behind =
          always-then (λ all. AreWords (last_of all)) LastWords (then_do opened (λ m. Ends (values ++ m))) on
          (always-then (λ m. HaveSizes (n ∷ []) m × AllWords m) (λ all. AreWords (last_of all)) opened (λ m. Ends (values ++ m)) made
          (λ m h. made_words n values m h.0 h.1))
          (λ all h. h)

      by_test : (b : Bool) → EndsAlways LastWords (if b then then_do (then_do opened (λ m. Ends (values ++ m))) on else Ends Stuck)
      by_test true = behind
      by_test false = tt

  -- after others
  pub opened_last : (before : List Gate) (values : Values) (tape : List ℕ)
      → EndsAlways LastWords (own_gates i dealt (before ++ Open ring u ∷ []) values tape)
  opened_last before values tape =
      subst (EndsAlways LastWords) (sym (run-behind i dealt (Open ring u ∷ []) before values tape))
      (always-then (λ h. Unit {0}) LastWords (own_gates i dealt before values tape) (then_gates i dealt (Open ring u ∷ []))
      (always (λ h. Unit {0}) (λ h. tt) (own_gates i dealt before values tape)) (λ h _. behind h))
    where
      behind : (h : GatesEnd) → EndsAlways LastWords (then_gates i dealt (Open ring u ∷ []) h)
      behind (Whole all rest) = opening_last all rest
      behind Stuck = tt

-- the size of the last of some values
size_last : (ns : List ℕ) (n : ℕ) → slice_get (ns ++ n ∷ []) (length ns) ≡ Some n
size_last [] n = refl
size_last (x ∷ ns) n = size_last ns n

pub last_sized : (values : Values) (ns : List ℕ) (n : ℕ) → sizes_of values ≡ ns ++ n ∷ [] → length (last_of values) ≡ n
last_sized values ns n same =
    let count : length (sizes_of values) ≡ length values = length-map values length in
    let long : length (sizes_of values) ≡ length ns + 1 = ap length same ∙ length-append ns (n ∷ []) in
    let e : length values - 1 ≡ length ns = omega (arith, count, long) in
    nth_value-sized values (length values - 1) n (ap (λ k. slice_get (sizes_of values) k) e ∙ ap (λ s. slice_get s (length ns)) same ∙ size_last ns n)
