-- What is made of gates, one after another.
use Rattle.std.proofs.Common.{◌≡◌, ℕ, ◌+◌, ◌-◌, ◌<◌, ◌≤◌, true, List, [], ◌∷◌, ◌++◌, length, take, drop, get_or, refl, sym, ◌∙◌, ap, subst, arith, length-drop}
use Rattle.std.proofs.lemmas.List.{append_assoc, drop_all, drop_more, get_or_default, get_or_past, length-take-le}
use Rattle.proto_core.specs.Ring.{Ring}
use Rattle.proto_core.specs.Lists.{at}
use Rattle.proto_core.proofs.Beginnings.{append-none}
use Rattle.proto_core.specs.declared.party.Number.{Number}
use Rattle.proto_core.specs.declared.party.Number.TheVariants.{One, Two}
use Rattle.protocol_model.specs.Gates.{needed}
use Rattle.protocol_model.specs.Runs.{Tapes}
use Rattle.protocol_model.proofs.Sizes.{needed-append}
use Rattle.gates.specs.declared.gate.Gate.{Gate}
use Rattle.gates.specs.declared.gate.Gate.TheVariants.{Mul, And, Split, Conv, Open, Result}
use Rattle.gates.specs.declared.ring_kind.RingKind.{RingKind}
use Rattle.gates.specs.Clear.{Values, value, ring_of}
use Rattle.gates.specs.Counts.{made_by, size_of}
use Rattle.shared_gates.specs.Model.{sizes_made, run_gate, run_gates}
use Rattle.shared_gates.proofs.GatesBehind.{sizes-then}
use Rattle.shared_gates.proofs.Models.{size-value}
use Rattle.joint_run.specs.declared.run.JointRun.{JointRun}
use Rattle.joint_run.specs.Three.{each_of, values_of}
use Rattle.joint_run.specs.States.{state_of}
use Rattle.joint_run.specs.RunState.{RunState}
use Rattle.joint_run.specs.JointRuns.{dealt_sizes, CanRun, sizes_behind, words_for, words_for_next}
use Rattle.joint_run.specs.GateByGate.{Through, own_sizes, RunsGate}
use Rattle.joint_run.proofs.GateLists.{next-through}
use Rattle.handed_shares.specs.Handed.{all_of}
use Rattle.open_result.specs.Opening.{left_of_opened}
use Rattle.client_model.specs.Given.{Given, made_given, slots_of, made_by_gate, published_after, after_gate, made_from}
use Rattle.tape_twin.proofs.Passing.{same_for}
use Rattle.client_runs.proofs.GivenShares.{draws-at}
use Rattle.client_simulator.specs.inner.Steps.{HasSlots}

-- how many words a gate draws doesn't hang on what was dealt
needs-same :
    (dealt : Number → Values) (ds sizes : List ℕ) (gate : Gate) (i : Number) →
    needed (run_gate dealt ds sizes gate ∷ []) i ≡ needed (run_gate (λ k. []) ds sizes gate ∷ []) i
needs-same dealt ds sizes (Mul u v) i = refl
needs-same dealt ds sizes (And u v) i = refl
needs-same dealt ds sizes (Split u negated) i = refl
needs-same dealt ds sizes (Conv u) i = refl
needs-same dealt ds sizes (Open ring u) i = refl
needs-same dealt ds sizes (Result ring u) i = refl
needs-same dealt ds sizes _ i = refl

pub all-need-same :
    (dealt other : Number → Values) (ds sizes : List ℕ) (gates : List Gate) (i : Number) →
    needed (run_gates dealt ds sizes gates) i ≡ needed (run_gates other ds sizes gates) i
all-need-same dealt other ds sizes [] i = refl
all-need-same dealt other ds sizes (gate ∷ gates) i =
    let next : List ℕ = sizes ++ sizes_made ds sizes gate in
    needed-append (run_gate dealt ds sizes gate ∷ []) (run_gates dealt ds next gates) i
    ∙ ap (λ n. n + needed (run_gates dealt ds next gates) i) (needs-same dealt ds sizes gate i ∙ sym (needs-same other ds sizes gate i))
    ∙ ap (λ n. needed (run_gate other ds sizes gate ∷ []) i + n) (all-need-same dealt other ds next gates i)
    ∙ sym (needed-append (run_gate other ds sizes gate ∷ []) (run_gates other ds next gates) i)

-- ---- ONE GATE

pub nothing-made :
    (gate : Gate) (sizes : List ℕ) (words : Values) (tapes : Tapes) → ((ring : RingKind) (u : ℕ) → gate ≡ Result ring u → ⊥) →
    made_by_gate gate true sizes words tapes ≡ []
nothing-made (Result ring u) sizes words tapes not = absurd (not ring u refl)
nothing-made _ sizes words tapes not = refl

pub nothing-taken :
    (gate : Gate) (words : Values) → ((ring : RingKind) (u : ℕ) → gate ≡ Result ring u → ⊥) → published_after gate true words ≡ words
nothing-taken (Result ring u) words not = absurd (not ring u refl)
nothing-taken _ words not = refl

pub none-left : (ring : RingKind) (u : ℕ) (sizes : List ℕ) (words : Values) (tapes : Tapes) (k : ℕ) → length words ≤ k →
    made_by_gate (Result ring u) true sizes (drop k words) tapes ≡ []
none-left ring u sizes words tapes k le = ap (λ (ws : Values). made_by_gate (Result ring u) true sizes ws tapes) (drop_all k words le)

pub none-after : (ring : RingKind) (u : ℕ) (words : Values) (k : ℕ) → length words ≤ k → drop k words ≡ published_after (Result ring u) true (drop k words)
none-after ring u words k le =
    drop_all k words le ∙ sym (ap (λ (ws : Values). published_after (Result ring u) true ws) (drop_all k words le))

next-words : (words : Values) (k : ℕ) → k < length words → drop k words ≡ value words k ∷ drop (k + 1) words
next-words words k lt = drop_more words k [] lt

pub one-made : (ring : RingKind) (u : ℕ) (sizes : List ℕ) (words : Values) (tapes : Tapes) (k : ℕ) → k < length words →
    made_by_gate (Result ring u) true sizes (drop k words) tapes
    ≡ made_given (ring_of ring) (size_of sizes u) (slots_of sizes (Result ring u) tapes) (value words k) ∷ []
one-made ring u sizes words tapes k lt = ap (λ (ws : Values). made_by_gate (Result ring u) true sizes ws tapes) (next-words words k lt)

pub one-after : (ring : RingKind) (u : ℕ) (words : Values) (k : ℕ) → k < length words →
    drop (k + 1) words ≡ published_after (Result ring u) true (drop k words)
one-after ring u words k lt = sym (ap (λ (ws : Values). published_after (Result ring u) true ws) (next-words words k lt))

-- what is made of as many words of the tapes as the value has
pub made-of-slots :
    (ring : RingKind) (r : Ring) (u : ℕ) (s : RunState) (words : Values) (k : ℕ) (own said : List ℕ) (given : Given) →
    ((i : Number) → length own ≤ length (s.tapes i)) → own ≡ value (s.shares One) u → r ≡ ring_of ring → k < length words → said ≡ value words k →
    given ≡ record {
      first = take (length own) (s.tapes One);
      second = take (length own) (s.tapes Two);
      third =
          left_of_opened r (length (take (length own) (s.tapes One))) said (take (length own) (s.tapes One)) (take (length own) (s.tapes Two));
    } →
    given ∷ [] ≡ made_by_gate (Result ring u) true (own_sizes s) (drop k words) s.tapes
made-of-slots ring r u s words k own said given fits is kind lt told so =
    let made : Ring → (count n : ℕ) → List ℕ → Given = λ x count n ws.
    record {
      first = take n (s.tapes One);
      second = take n (s.tapes Two);
      third = left_of_opened x count ws (take n (s.tapes One)) (take n (s.tapes Two));
    } in
    let size : length own ≡ size_of (own_sizes s) u = ap length is ∙ size-value (s.shares One) u in
    ap (λ (g : Given). g ∷ []) (
    so
    ∙ ap (λ (count : ℕ). made r count (length own) said) (length-take-le (length own) (s.tapes One) (fits One))
    ∙ ap (λ (x : Ring). made x (length own) (length own) said) kind
    ∙ ap (λ (ws : List ℕ). made (ring_of ring) (length own) (length own) ws) told
    ∙ ap (λ (n : ℕ). made (ring_of ring) n n (value words k)) size
    )
    ∙ sym (one-made ring u (own_sizes s) words s.tapes k lt)

-- of a joint run, by its parts
module _ (inside run : JointRun) (same : inside ≡ run) (ring : RingKind) (u : ℕ) (has : HasSlots (Result ring u) (state_of run)) (own : List ℕ)
    (is : own ≡ value (values_of inside.shares One) u) where
  fits : (i : Number) → length own ≤ length (each_of inside.tapes i)
  fits i =
      subst (λ (v : List ℕ). length v ≤ length (each_of inside.tapes i)) (sym is)
      (subst (λ (r : JointRun). length (value (values_of r.shares One) u) ≤ length (each_of r.tapes i)) (sym same) (has i))

  pub taken : (i : Number) → length own ≡ length (take (length own) (each_of inside.tapes i))
  taken i = sym (length-take-le (length own) (each_of inside.tapes i) (fits i))

  pub as-many : length (take (length own) (each_of inside.tapes Two)) ≡ length (take (length own) (each_of inside.tapes One))
  as-many = sym (taken Two) ∙ taken One

  pub made-inside :
      (r : Ring) (words : Values) (k : ℕ) (said : List ℕ) (given : Given) → r ≡ ring_of ring → k < length words → said ≡ value words k →
      given ≡ record {
        first = take (length own) (each_of inside.tapes One);
        second = take (length own) (each_of inside.tapes Two);
        third =
            left_of_opened r (length (take (length own) (each_of inside.tapes One))) said (take (length own) (each_of inside.tapes One))
            (take (length own) (each_of inside.tapes Two));
      } →
      given ∷ [] ≡ made_by_gate (Result ring u) true (own_sizes (state_of run)) (drop k words) (each_of run.tapes)
  made-inside r words k said given kind lt told so =
      made-of-slots ring r u (state_of inside) words k own said given fits is kind lt told so
      ∙ ap (λ (x : JointRun). made_by_gate (Result ring u) true (own_sizes (state_of x)) (drop k words) (each_of x.tapes)) same

-- ---- GATE AFTER GATE

module _ (dealt : Number → Values) (gates : List Gate) (words : Values) (tapes : Tapes) where
  abbrev pub ds : List ℕ
  ds = dealt_sizes dealt

  abbrev pub whole : List Given
  whole = made_from all_of 0 ds [] gates words tapes

  -- these gates are run, and what is made of them and of the later ones is the whole
  pub record MadeSo (before later : List Gate) (s : RunState) (left : Values) (made : List Given) : Type 0 where
    pub through : Through dealt before tapes s
    pub next : ℕ
    pub so : made ++ made_from all_of next ds (sizes_behind dealt before) later left s.tapes ≡ whole

  pub none-made : (s : RunState) (made : List Given) → Through dealt [] tapes s → s.tapes ≡ tapes → made ≡ [] → MadeSo [] gates s words made
  none-made s made through same none =
      record {
        through = through;
        next = 0;
        so =
            ap (λ (ms : List Given). ms ++ made_from all_of 0 ds [] gates words s.tapes) none
            ∙ ap (λ (ts : Tapes). made_from all_of 0 ds [] gates words ts) same;
      }

  module _ (before : List Gate) (gate : Gate) (later : List Gate) (s : RunState) (left : Values) (made : List Given)
      (m : MadeSo before (gate ∷ later) s left made) where
    sizes-are : own_sizes s ≡ sizes_behind dealt before
    sizes-are = m.through.sizes One

    tape-left : (i : Number) → length (s.tapes i) ≡ length (tapes i) - words_for dealt before i
    tape-left i = ap (λ (t : RunState). length (t.tapes i)) m.through.run.is ∙ length-drop (words_for dealt before i) (tapes i)

    -- the words of a gate that hands over are there
    has-words : CanRun dealt gates tapes → gates ≡ before ++ gate ∷ later → (i : Number) → words_for_next dealt before gate i ≤ length (s.tapes i)
    has-words can are i =
        let all : words_for dealt before i + words_for_next dealt before gate i ≤ length (tapes i) = draws-at dealt gates tapes can before gate later i are in
        let rest : length (s.tapes i) ≡ length (tapes i) - words_for dealt before i = tape-left i in
        omega arith

    pub one-more :
        (t : RunState) (left' : Values) (more : List Given) → RunsGate dealt gate s t →
        more ≡ made ++ made_by_gate gate true (own_sizes s) left s.tapes → left' ≡ published_after gate true left →
        MadeSo (before ++ gate ∷ []) later t left' more
    one-more t left' more runs new rest =
        let sizes : List ℕ = sizes_behind dealt before in
        let behind_it : List ℕ = sizes ++ sizes_made ds sizes gate in
        let n : ℕ = m.next + made_by gate in
        let there : sizes_behind dealt (before ++ gate ∷ []) ≡ behind_it = sizes-then ds [] before (gate ∷ []) in
        let tapes_are : t.tapes ≡ after_gate ds sizes gate s.tapes =
        same_for t.tapes (after_gate ds sizes gate s.tapes)
        (λ i.
        ap (λ (r : RunState). r.tapes i) runs.is
        ∙ ap (λ (ns : List ℕ). drop (needed (run_gate dealt ds ns gate ∷ []) i) (s.tapes i)) sizes-are
        ∙ ap (λ k. drop k (s.tapes i)) (needs-same dealt ds sizes gate i)) in
        record {
          through = next-through dealt tapes before s m.through gate t runs;
          next = n;
          so =
              ap (λ (ns : List ℕ). more ++ made_from all_of n ds ns later left' t.tapes) there
              ∙ ap (λ (ts : Tapes). more ++ made_from all_of n ds behind_it later left' ts) tapes_are
              ∙ ap (λ (ls : Values). more ++ made_from all_of n ds behind_it later ls (after_gate ds sizes gate s.tapes)) rest
              ∙ ap (λ (ms : List Given). ms ++ made_from all_of n ds behind_it later (published_after gate true left) (after_gate ds sizes gate s.tapes)) new
              ∙ ap
              (λ (ns : List ℕ).
              (made ++ made_by_gate gate true ns left s.tapes)
              ++ made_from all_of n ds behind_it later (published_after gate true left) (after_gate ds sizes gate s.tapes))
              sizes-are
              ∙ append_assoc made (made_by_gate gate true sizes left s.tapes)
              (made_from all_of n ds behind_it later (published_after gate true left) (after_gate ds sizes gate s.tapes))
              ∙ m.so;
        }

  pub slots-there :
      (before : List Gate) (gate : Gate) (later : List Gate) (s : RunState) (left : Values) (made : List Given) →
      MadeSo before (gate ∷ later) s left made → CanRun dealt gates tapes → gates ≡ before ++ gate ∷ later → HasSlots gate s
  slots-there before (Result ring u) later s left made m can are =
      λ i.
      let has : words_for_next dealt before (Result ring u) i ≤ length (s.tapes i) = has-words before (Result ring u) later s left made m can are i in
      let size : length (value (s.shares One) u) ≡ size_of (sizes_behind dealt before) u =
      size-value (s.shares One) u ∙ ap (λ (ns : List ℕ). size_of ns u) (sizes-are before (Result ring u) later s left made m) in
      omega (arith, has, size)
  slots-there before _ later s left made m can are = tt

  pub all-made :
      (before later : List Gate) (s : RunState) (left : Values) (made : List Given) → later ≡ [] → MadeSo before later s left made → made ≡ whole
  all-made before later s left made none m =
      sym (append-none made)
      ∙ ap (λ (gs : List Gate). made ++ made_from all_of m.next ds (sizes_behind dealt before) gs left s.tapes) (sym none)
      ∙ m.so

-- ---- A WORD AT A PLACE

pub word_there : (words : List ℕ) (k d : ℕ) → k < length words → get_or words k d ≡ at words k
word_there words k d lt = get_or_default words k d 0 lt

pub word_past : (words : List ℕ) (k : ℕ) → length words ≤ k → 0 ≡ at words k
word_past words k le = sym (get_or_past words k 0 le)
