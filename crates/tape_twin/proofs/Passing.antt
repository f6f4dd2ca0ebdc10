-- One gate of a walk: the words that are mapped, and the values that the miners make.
use Rattle.std.proofs.Common.{◌≡◌, ℕ, ◌<◌, ◌≤◌, List, [], ◌∷◌, ◌++◌, length, take, drop, refl, sym, ◌∙◌, ap, inl, inr, arith, append_assoc}
use Rattle.std.specs.Prelude.{Option, Some, None, Result, Ok, Err, IfOk, IfErr, IsErrAnd}
use Rattle.std.proofs.lemmas.List.{take_all, length-take-le}
use Rattle.proto_core.specs.declared.party.Number.{Number}
use Rattle.proto_core.specs.declared.party.Number.TheVariants.{One, Two, Three}
use Rattle.proto_core.specs.Protocol.{Joint, Protocol}
use Rattle.protocol_model.specs.Gates.{Joined, Local, operand, needed}
use Rattle.protocol_model.specs.Gates as model
use Rattle.protocol_model.specs.Runs.{Shares, Tapes, drawn, left, gate_joint, after, after_local, run_values}
use Rattle.gates.specs.declared.gate.Gate.{Gate}
use Rattle.gates.specs.Clear.{Values, value}
use Rattle.gates.specs.Counts.{size_of}
use Rattle.shared_gates.specs.LocalGates.{local_share, IsLocal}
use Rattle.shared_gates.specs.Model.{size_made, SizesSuit}
use Rattle.shared_gates.proofs.Models.{size-value, nth_value-value}
use Rattle.gate_exchanges.specs.declared.exchanged.Exchanged.{Exchanged}
use Rattle.joint_run.specs.declared.joint_err.JointErr.{JointErr}
use Rattle.joint_run.specs.declared.joint_err.JointErr.TheVariants.{Memory}
use Rattle.joint_run.specs.Exchanges.{protocol_of, IsSized}
use Rattle.joint_run.specs.RunState.{RunState}
use Rattle.joint_run.specs.Steps.{operands_of}
use Rattle.gate_exchanges.specs.Exchanged.{IsExchanged, second_value, protocol_in}
use Rattle.joint_run.specs.JointRuns.{dealt_sizes}
use Rattle.joint_run.specs.GateByGate.{RunsGate, RefusesGate}
use Rattle.joint_run.proofs.Blockwise.{same_joint}
use Rattle.joint_run.proofs.GateSteps.{exchange-sized, can-exchange, exchange-draws}
use Rattle.gate_exchanges.proofs.OneGate.{local-gate, exchanged-gate, local-draws}
use Rattle.tape_twin.specs.declared.way.Way.{Way}
use Rattle.tape_twin.specs.declared.way.Way.TheVariants.{ToView, FromView}
use Rattle.tape_twin.specs.declared.way.TapeMap.{TapeMap}
use Rattle.tape_twin.specs.Maps.{block_map, gates_map, looked, looked_protocol}
use Rattle.tape_twin.specs.Stands.{Stand, gate_on, begun_with, RunsWith, TakesOperands, size_of_operand, drawn_for, Passes, CanPass}

-- the words that a block is really run with, by those of the tapes that are mapped
abbrev pub real_words : Way → Protocol → ℕ → Joint → Number → List ℕ
real_words ToView p n j = j.words
real_words FromView p n j = p.back n Three j

-- ---- the first gate of a list

local-first :
    (way : Way) (size : ℕ) (f : Number → List (List ℕ) → List ℕ) (gates : List model.Gate) (shares : Shares) (rest : Tapes) (k : Number) →
    gates_map way (Local size f ∷ gates) shares rest k ≡ gates_map way gates (after_local f shares) rest k
local-first ToView size f gates shares rest k = refl
local-first FromView size f gates shares rest k = refl

joined-first :
    (way : Way) (p : Protocol) (n u : ℕ) (v : Option ℕ) (gates : List model.Gate) (shares : Shares) (rest : Tapes) (k : Number) →
    gates_map way (Joined p n u v ∷ gates) shares rest k
    ≡ block_map way p n Three (gate_joint u v shares (drawn p n rest)) k
    ++ gates_map way gates (after p n u v shares (real_words way p n (gate_joint u v shares (drawn p n rest)))) (left p n rest) k
joined-first ToView p n u v gates shares rest k = refl
joined-first FromView p n u v gates shares rest k = refl

pub same_for : {A : Type 0} (f g : Number → A) → ((i : Number) → f i ≡ g i) → f ≡ g
same_for f g h = λ d. λ i. h i d

-- ---- what a run of one gate makes

pub if-ok : {A E : Type 0} (P Q : A → Type 0) → ((a : A) → P a → Q a) → (r : Result A E) → IfOk r P → IfOk r Q
if-ok P Q h (Ok a) p = h a p
if-ok P Q h (Err e) p = tt

pub if-err : {A E : Type 0} (P Q : E → Type 0) → ((e : E) → P e → Q e) → (r : Result A E) → IfErr r P → IfErr r Q
if-err P Q h (Ok a) p = tt
if-err P Q h (Err e) p = h e p

pub runs-with :
    (dealt : Number → Values) (gate : Gate) (before later : RunState) → RunsGate dealt gate before later →
    RunsWith dealt gate before.shares before.tapes later.shares
runs-with dealt gate before later runs = record { made = λ i. ap (λ (s : RunState). s.shares i) runs.is; sizes = runs.sizes }

-- an error that is handed on
pub handed-on :
    {T : Type 0} (P : Type 0) (answer : Result T JointErr) (refused : JointErr) → IsErrAnd answer (λ e. e ≡ refused) → (P → refused ≡ Memory) →
    IfErr answer (λ err. P → err ≡ Memory)
handed-on P (Ok x) refused handed memory = tt
handed-on P (Err e) refused handed memory = λ p. handed ∙ memory p

-- where it can be run, it is refused for want of memory
pub refused-memory :
    (dealt : Number → Values) (gate : Gate) (s : RunState) (place : ℕ) (err : JointErr) → RefusesGate dealt gate s place err →
    SizesSuit (dealt_sizes dealt) (dealt_sizes s.shares) gate →
    ((k : Number) → needed (gate_on dealt s.shares gate ∷ []) k ≤ length (s.tapes k)) → err ≡ Memory
refused-memory dealt gate s place err refuses suits reach =
    elim refuses as (λ _. err ≡ Memory) [
      | inl memory ↦ memory
      | inr other ↦
          elim other as (λ _. err ≡ Memory) [
            | inl unfit ↦ absurd (unfit.fails suits)
            | inr ends ↦
                let miner : Number = ends.lacks.miner in
                let short : length (s.tapes miner) < needed (gate_on dealt s.shares gate ∷ []) miner = ends.lacks.short in
                let enough : needed (gate_on dealt s.shares gate ∷ []) miner ≤ length (s.tapes miner) = reach miner in
                absurd (omega arith)
          ]
    ]

-- the code's operands are those of the gate
pub drawn-operands :
    (x : Exchanged) (shares : Number → Values) (rest : Tapes) (j : Joint) (n : ℕ) → n ≡ size_of_operand x shares →
    ((i : Number) → j.u i ≡ value (shares i) x.u) → ((i : Number) → j.v i ≡ second_value (shares i) x.v) →
    ((i : Number) → j.words i ≡ take ((protocol_of x.exchange).draws n i) (rest i)) → j ≡ drawn_for x shares rest
drawn-operands x shares rest j n size u v words =
    same_joint j (drawn_for x shares rest) u v (λ i. words i ∙ ap (λ m. take ((protocol_of x.exchange).draws m i) (rest i)) size)

-- the operands and the words of a gate are as many as it takes
pub takes-sized :
    (gate : Gate) (x : Exchanged) (shares : Number → Values) (rest : Tapes) → TakesOperands gate x shares →
    ((k : Number) → (protocol_of x.exchange).draws (size_of_operand x shares) k ≤ length (rest k)) →
    IsSized (protocol_of x.exchange) (size_of_operand x shares) (drawn_for x shares rest)
takes-sized gate x shares rest takes reach =
    exchange-sized x (begun_with shares rest) (drawn_for x shares rest)
    (can-exchange (begun_with shares rest) takes.even takes.dealt gate x takes.is takes.suits
    (record { first = reach One; second = reach Two; third = reach Three }))
    refl

module _ (map : TapeMap) (dealt : Number → Values) (gate : Gate) (s : Stand) where
  -- ---- a gate that sends nothing

  module _ (local : IsLocal gate) where
    pub local-reach : (words : Tapes) (k : Number) → needed (gate_on dealt s.shares gate ∷ []) k ≤ length (words k)
    local-reach words k = let none = local-draws dealt (dealt_sizes dealt) (dealt_sizes s.shares) gate k local in omega arith

    pub local-passes :
        (words : Tapes) (later : Number → Values) → RunsWith dealt gate s.shares words later →
        Passes map dealt gate s (record { shares = later; rest = s.rest; made = s.made })
    local-passes words later runs =
        record {
          whole = λ gates k.
              ap (λ (g : model.Gate). s.made k ++ gates_map map.way (looked map.looker gate g ∷ gates) s.shares s.rest k) is
              ∙ ap (λ w. s.made k ++ w) (local-first map.way size f gates s.shares s.rest k)
              ∙ ap (λ (shares : Shares). s.made k ++ gates_map map.way gates shares s.rest k) (sym values);
          sizes = runs.sizes;
          left = λ k. ap (λ n. drop n (s.rest k)) (sym (local-draws dealt (dealt_sizes dealt) (dealt_sizes s.shares) gate k local));
        }
      where
        size : ℕ
        size = size_made (dealt_sizes dealt) (dealt_sizes s.shares) gate

        f : Number → List (List ℕ) → List ℕ
        f i own = local_share i (dealt i) own gate

        is : gate_on dealt s.shares gate ≡ Local size f
        is = local-gate dealt (dealt_sizes dealt) (dealt_sizes s.shares) gate local

        values : later ≡ after_local f s.shares
        values = same_for later (after_local f s.shares) (λ i. runs.made i ∙ ap (λ (g : model.Gate). run_values (g ∷ []) s.shares words i) is)

  -- ---- a gate that sends messages

  module _ (x : Exchanged) (exchanged : IsExchanged gate x) where
    abbrev p : Protocol
    p = protocol_in x

    abbrev q : Protocol
    q = looked_protocol map.looker gate p

    abbrev n : ℕ
    n = size_of_operand x s.shares

    abbrev j : Joint
    j = drawn_for x s.shares s.rest

    size : n ≡ size_of (dealt_sizes s.shares) x.u
    size = size-value (s.shares One) x.u

    is : gate_on dealt s.shares gate ≡ Joined p n x.u x.v
    is =
        exchanged-gate dealt (dealt_sizes dealt) (dealt_sizes s.shares) gate x exchanged
        ∙ ap (λ m. Joined p m x.u x.v) (sym size)

    second-is : (v : Option ℕ) (i : Number) → second_value (s.shares i) v ≡ operand (s.shares i) v
    second-is None i = refl
    second-is (Some v) i = sym (nth_value-value (s.shares i) v)

    same : (words : Tapes) → operands_of x s.shares words ≡ gate_joint x.u x.v s.shares words
    same words =
        same_joint (operands_of x s.shares words) (gate_joint x.u x.v s.shares words) (λ i. sym (nth_value-value (s.shares i) x.u))
        (λ i. second-is x.v i) (λ i. refl)

    pub exchange-needs : (k : Number) → (protocol_of x.exchange).draws n k ≡ needed (gate_on dealt s.shares gate ∷ []) k
    exchange-needs k =
        exchange-draws dealt (dealt_sizes dealt) (dealt_sizes s.shares) gate x (begun_with s.shares s.rest) k refl exchanged

    -- the words that it is run with
    pub given-real :
        map.way ≡ ToView → (given : Tapes) → ((k : Number) → given k ≡ j.words k) → (k : Number) → given k ≡ real_words map.way q n j k
    given-real is given are k = are k ∙ ap (λ (w : Way). real_words w q n j k) (sym is)

    pub given-length :
        (given : Tapes) → ((k : Number) → p.draws n k ≤ length (s.rest k)) → ((k : Number) → given k ≡ j.words k) →
        (k : Number) → length (given k) ≡ p.draws n k
    given-length given reach are k = ap length (are k) ∙ length-take-le (p.draws n k) (s.rest k) (reach k)

    pub mapped-real :
        map.way ≡ FromView → (mapped : Tapes) → ((k : Number) → mapped k ≡ block_map map.way q n Three j k) →
        (k : Number) → mapped k ≡ real_words map.way q n j k
    mapped-real is mapped are k =
        are k ∙ ap (λ (w : Way). block_map w q n Three j k) is ∙ ap (λ (w : Way). real_words w q n j k) (sym is)

    pub exchange-reach :
        (words : Tapes) → ((k : Number) → length (words k) ≡ p.draws n k) → (k : Number) →
        needed (gate_on dealt s.shares gate ∷ []) k ≤ length (words k)
    exchange-reach words len k =
        let needs : p.draws n k ≡ needed (gate_on dealt s.shares gate ∷ []) k = exchange-needs k in
        let have : length (words k) ≡ p.draws n k = len k in
        omega arith

    pub exchange-can : CanPass dealt gate s → (k : Number) → p.draws n k ≤ length (s.rest k)
    exchange-can can k =
        let needs : p.draws n k ≡ needed (gate_on dealt s.shares gate ∷ []) k = exchange-needs k in
        let have : needed (gate_on dealt s.shares gate ∷ []) k ≤ length (s.rest k) = can.reach k in
        omega arith

    pub exchange-passes :
        (words : Tapes) (t : Stand) → RunsWith dealt gate s.shares words t.shares →
        ((k : Number) → words k ≡ real_words map.way q n j k) →
        ((k : Number) → length (words k) ≡ p.draws n k) →
        ((k : Number) → t.made k ≡ s.made k ++ block_map map.way q n Three j k) →
        ((k : Number) → t.rest k ≡ drop (p.draws n k) (s.rest k)) → Passes map dealt gate s t
    exchange-passes words t runs real len made rest =
        record {
          whole = λ gates k.
              let J : Joint = gate_joint x.u x.v s.shares (drawn p n s.rest) in
              ap (λ (g : model.Gate). s.made k ++ gates_map map.way (looked map.looker gate g ∷ gates) s.shares s.rest k) is
              ∙ ap (λ w. s.made k ++ w) (joined-first map.way q n x.u x.v gates s.shares s.rest k)
              ∙ ap
              (λ (b : Joint).
              s.made k
              ++ (block_map map.way q n Three b k
              ++ gates_map map.way gates (after p n x.u x.v s.shares (real_words map.way q n b)) (left p n s.rest) k))
              (sym (same (drawn p n s.rest)))
              ∙ sym
              (append_assoc (s.made k) (block_map map.way q n Three j k)
              (gates_map map.way gates (after p n x.u x.v s.shares (real_words map.way q n j)) (left p n s.rest) k))
              ∙ ap
              (λ w. w ++ gates_map map.way gates (after p n x.u x.v s.shares (real_words map.way q n j)) (left p n s.rest) k)
              (sym (made k))
              ∙ ap (λ (shares : Shares). t.made k ++ gates_map map.way gates shares (left p n s.rest) k) (sym values)
              ∙ ap (λ (tapes : Tapes). t.made k ++ gates_map map.way gates t.shares tapes k) (sym tapes_left);
          sizes = runs.sizes;
          left = λ k. rest k ∙ ap (λ m. drop m (s.rest k)) (exchange-needs k);
        }
      where
        all : (k : Number) → take (p.draws n k) (words k) ≡ words k
        all k = take_all (p.draws n k) (words k) (let e : length (words k) ≡ p.draws n k = len k in omega arith)

        words_are : drawn p n words ≡ real_words map.way q n j
        words_are = same_for (drawn p n words) (real_words map.way q n j) (λ k. all k ∙ real k)

        values : t.shares ≡ after p n x.u x.v s.shares (real_words map.way q n j)
        values =
            same_for t.shares (after p n x.u x.v s.shares (real_words map.way q n j))
            (λ i.
            runs.made i
            ∙ ap (λ (g : model.Gate). run_values (g ∷ []) s.shares words i) is
            ∙ ap (λ (w : Tapes). after p n x.u x.v s.shares w i) words_are)

        tapes_left : t.rest ≡ left p n s.rest
        tapes_left = same_for t.rest (left p n s.rest) rest
