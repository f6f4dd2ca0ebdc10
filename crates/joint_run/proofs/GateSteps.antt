-- One gate of a joint run: what the code does is what the definitions say.
use Rattle.std.proofs.Common.{◌≡◌, ℕ, ◌≤◌, List, [], ◌∷◌, ◌++◌, length, drop, refl, sym, ◌∙◌, ap, subst, add-zero, arith}
use Rattle.std.specs.Prelude.{Option, Some, None}
use Rattle.std.proofs.lemmas.List.{length-take-le}
use Rattle.proto_core.specs.declared.party.Number.{Number}
use Rattle.proto_core.specs.declared.party.Number.TheVariants.{One, Two, Three}
use Rattle.proto_core.specs.Protocol.{Joint, Protocol}
use Rattle.proto_core.proofs.Beginnings.{append-none}
use Rattle.protocol_model.specs.Gates.{Joined, Local, operand, needed, sizes_of}
use Rattle.protocol_model.specs.Gates as model
use Rattle.protocol_model.specs.Runs.{drawn, gate_joint}
use Rattle.protocol_model.proofs.Sizes.{sizes-append}
use Rattle.gates.specs.declared.ring_kind.RingKind.{RingKind}
use Rattle.gates.specs.declared.ring_kind.RingKind.TheVariants.{Arithmetic, Boolean}
use Rattle.gates.specs.declared.gate.Gate.{Gate}
use Rattle.gates.specs.declared.gate.Gate.TheVariants.{Mul, And, Split, Conv, Open, Result}
use Rattle.gates.specs.Clear.{Values, value}
use Rattle.gates.specs.Counts.{size_of}
use Rattle.shared_gates.specs.LocalGates.{local_share, IsLocal}
use Rattle.shared_gates.specs.Model.{size_made, sizes_made, SizesSuit, run_gate}
use Rattle.shared_gates.proofs.Models.{size-value, nth_value-value, local-size}
use Rattle.gate_exchanges.specs.declared.exchange.Exchange.{Exchange}
use Rattle.gate_exchanges.specs.declared.exchange.Exchange.TheVariants.{Product, Splitting, Conversion, Opening, Resharing}
use Rattle.gate_exchanges.specs.declared.exchanged.Exchanged.{Exchanged}
use Rattle.gate_exchanges.specs.Exchanges.{protocol_of, IsSizedAt, IsSized}
use Rattle.gate_exchanges.proofs.OneGate.{local-gate, exchanged-gate, local-draws}
use Rattle.joint_run.specs.RunState.{RunState, behind}
use Rattle.joint_run.specs.Steps.{size_in, joint_in, CanExchangeAt, CanExchange, AddsLocal, AddsExchange}
use Rattle.gate_exchanges.specs.Exchanged.{IsExchanged, second_value, protocol_in}
use Rattle.joint_run.specs.JointRuns.{dealt_sizes, IsEven}
use Rattle.joint_run.specs.declared.joint_err.JointErr.{JointErr}
use Rattle.joint_run.specs.GateByGate.{HaveSizes, own_sizes, draws_for, left_of, AllReach, RunsGate, Lacks, Ends}
use Rattle.joint_run.proofs.Blockwise.{same_joint, for_three}
use Rattle.joint_run.proofs.InSteps.{same_state}
use Rattle.joint_run.proofs.OutputSizes.{output-sizes}

-- ---- sizes

sized-at : (x : Exchanged) (s : RunState) (i : Number) → CanExchangeAt x s i → IsSizedAt (protocol_of x.exchange) (size_in x s) i (joint_in x s)
sized-at x s i can = record { u = can.u; v = can.v; words = length-take-le _ (s.tapes i) can.words }

pub exchange-sized :
    (x : Exchanged) (s : RunState) (j : Joint) → CanExchange x s → j ≡ joint_in x s → IsSized (protocol_of x.exchange) (size_in x s) j
exchange-sized x s j can same =
    subst (λ k. IsSized (protocol_of x.exchange) (size_in x s) k) (sym same)
    (record { first = sized-at x s One can.first; second = sized-at x s Two can.second; third = sized-at x s Three can.third })

-- the sizes that a gate takes are those of the miners' operands
module _ (s : RunState) (same : HaveSizes (own_sizes s) s) where
  here : (i : Number) (u : ℕ) → length (value (s.shares i) u) ≡ size_of (own_sizes s) u
  here i u = size-value (s.shares i) u ∙ ap (λ sizes. size_of sizes u) (same i)

  one-at :
      (e : Exchange) (u : ℕ) (i : Number) → 0 ≡ (protocol_of e).second (size_of (own_sizes s) u) →
      (protocol_of e).draws (size_in (record { exchange = e; u = u; v = None }) s) i ≤ length (s.tapes i) →
      CanExchangeAt (record { exchange = e; u = u; v = None }) s i
  one-at e u i none reach =
      record {
        u = here i u ∙ sym (here One u);
        v = none ∙ ap (protocol_of e).second (sym (here One u));
        words = reach;
      }

  two-at :
      (ring : RingKind) (u v : ℕ) (i : Number) → size_of (own_sizes s) u ≡ size_of (own_sizes s) v →
      (protocol_of (Product ring)).draws (size_in (record { exchange = Product ring; u = u; v = Some v }) s) i ≤ length (s.tapes i) →
      CanExchangeAt (record { exchange = Product ring; u = u; v = Some v }) s i
  two-at ring u v i pair reach =
      record { u = here i u ∙ sym (here One u); v = here i v ∙ sym pair ∙ sym (here One u); words = reach }

  can-one :
      (x : Exchanged) (e : Exchange) (u : ℕ) → x ≡ record { exchange = e; u = u; v = None } →
      0 ≡ (protocol_of e).second (size_of (own_sizes s) u) →
      AllReach ((protocol_of x.exchange).draws (size_in x s)) (left_of s) → CanExchange x s
  can-one x e u is none reach =
      let all = subst (λ y. AllReach ((protocol_of y.exchange).draws (size_in y s)) (left_of s)) is reach in
      subst (λ y. CanExchange y s) (sym is)
      (record { first = one-at e u One none all.first; second = one-at e u Two none all.second; third = one-at e u Three none all.third })

  can-two :
      (x : Exchanged) (ring : RingKind) (u v : ℕ) → x ≡ record { exchange = Product ring; u = u; v = Some v } →
      size_of (own_sizes s) u ≡ size_of (own_sizes s) v →
      AllReach ((protocol_of x.exchange).draws (size_in x s)) (left_of s) → CanExchange x s
  can-two x ring u v is pair reach =
      let all = subst (λ y. AllReach ((protocol_of y.exchange).draws (size_in y s)) (left_of s)) is reach in
      subst (λ y. CanExchange y s) (sym is)
      (record { first = two-at ring u v One pair all.first; second = two-at ring u v Two pair all.second; third = two-at ring u v Three pair all.third })

  pub can-exchange :
      (ds : List ℕ) (gate : Gate) (x : Exchanged) → IsExchanged gate x → SizesSuit ds (own_sizes s) gate →
      AllReach ((protocol_of x.exchange).draws (size_in x s)) (left_of s) → CanExchange x s
  can-exchange ds (Mul u v) x is suit reach = can-two x Arithmetic u v is suit.same_size reach
  can-exchange ds (And u v) x is suit reach = can-two x Boolean u v is suit.same_size reach
  can-exchange ds (Split u negated) x is suit reach = can-one x (Splitting negated) u is refl reach
  can-exchange ds (Conv u) x is suit reach = can-one x Conversion u is refl reach
  can-exchange ds (Open ring u) x is suit reach = can-one x (Opening ring) u is refl reach
  can-exchange ds (Result ring u) x is suit reach = can-one x (Resharing ring) u is refl reach
  can-exchange ds _ x is suit reach = absurd is

-- ---- what a gate is in a run

module _ (dealt : Number → Values) (ds sizes : List ℕ) where
  -- ---- the state after it

  pub local-behind : (gate : Gate) (s t : RunState) → IsLocal gate → AddsLocal dealt gate s t → t ≡ behind (run_gate dealt ds sizes gate ∷ []) s
  local-behind gate s t local adds =
      subst (λ g. t ≡ behind (g ∷ []) s) (sym (local-gate dealt ds sizes gate local))
      (same_state _ _ adds.shares adds.tapes
      (λ l. adds.messages l ∙ sym (append-none (s.messages l)))
      (adds.opened ∙ sym (append-none s.opened)))

  pub exchange-behind :
      (gate : Gate) (x : Exchanged) (s t : RunState) → sizes ≡ own_sizes s → IsExchanged gate x → AddsExchange x s t →
      t ≡ behind (run_gate dealt ds sizes gate ∷ []) s
  exchange-behind gate x s t here is adds =
      subst (λ g. t ≡ behind (g ∷ []) s) (sym (exchanged-gate dealt ds sizes gate x is))
      (subst (λ n. t ≡ behind (Joined p n x.u x.v ∷ []) s) size
      (same_state _ _
      (λ i. adds.shares i ∙ ap (λ k. s.shares i ++ p.output n k i) same)
      (λ i. adds.tapes i ∙ ap (λ k. drop k (s.tapes i)) (sym (add-zero (p.draws n i))))
      (λ l.
      adds.messages l
      ∙ ap (λ k. s.messages l ++ p.messages n k l) same
      ∙ ap (λ m. s.messages l ++ m) (sym (append-none (p.messages n j l))))
      (adds.opened
      ∙ ap (λ k. s.opened ++ p.opened n k) same
      ∙ ap (λ w. s.opened ++ w) (sym (append-none (p.opened n j))))))
    where
      p : Protocol
      p = protocol_in x

      n : ℕ
      n = size_in x s

      j : Joint
      j = gate_joint x.u x.v s.shares (drawn p n s.tapes)

      size : n ≡ size_of sizes x.u
      size = size-value (s.shares One) x.u ∙ ap (λ k. size_of k x.u) (sym here)

      second-is : (v : Option ℕ) (i : Number) → second_value (s.shares i) v ≡ operand (s.shares i) v
      second-is None i = refl
      second-is (Some v) i = sym (nth_value-value (s.shares i) v)

      same : joint_in x s ≡ j
      same = same_joint (joint_in x s) j (λ i. sym (nth_value-value (s.shares i) x.u)) (λ i. second-is x.v i) (λ i. refl)

  -- ---- what it draws

  pub exchange-draws :
      (gate : Gate) (x : Exchanged) (s : RunState) (i : Number) → sizes ≡ own_sizes s → IsExchanged gate x →
      (protocol_of x.exchange).draws (size_in x s) i ≡ needed (run_gate dealt ds sizes gate ∷ []) i
  exchange-draws gate x s i here is =
      ap (λ n. (protocol_of x.exchange).draws n i) (size-value (s.shares One) x.u ∙ ap (λ k. size_of k x.u) (sym here))
      ∙ sym (add-zero ((protocol_of x.exchange).draws (size_of sizes x.u) i))
      ∙ ap (λ g. needed (g ∷ []) i) (sym (exchanged-gate dealt ds sizes gate x is))

  -- ---- what it makes

  local-made : (gate : Gate) → IsLocal gate → size_made ds sizes gate ∷ [] ≡ sizes_made ds sizes gate
  local-made (Split u negated) local = absurd local
  local-made _ local = refl

  exchange-made : (gate : Gate) (x : Exchanged) → IsExchanged gate x → (protocol_of x.exchange).made (size_of sizes x.u) ≡ sizes_made ds sizes gate
  exchange-made (Mul u v) x is = ap (λ y. (protocol_of y.exchange).made (size_of sizes y.u)) is
  exchange-made (And u v) x is = ap (λ y. (protocol_of y.exchange).made (size_of sizes y.u)) is
  exchange-made (Split u negated) x is = ap (λ y. (protocol_of y.exchange).made (size_of sizes y.u)) is
  exchange-made (Conv u) x is = ap (λ y. (protocol_of y.exchange).made (size_of sizes y.u)) is
  exchange-made (Open ring u) x is = ap (λ y. (protocol_of y.exchange).made (size_of sizes y.u)) is
  exchange-made (Result ring u) x is = ap (λ y. (protocol_of y.exchange).made (size_of sizes y.u)) is
  exchange-made _ x is = absurd is

  pub local-sizes :
      (gate : Gate) (s t : RunState) → ((i : Number) → sizes_of (dealt i) ≡ ds) → HaveSizes sizes s → IsLocal gate → SizesSuit ds sizes gate →
      AddsLocal dealt gate s t → HaveSizes (sizes ++ sizes_made ds sizes gate) t
  local-sizes gate s t even same local suit adds i =
      let share : List ℕ = local_share i (dealt i) (s.shares i) gate in
      ap sizes_of (adds.shares i)
      ∙ sizes-append (s.shares i) (share ∷ [])
      ∙ ap (λ k. k ++ length share ∷ []) (same i)
      ∙ ap (λ n. sizes ++ n ∷ []) (local-size ds sizes (dealt i) (s.shares i) (even i) (same i) i gate local suit)
      ∙ ap (λ k. sizes ++ k) (local-made gate local)

  pub exchange-sizes :
      (gate : Gate) (x : Exchanged) (s t : RunState) → sizes ≡ own_sizes s → HaveSizes sizes s → IsExchanged gate x → AddsExchange x s t →
      HaveSizes (sizes ++ sizes_made ds sizes gate) t
  exchange-sizes gate x s t here same is adds i =
      let out : Values = (protocol_in x).output (size_in x s) (joint_in x s) i in
      ap sizes_of (adds.shares i)
      ∙ sizes-append (s.shares i) out
      ∙ ap (λ k. k ++ sizes_of out) (same i)
      ∙ ap (λ k. sizes ++ k) (output-sizes x.exchange (size_in x s) (joint_in x s) i)
      ∙ ap (λ n. sizes ++ (protocol_of x.exchange).made n) (size-value (s.shares One) x.u ∙ ap (λ k. size_of k x.u) (sym here))
      ∙ ap (λ k. sizes ++ k) (exchange-made gate x is)

-- ---- a gate that can be run

module _ (dealt : Number → Values) (even : IsEven dealt) (gate : Gate) (s t : RunState) (same : HaveSizes (own_sizes s) s)
    (suits : SizesSuit (dealt_sizes dealt) (own_sizes s) gate) where
  pub local-runs : IsLocal gate → AddsLocal dealt gate s t → RunsGate dealt gate s t
  local-runs local adds =
      record {
        suits = suits;
        reach = λ i. let none = local-draws dealt (dealt_sizes dealt) (own_sizes s) gate i local in omega arith;
        is = local-behind dealt (dealt_sizes dealt) (own_sizes s) gate s t local adds;
        sizes = local-sizes dealt (dealt_sizes dealt) (own_sizes s) gate s t even same local suits adds;
      }

  pub exchange-runs :
      (x : Exchanged) → IsExchanged gate x → AllReach ((protocol_of x.exchange).draws (size_in x s)) (left_of s) → AddsExchange x s t →
      RunsGate dealt gate s t
  exchange-runs x is reach adds =
      record {
        suits = suits;
        reach =
            for_three (λ i. draws_for dealt s gate i ≤ left_of s i)
            (subst (λ n. n ≤ left_of s One) (draws One) reach.first)
            (subst (λ n. n ≤ left_of s Two) (draws Two) reach.second)
            (subst (λ n. n ≤ left_of s Three) (draws Three) reach.third);
        is = exchange-behind dealt (dealt_sizes dealt) (own_sizes s) gate x s t refl is adds;
        sizes = exchange-sizes dealt (dealt_sizes dealt) (own_sizes s) gate x s t refl same is adds;
      }
    where
      draws : (i : Number) → (protocol_of x.exchange).draws (size_in x s) i ≡ draws_for dealt s gate i
      draws i = exchange-draws dealt (dealt_sizes dealt) (own_sizes s) gate x s i refl is

-- or for which a tape is too short
pub exchange-ends :
    (dealt : Number → Values) (gate : Gate) (s : RunState) (x : Exchanged) (place : ℕ) (err : JointErr) →
    SizesSuit (dealt_sizes dealt) (own_sizes s) gate → IsExchanged gate x →
    Lacks ((protocol_of x.exchange).draws (size_in x s)) (left_of s) place err → Ends dealt gate s place err
exchange-ends dealt gate s x place err suits is lacks =
    let draws : (protocol_of x.exchange).draws (size_in x s) ≡ draws_for dealt s gate =
    λ d. λ i. exchange-draws dealt (dealt_sizes dealt) (own_sizes s) gate x s i refl is d in
    record { suits = suits; lacks = subst (λ need. Lacks need (left_of s) place err) draws lacks }
