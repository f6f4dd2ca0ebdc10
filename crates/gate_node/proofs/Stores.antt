-- Which gates can be run alone, down to a store.
use Rattle.std.proofs.Common.{◌≡◌, ◌≢◌, ℕ, ◌+◌, ◌-◌, ◌<◌, ◌≤◌, Bool, true, false, ◌&&◌, nat_le, IsTrue, ◌↔◌, List, [], ◌∷◌, ◌++◌, length, drop, get_or}
use Rattle.std.specs.Prelude.{Some, Ok, Err}
use Rattle.std.proofs.Common.{refl, sym, ◌∙◌, ap, subst, arith, length-drop}
use Rattle.std.proofs.lemmas.Bool.{false≢true, both_ways, and_parts, lt-leb}
use Rattle.std.proofs.lemmas.List.{drop-drop, drop_all}
use Rattle.proto_core.specs.declared.party.Number.{Number}
use Rattle.protocol_model.specs.Gates.{sizes_of}
use Rattle.gates.specs.declared.gate.Gate.{Gate}
use Rattle.gates.specs.declared.gate.Gate.TheVariants.{Mul, And, Put, Split, Conv, Open, Result}
use Rattle.gates.specs.Clear.{Values}
use Rattle.gate_exchanges.specs.LocalGates.{IsLocal}
use Rattle.gate_exchanges.specs.Model.{SizesSuit}
use Rattle.gate_exchanges.specs.declared.exchanged.Exchanged.{Exchanged}
use Rattle.gate_exchanges.specs.Exchanged.{IsExchanged}
use Rattle.gate_node.specs.declared.standing.Standing.{Standing}
use Rattle.gate_node.specs.declared.standing.Standing.TheVariants as stand
use Rattle.gate_node.specs.declared.engine.AtWork.TheVariants as work
use Rattle.gate_node.specs.declared.wanted.Wanted.TheVariants as wanted
use Rattle.gate_node.specs.declared.engine.Engine.{Engine}
use Rattle.gate_node.specs.OwnGates.{own_draws, can_run}
use Rattle.gate_node.specs.Suiting.{suits}
use Rattle.gate_node.specs.Stores.{RunsAlone, FirstRunsAlone, IsStore, with_first, EndInStore}
use Rattle.gate_node.specs.Nodes.{BeginsAs, gates_left, after_first, LeavesStore, CanStore}
use Rattle.gate_node.proofs.Suiting.{test-is}
use Rattle.gate_node.proofs.Blocks.{drop-front, alone-can}

-- ---- one gate

local-not : (gate : Gate) (x : Exchanged) → IsExchanged gate x → IsLocal gate → ⊥
local-not (Mul u v) x is local = absurd local
local-not (And u v) x is local = absurd local
local-not (Split u negated) x is local = absurd local
local-not (Conv u) x is local = absurd local
local-not (Open ring u) x is local = absurd local
local-not (Result ring u) x is local = absurd local
local-not gate x is local = absurd is

module _ (i : Number) (dealt values : Values) (tape : List ℕ) (gate : Gate) where
  alone-runs : (more : List ℕ) → RunsAlone dealt values gate → can_run i dealt values (tape ++ more) gate ≡ true
  alone-runs more alone =
      alone-can i dealt values (tape ++ more) gate (suits (sizes_of dealt) (sizes_of values) gate) (test-is (sizes_of dealt) (sizes_of values) gate)
      alone.1 alone.0

  pub stands-not : (at : Standing) → BeginsAs i dealt values tape gate (Err at) → RunsAlone dealt values gate → ⊥
  stands-not stand.Unfit begins alone = both_ways _ (begins []) (alone-runs [] alone)
  stands-not (stand.Wants count) begins alone = both_ways _ (begins.1 [] ∙ lt-leb count 0 begins.0) (alone-runs [] alone)
  stands-not stand.Through begins alone = absurd begins
  stands-not (stand.Waits link cause) begins alone = absurd begins

  pub exchanged-not : (x : Exchanged) → BeginsAs i dealt values tape gate (Ok (Some x)) → RunsAlone dealt values gate → ⊥
  exchanged-not x begins alone = local-not gate x begins.1 alone.0

  pub alone-is : can_run i dealt values tape gate ≡ true → IsLocal gate → RunsAlone dealt values gate
  alone-is can local = (local, (and_parts (suits (sizes_of dealt) (sizes_of values) gate) (nat_le (own_draws i dealt values gate) (length tape)) can).0)

-- ---- gates down to a store

module _ (i : Number) (dealt : Values) (array count : ℕ) (values : Values) where
  abbrev Ends : Values → List Gate → Type 0
  Ends values gates = EndInStore dealt i array count values gates

  pub ends-first : (gates : List Gate) → 1 < length gates → Ends values gates → FirstRunsAlone dealt values gates
  ends-first [] many h = absurd h
  ends-first (gate ∷ []) many h = absurd (omega (arith, many))
  ends-first (gate ∷ next ∷ gates) many h = h.0

  pub ends-more :
      (gates : List Gate) → 1 < length gates → FirstRunsAlone dealt values gates →
      Ends values gates ↔ Ends (with_first dealt i values gates) (drop 1 gates)
  ends-more [] many alone = absurd alone
  ends-more (gate ∷ []) many alone = absurd (omega (arith, many))
  ends-more (gate ∷ next ∷ gates) many alone = (λ h. h.1, λ h. (alone, h))

  pub ends-last : (gates : List Gate) → length gates ≤ 1 → Ends values gates ↔ (IsStore dealt array values gates × (length values + 1 ≡ count))
  ends-last [] few = (λ h. absurd h, λ h. absurd (apart h.0.one))
    where
      apart : {g : Gate} → [] ≡ g ∷ [] → ⊥
      apart e = cc
  ends-last (gate ∷ []) few = (λ h. h, λ h. h)
  ends-last (gate ∷ next ∷ gates) few = absurd (omega (arith, few))

-- ---- a miner's gates

module _ {P : Type 0} (i : Number) (array count : ℕ) where
  module _ (e : Engine P) (many : 1 < length e.gates.items - e.begun) where
    more-left : 1 < length (gates_left i e)
    more-left = let l : length (drop e.begun e.gates.items) ≡ length e.gates.items - e.begun = length-drop e.begun e.gates.items in omega (arith, l, many)

    next-left : drop 1 (gates_left i e) ≡ drop (e.begun + 1) e.gates.items
    next-left = drop-drop 1 e.begun e.gates.items

    pub store-further : FirstRunsAlone e.dealt e.values (gates_left i e) → CanStore i array count (after_first i e) ↔ CanStore i array count e
    store-further alone =
        let same = ends-more i e.dealt array count e.values (gates_left i e) more-left alone in (
          λ h. record {
            idle = h.idle;
            all = h.all;
            gates = same.1 (subst (EndInStore e.dealt i array count (with_first e.dealt i e.values (gates_left i e))) (sym next-left) h.gates);
          },
          λ h. record {
            idle = h.idle;
            all = h.all;
            gates = subst (EndInStore e.dealt i array count (with_first e.dealt i e.values (gates_left i e))) next-left (same.0 h.gates);
          },
        )

    pub store-first : CanStore i array count e → FirstRunsAlone e.dealt e.values (gates_left i e)
    store-first h = ends-first i e.dealt array count e.values (gates_left i e) more-left h.gates

  -- where one gate is left at most
  module _ (e : Engine P) (few : length e.gates.items - e.begun ≤ 1) where
    few-left : length (gates_left i e) ≤ 1
    few-left = let l : length (drop e.begun e.gates.items) ≡ length e.gates.items - e.begun = length-drop e.begun e.gates.items in omega (arith, l, few)

    pub store-last : (LeavesStore i array e × (length e.values + 1 ≡ count)) ↔ CanStore i array count e
    store-last =
        let same = ends-last i e.dealt array count e.values (gates_left i e) few-left in (
          λ h. record { idle = h.0.idle; all = h.0.all; gates = same.1 (h.0.store, h.1) },
          λ h. let last = same.0 h.gates in (record { idle = h.idle; all = h.all; store = last.0 }, last.1),
        )

-- one after the other
pub both-steps : {P Q R : Type 0} → P ↔ Q → Q ↔ R → P ↔ R
both-steps a b = (λ h. b.0 (a.0 h), λ h. a.1 (b.1 h))

-- ---- the store that is left

module _ {P : Type 0} (i : Number) (array : ℕ) (e : Engine P) where
  abbrev NoStore : Type 0
  NoStore = IsTrue false ↔ LeavesStore i array e

  no-store : (LeavesStore i array e → ⊥) → NoStore
  no-store none = (λ told. absurd (false≢true told), λ h. absurd (none h))

  pub busy-no-store : e.work ≢ work.Idle → NoStore
  busy-no-store busy = no-store (λ h. busy h.idle)

  pub planned-no-store : e.wanted ≢ wanted.All → NoStore
  planned-no-store planned = no-store (λ h. planned h.all)

  pub many-no-store : length e.gates.items - e.begun ≢ 1 → NoStore
  many-no-store many = no-store (λ h. many (sym (length-drop e.begun e.gates.items) ∙ ap length h.store.one))

  module _ (gate : Gate) (some : e.begun < length e.gates.items) (is : get_or e.gates.items e.begun gate ≡ gate) where
    the-one : (h : LeavesStore i array e) → gate ≡ Put array h.store.index h.store.element
    the-one h =
        let front : gate ∷ drop (e.begun + 1) e.gates.items ≡ Put array h.store.index h.store.element ∷ [] =
        sym (drop-front e.begun e.gates.items gate some is) ∙ h.store.one in
        cc

    pub other-no-store : (operand index element : ℕ) → gate ≡ Put operand index element → operand ≢ array → NoStore
    other-no-store operand index element put apart =
        no-store (λ h. apart (same operand index element h.store.index h.store.element (sym put ∙ the-one h)))
      where
        same : (operand index element index2 element2 : ℕ) → Put operand index element ≡ Put array index2 element2 → operand ≡ array
        same operand index element index2 element2 put = cc

    pub unfit-no-store : (b : Bool) → IsTrue b ↔ SizesSuit (sizes_of e.dealt) (sizes_of e.values) gate → b ≡ false → NoStore
    unfit-no-store b tells refused =
        no-store (λ h.
        both_ways b refused
        (tells.1 (subst (SizesSuit (sizes_of e.dealt) (sizes_of e.values)) (sym (the-one h))
        ((test-is (sizes_of e.dealt) (sizes_of e.values) (Put array h.store.index h.store.element)).0 h.store.suit))))

    pub else-no-store : ((operand index element : ℕ) → gate ≡ Put operand index element → ⊥) → NoStore
    else-no-store none = no-store (λ h. none array h.store.index h.store.element (the-one h))

    pub is-store :
        (index element : ℕ) (b : Bool) → e.work ≡ work.Idle → e.wanted ≡ wanted.All → e.begun + 1 ≡ length e.gates.items →
        gate ≡ Put array index element → IsTrue b ↔ SizesSuit (sizes_of e.dealt) (sizes_of e.values) gate → b ≡ true →
        IsTrue true ↔ LeavesStore i array e
    is-store index element b idle all last put tells told = (
      λ _. record {
        idle = idle;
        all = all;
        store = record {
          index = index;
          element = element;
          one =
              drop-front e.begun e.gates.items gate some is
              ∙ ap (λ l. gate ∷ l) (drop_all (e.begun + 1) e.gates.items (omega (arith, last)))
              ∙ ap (λ g. g ∷ []) put;
          suit =
              (test-is (sizes_of e.dealt) (sizes_of e.values) (Put array index element)).1
              (subst (SizesSuit (sizes_of e.dealt) (sizes_of e.values)) put (tells.0 told));
        };
      },
      λ h. refl,
    )
