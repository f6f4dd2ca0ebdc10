-- A list of gates, gate by gate: the words that were made and those that the rest makes are always the whole.
use Rattle.std.proofs.Common.{◌≡◌, ℕ, ◌+◌, ◌≤◌, List, [], ◌∷◌, ◌++◌, length, drop, refl, sym, ◌∙◌, ap, subst, arith, length-drop}
use Rattle.proto_core.specs.declared.party.Number.{Number}
use Rattle.proto_core.specs.declared.party.Number.TheVariants.{One}
use Rattle.protocol_model.specs.Gates.{needed, sizes_of}
use Rattle.protocol_model.specs.Gates as model
use Rattle.protocol_model.specs.Runs.{Shares, Tapes}
use Rattle.protocol_model.proofs.Sizes.{needed-append}
use Rattle.gates.specs.declared.gate.Gate.{Gate}
use Rattle.gates.specs.Clear.{Values}
use Rattle.shared_gates.specs.Model.{AllSizesSuit, sizes_made, run_gates}
use Rattle.joint_run.specs.JointRuns.{dealt_sizes, IsEven, CanRun}
use Rattle.tape_twin.specs.declared.way.Way.{Way}
use Rattle.tape_twin.specs.declared.way.Way.TheVariants.{ToView, FromView}
use Rattle.tape_twin.specs.declared.way.TapeMap.{TapeMap}
use Rattle.tape_twin.specs.Maps.{gates_map, looked_gates, run_map}
use Rattle.tape_twin.specs.Stands.{Stand, gate_on, whole_with, Passes, CanPass}

abbrev no_values : Shares
no_values i = []

abbrev gates_on : (dealt shares : Number → Values) → List Gate → List model.Gate
gates_on dealt shares gates = run_gates dealt (dealt_sizes dealt) (dealt_sizes shares) gates

-- the gates that are left can be run
pub record CanFinish (dealt : Number → Values) (later : List Gate) (s : Stand) : Type 0 where
  pub suit : AllSizesSuit (dealt_sizes dealt) (dealt_sizes s.shares) later
  pub reach : (k : Number) → needed (gates_on dealt s.shares later) k ≤ length (s.rest k)

pub record Walked (map : TapeMap) (dealt : Number → Values) (gates : List Gate) (tapes : Tapes) (later : List Gate) (s : Stand) : Type 0 where
  pub even : IsEven s.shares
  pub whole :
      (k : Number) →
      whole_with map s (looked_gates map.looker later (gates_on dealt s.shares later)) k
      ≡ run_map map dealt gates tapes k
  pub can : CanRun dealt gates tapes → CanFinish dealt later s

none-first : (way : Way) (shares : Shares) (rest : Tapes) (k : Number) → gates_map way [] shares rest k ≡ rest k
none-first ToView shares rest k = refl
none-first FromView shares rest k = refl

module _ (map : TapeMap) (dealt : Number → Values) (gates : List Gate) (tapes : Tapes) where
  -- no gate yet
  pub begun : (s : Stand) → ((k : Number) → s.shares k ≡ []) → s.rest ≡ tapes → ((k : Number) → s.made k ≡ []) → Walked map dealt gates tapes gates s
  begun s none rest made =
      let shares : s.shares ≡ no_values = λ d. λ k. none k d in
      record {
        even = λ k. ap sizes_of (none k) ∙ ap sizes_of (sym (none One));
        whole = λ k.
            ap (λ w. w ++ gates_map map.way (looked_gates map.looker gates (gates_on dealt s.shares gates)) s.shares s.rest k) (made k)
            ∙ ap (λ (v : Shares). gates_map map.way (looked_gates map.looker gates (gates_on dealt v gates)) v s.rest k) shares
            ∙ ap (λ (t : Tapes). gates_map map.way (looked_gates map.looker gates (run_gates dealt (dealt_sizes dealt) [] gates)) no_values t k) rest;
        can = λ can.
            record {
              suit = subst (λ (v : Shares). AllSizesSuit (dealt_sizes dealt) (dealt_sizes v) gates) (sym shares) can.suit;
              reach = λ k.
                  subst (λ (t : Tapes). needed (gates_on dealt s.shares gates) k ≤ length (t k)) (sym rest)
                  (subst (λ (v : Shares). needed (gates_on dealt v gates) k ≤ length (tapes k)) (sym shares) (can.reach k));
            };
      }

  module _ (gate : Gate) (later : List Gate) (s : Stand) (walked : Walked map dealt gates tapes (gate ∷ later) s) where
    pub can-pass : CanRun dealt gates tapes → CanPass dealt gate s
    can-pass can =
        let h : CanFinish dealt (gate ∷ later) s = walked.can can in
        record {
          suits = h.suit.0;
          reach = λ k.
              let both : needed (gates_on dealt s.shares (gate ∷ later)) k
              ≡ needed (gate_on dealt s.shares gate ∷ []) k
              + needed (run_gates dealt (dealt_sizes dealt) (dealt_sizes s.shares ++ sizes_made (dealt_sizes dealt) (dealt_sizes s.shares) gate) later) k =
              needed-append (gate_on dealt s.shares gate ∷ [])
              (run_gates dealt (dealt_sizes dealt) (dealt_sizes s.shares ++ sizes_made (dealt_sizes dealt) (dealt_sizes s.shares) gate) later) k in
              let all : needed (gates_on dealt s.shares (gate ∷ later)) k ≤ length (s.rest k) = h.reach k in
              omega arith;
        }

    -- one gate more
    pub passed : (t : Stand) → Passes map dealt gate s t → Walked map dealt gates tapes later t
    passed t passes =
        let ds : List ℕ = dealt_sizes dealt in
        let sizes : List ℕ = dealt_sizes s.shares ++ sizes_made (dealt_sizes dealt) (dealt_sizes s.shares) gate in
        let here : dealt_sizes t.shares ≡ sizes = passes.sizes One in
        record {
          even = λ k. passes.sizes k ∙ sym (passes.sizes One);
          whole = λ k.
              ap (λ (l : List ℕ). whole_with map t (looked_gates map.looker later (run_gates dealt ds l later)) k) here
              ∙ sym (passes.whole (looked_gates map.looker later (run_gates dealt ds sizes later)) k)
              ∙ walked.whole k;
          can = λ can.
              let h : CanFinish dealt (gate ∷ later) s = walked.can can in
              record {
                suit = subst (λ (l : List ℕ). AllSizesSuit ds l later) (sym here) h.suit.1;
                reach = λ k.
                    let both : needed (gates_on dealt s.shares (gate ∷ later)) k
                    ≡ needed (gate_on dealt s.shares gate ∷ []) k + needed (run_gates dealt ds sizes later) k =
                    needed-append (gate_on dealt s.shares gate ∷ []) (run_gates dealt ds sizes later) k in
                    let all : needed (gates_on dealt s.shares (gate ∷ later)) k ≤ length (s.rest k) = h.reach k in
                    let less : length (t.rest k) ≡ length (drop (needed (gate_on dealt s.shares gate ∷ []) k) (s.rest k)) =
                    ap length (passes.left k) in
                    let left = length-drop (needed (gate_on dealt s.shares gate ∷ []) k) (s.rest k) in
                    let rest : needed (run_gates dealt ds sizes later) k ≤ length (t.rest k) = omega arith in
                    subst (λ (l : List ℕ). needed (run_gates dealt ds l later) k ≤ length (t.rest k)) (sym here) rest;
              };
        }

  -- no gate is left
  pub ended :
      (s : Stand) → Walked map dealt gates tapes [] s → (k : Number) →
      s.made k ++ s.rest k ≡ run_map map dealt gates tapes k
  ended s walked k = ap (λ w. s.made k ++ w) (sym (none-first map.way s.shares s.rest k)) ∙ walked.whole k
