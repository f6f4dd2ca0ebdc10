-- A list of gates is run gate by gate.
use Rattle.std.proofs.Common.{◌≡◌, ℕ, ◌+◌, ◌-◌, ◌≤◌, List, [], ◌∷◌, ◌++◌, length, refl, sym, ◌∙◌, ap, subst, inl, inr, arith, length-drop}
use Rattle.proto_core.specs.declared.party.Number.{Number}
use Rattle.proto_core.specs.declared.party.Number.TheVariants.{One, Two, Three}
use Rattle.protocol_model.specs.Gates.{needed, sizes_of}
use Rattle.protocol_model.specs.Runs.{Tapes}
use Rattle.protocol_model.proofs.Sizes.{needed-append}
use Rattle.gates.specs.declared.gate.Gate.{Gate}
use Rattle.gates.specs.Clear.{Values}
use Rattle.shared_gates.specs.Model.{SizesSuit, sizes_made, run_gate, run_gates}
use Rattle.shared_gates.proofs.GatesBehind.{gates-then, sizes-then, suits-then}
use Rattle.joint_run.specs.declared.joint_err.JointErr.{JointErr}
use Rattle.joint_run.specs.RunState.{RunState, begun, behind}
use Rattle.joint_run.specs.JointRuns.{dealt_sizes, IsEven, words_for, sizes_behind, words_for_next, IsAt, EarlierReach, IsUnsuited, EndsTape, Refuses}
use Rattle.joint_run.specs.GateByGate.{HaveSizes, own_sizes, Through, draws_for, left_of, RunsGate, DoesNotSuit, Ends, RefusesGate}
use Rattle.joint_run.proofs.InSteps.{same_state, both-behind}

module _ (dealt : Number → Values) (tapes : Tapes) where
  pub none-through : IsEven dealt → (s : RunState) → s ≡ begun tapes → Through dealt [] tapes s
  none-through even s is =
      record {
        run =
            record {
              can = record { even = even; suit = tt; reach = λ i. omega arith };
              is = is ∙ same_state (begun tapes) (behind [] (begun tapes)) (λ i. refl) (λ i. refl) (λ l. refl) refl;
            };
        sizes = λ i. ap (λ t. sizes_of (t.shares i)) is;
      }

  module _ (before : List Gate) (s : RunState) (through : Through dealt before tapes s) where
    own-sizes : own_sizes s ≡ sizes_behind dealt before
    own-sizes = through.sizes One

    pub same-sizes : HaveSizes (own_sizes s) s
    same-sizes = λ i. through.sizes i ∙ sym own-sizes

    tape-left : (i : Number) → length (s.tapes i) ≡ length (tapes i) - words_for dealt before i
    tape-left i = ap (λ t. length (t.tapes i)) through.run.is ∙ length-drop (words_for dealt before i) (tapes i)

    -- with the gate that comes after them
    pub next-through : (gate : Gate) (t : RunState) → RunsGate dealt gate s t → Through dealt (before ++ gate ∷ []) tapes t
    next-through gate t runs =
        let ds = dealt_sizes dealt in
        let gs = run_gates dealt ds [] before in
        let next = run_gate dealt ds (sizes_behind dealt before) gate in
        let all : run_gates dealt ds [] (before ++ gate ∷ []) ≡ gs ++ next ∷ [] = gates-then dealt ds [] before (gate ∷ []) in
        let suits = subst (λ sizes. SizesSuit ds sizes gate) own-sizes runs.suits in
        record {
          run =
              record {
                can =
                    record {
                      even = through.run.can.even;
                      suit = suits-then ds [] before (gate ∷ []) through.run.can.suit (suits, tt);
                      reach = λ i.
                          let here : words_for dealt before i ≤ length (tapes i) = through.run.can.reach i in
                          let more : needed (next ∷ []) i ≤ length (s.tapes i) =
                          subst (λ sizes. needed (run_gate dealt ds sizes gate ∷ []) i ≤ length (s.tapes i)) own-sizes (runs.reach i) in
                          let len : length (s.tapes i) ≡ length (tapes i) - words_for dealt before i = tape-left i in
                          let both : needed (gs ++ next ∷ []) i ≡ words_for dealt before i + needed (next ∷ []) i = needed-append gs (next ∷ []) i in
                          let le : needed (gs ++ next ∷ []) i ≤ length (tapes i) = omega arith in
                          subst (λ g. needed g i ≤ length (tapes i)) (sym all) le;
                    };
                is =
                    runs.is
                    ∙ ap (λ sizes. behind (run_gate dealt ds sizes gate ∷ []) s) own-sizes
                    ∙ ap (behind (next ∷ [])) through.run.is
                    ∙ sym (both-behind gs (next ∷ []) (begun tapes))
                    ∙ ap (λ g. behind g (begun tapes)) (sym all);
              };
          sizes = λ i.
              runs.sizes i
              ∙ ap (λ sizes. sizes ++ sizes_made ds sizes gate) own-sizes
              ∙ sym (sizes-then ds [] before (gate ∷ []));
        }

    -- or it is refused
    module _ (gates : List Gate) (gate : Gate) (later : List Gate) (place : ℕ) (are : gates ≡ before ++ gate ∷ later) (count : length before ≡ place) where
      here-at : IsAt dealt gates tapes place before gate later
      here-at = record { are = are; count = count; can = through.run.can }

      unsuited : (err : JointErr) → DoesNotSuit dealt gate s place err → Refuses dealt gates tapes err
      unsuited err h =
          let gone : IsUnsuited dealt gates tapes place =
          record {
            before = before;
            gate = gate;
            later = later;
            at = here-at;
            fails = λ suits. h.fails (subst (λ sizes. SizesSuit (dealt_sizes dealt) sizes gate) (sym own-sizes) suits);
          } in
          subst (λ e. Refuses dealt gates tapes e) (sym h.is) gone

      draws-are : (i : Number) → draws_for dealt s gate i ≡ words_for_next dealt before gate i
      draws-are i = ap (λ sizes. needed (run_gate dealt (dealt_sizes dealt) sizes gate ∷ []) i) own-sizes

      reaches : (i : Number) → draws_for dealt s gate i ≤ left_of s i → words_for dealt before i + words_for_next dealt before gate i ≤ length (tapes i)
      reaches i le =
          let here : words_for dealt before i ≤ length (tapes i) = through.run.can.reach i in
          let len : length (s.tapes i) ≡ length (tapes i) - words_for dealt before i = tape-left i in
          let same : draws_for dealt s gate i ≡ words_for_next dealt before gate i = draws-are i in
          omega arith

      earlier : (miner : Number) → EarlierReach (draws_for dealt s gate) (left_of s) miner
          → EarlierReach (λ k. words_for dealt before k + words_for_next dealt before gate k) (λ k. length (tapes k)) miner
      earlier One h = tt
      earlier Two h = reaches One h
      earlier Three h = (reaches One h.0, reaches Two h.1)

      ended : (err : JointErr) → Ends dealt gate s place err → Refuses dealt gates tapes err
      ended err h =
          let i = h.lacks.miner in
          let here : words_for dealt before i ≤ length (tapes i) = through.run.can.reach i in
          let len : length (s.tapes i) ≡ length (tapes i) - words_for dealt before i = tape-left i in
          let gone : EndsTape dealt gates tapes place i (draws_for dealt s gate i) (left_of s i) =
          record {
            before = before;
            gate = gate;
            later = later;
            at = here-at;
            suits = subst (λ sizes. SizesSuit (dealt_sizes dealt) sizes gate) own-sizes h.suits;
            needs = draws-are i;
            has = omega arith;
            short = h.lacks.short;
            earlier = earlier i h.lacks.earlier;
          } in
          subst (λ e. Refuses dealt gates tapes e) (sym h.lacks.is) gone

      pub next-refused : (err : JointErr) → RefusesGate dealt gate s place err → Refuses dealt gates tapes err
      next-refused err h =
          elim h as (λ _. Refuses dealt gates tapes err) [
            | inl memory ↦ subst (λ e. Refuses dealt gates tapes e) (sym memory) tt
            | inr rest ↦ elim rest as (λ _. Refuses dealt gates tapes err) [ inl unfit ↦ unsuited err unfit | inr short ↦ ended err short ]
          ]

pub even-of : (dealt : Number → Values) → sizes_of (dealt Two) ≡ sizes_of (dealt One) → sizes_of (dealt Three) ≡ sizes_of (dealt One) → IsEven dealt
even-of dealt second third One = refl
even-of dealt second third Two = second
even-of dealt second third Three = third
