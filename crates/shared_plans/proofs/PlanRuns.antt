-- What a run comes to with gates after it that suit it and open nothing.
use Rattle.std.proofs.Common.{◌≡◌, ℕ, ◌+◌, ◌<◌, ◌≤◌, Some, List, [], ◌∷◌, ◌++◌, length, map, refl, sym, ◌∙◌, ap, subst, arith, length-append}
use Rattle.std.specs.Prelude.{slice_get}
use Rattle.std.proofs.lemmas.List.{get_or_append_left}
use Rattle.proto_core.specs.Rings.{add_ring}
use Rattle.proto_core.specs.declared.party.Number.{Number}
use Rattle.protocol_model.specs.Gates.{AreSound, needed}
use Rattle.protocol_model.specs.Gates as model
use Rattle.protocol_model.specs.Runs.{Tapes, Ready, run_values, run_opened}
use Rattle.protocol_model.proofs.Sizes.{needed-append}
use Rattle.gates.specs.declared.ring_kind.RingKind.{RingKind}
use Rattle.gates.specs.declared.ring_kind.RingKind.TheVariants.{Arithmetic}
use Rattle.gates.specs.declared.gate.Gate.{Gate}
use Rattle.gates.specs.declared.gate.Gate.TheVariants.{Mul, And, Split, Conv, Open, Result}
use Rattle.gates.specs.Clear.{Values, value, ring_of, FitFrom}
use Rattle.gates.specs.Counts.{Miner, size_of, made_by_all, words_of_all}
use Rattle.gates.proofs.Sizes.{FitFrom-append, size_of-value}
use Rattle.gates.proofs.Columns.{stands}
use Rattle.shared_gates.proofs.BlockViews.{same_words}
use Rattle.shared_gates.specs.Shares.{AreShares, Kind, Shared, Holds, kind_at}
use Rattle.shared_gates.specs.Kinds.{AllKinded}
use Rattle.shared_gates.specs.Model.{sizes_made, run_gates, miner_of}
use Rattle.shared_gates.specs.Computed.{Computed}
use Rattle.shared_gates.proofs.Models.{gates-sound}
use Rattle.shared_gates.proofs.Drawn.{drawn-counted}
use Rattle.shared_gates.proofs.GatesBehind.{sizes-then, suits-then, gates-then, size-stays}
use Rattle.shared_plans.specs.GateRuns.{GateRun, IsWellFormed, dealt_sizes, value_count, value_sizes, then_gates, model_gates, end_shares, shares_of}
use Rattle.shared_plans.specs.GateRuns.{opened_words, words_drawn, IsNumber, Reach}
use Rattle.shared_plans.specs.Outcomes.{OpensNone, Follows, Outcome}
use Rattle.shared_plans.proofs.KindedPlans.{shared-grown, shared-below, kind-behind, kinded-append}
use Rattle.shared_plans.proofs.GateLists.{all-kinded-still}
use Rattle.shared_plans.proofs.RunLists.{values-grow, values-then, OpenNone, opened-before}
use Rattle.shared_plans.proofs.GateRunLaws.{shares-determine, run-needs, run-goes, run-computes, run-count, sizes-count, computed-sizes, zero_tapes, zeros-go}

opens-none : (dealt : Number → Values) (ds sizes : List ℕ) (gates : List Gate) → OpensNone gates → OpenNone (run_gates dealt ds sizes gates)
opens-none dealt ds sizes [] none = tt
opens-none dealt ds sizes (Mul u v ∷ gates) none = (refl, opens-none dealt ds (sizes ++ sizes_made ds sizes (Mul u v)) gates none)
opens-none dealt ds sizes (And u v ∷ gates) none = (refl, opens-none dealt ds (sizes ++ sizes_made ds sizes (And u v)) gates none)
opens-none dealt ds sizes (Split u negated ∷ gates) none = (refl, opens-none dealt ds (sizes ++ sizes_made ds sizes (Split u negated)) gates none)
opens-none dealt ds sizes (Conv u ∷ gates) none = (refl, opens-none dealt ds (sizes ++ sizes_made ds sizes (Conv u)) gates none)
opens-none dealt ds sizes (Open ring u ∷ gates) none = absurd none
opens-none dealt ds sizes (Result ring u ∷ gates) none = (refl, opens-none dealt ds (sizes ++ sizes_made ds sizes (Result ring u)) gates none)
opens-none dealt ds sizes (gate ∷ gates) none = opens-none dealt ds (sizes ++ sizes_made ds sizes gate) gates none

pub made-then : (xs ys : List Gate) → made_by_all (xs ++ ys) ≡ made_by_all xs + made_by_all ys
made-then [] ys = omega arith
made-then (gate ∷ xs) ys = omega (arith, made-then xs ys)

pub number-below : (r : GateRun) → IsWellFormed r → (u n : ℕ) → IsNumber r n u → u < value_count r
number-below r good u n number = subst (λ count. u < count) good.counted (shared-below r.kinds u Arithmetic number.kind)

module _ (r : GateRun) (plan : List Gate) (own : List Kind) (words : Miner → ℕ) (good : IsWellFormed r) (follows : Follows r plan own words) where
  abbrev longer : GateRun
  longer = then_gates r plan own

  abbrev plan_gates : List model.Gate
  plan_gates = run_gates r.dealt (dealt_sizes r) (value_sizes r) plan

  pub longer-formed : IsWellFormed longer
  longer-formed =
      let count = good.counted in
      let enough : 0 + made_by_all r.gates ≤ length r.kinds = omega arith in
      let start : value_count r ≡ 0 + made_by_all r.gates = omega arith in
      let both = length-append r.kinds own in
      let own_count = follows.counted in
      let made = made-then r.gates plan in
      record {
        dealt_held = good.dealt_held;
        dealt_sized = good.dealt_sized;
        kinded =
            kinded-append r.dealt_kinds (r.kinds ++ own) 0 r.gates plan (all-kinded-still r.dealt_kinds r.kinds own 0 r.gates enough good.kinded)
            (subst (λ n. AllKinded r.dealt_kinds (r.kinds ++ own) n plan) start follows.kinded);
        suits = suits-then (dealt_sizes r) [] r.gates plan good.suits follows.suits;
        counted = omega arith;
      }

  all-gates : model_gates longer ≡ model_gates r ++ plan_gates
  all-gates = gates-then r.dealt (dealt_sizes r) [] r.gates plan

  -- ---- values that fit

  module _ (tapes : Tapes) (ready : Ready (model_gates longer) (λ i. []) tapes)
      (computed : Computed longer.kinds longer.inputs [] longer.gates (end_shares longer tapes) (opened_words longer tapes)) where
    pub plan-fit : FitFrom r.inputs computed.more (value_count r) plan
    plan-fit =
        let start : 0 + value_count r ≡ value_count r = omega arith in
        subst (λ n. FitFrom r.inputs computed.more n plan) start (FitFrom-append r.inputs computed.more 0 r.gates plan computed.fit).1

    more-sizes : map length computed.more ≡ value_sizes longer
    more-sizes = computed-sizes longer longer-formed tapes ready computed.more computed.count computed.held

    pub early-size : (u : ℕ) → u < value_count r → length (value computed.more u) ≡ size_of (value_sizes r) u
    early-size u lt =
        sym (size_of-value computed.more u)
        ∙ ap (λ sizes. size_of sizes u) (more-sizes ∙ sizes-then (dealt_sizes r) [] r.gates plan)
        ∙ sym (size-stays (dealt_sizes r) (value_sizes r) plan u (subst (λ n. u < n) (sym (sizes-count r good)) lt))

    plan-words : (miner : Miner) → words_of_all (value_sizes longer) miner plan ≡ words miner
    plan-words miner =
        ap (λ sizes. words_of_all sizes miner plan) (sym more-sizes)
        ∙ follows.takes r.inputs computed.more miner early-size plan-fit

  -- ---- words

  pub words-then : (i : Number) → words_drawn longer i ≡ words_drawn r i + words (miner_of i)
  words-then i =
      let zeros = zeros-go longer longer-formed in
      let of_plan = plan-words (zero_tapes longer longer-formed) zeros (run-computes longer longer-formed (zero_tapes longer longer-formed) zeros)
      (miner_of i) in
      sym (run-needs longer longer-formed i)
      ∙ ap (λ gates. needed gates i) all-gates
      ∙ needed-append (model_gates r) plan_gates i
      ∙ ap (λ k. k + needed plan_gates i) (run-needs r good i)
      ∙ ap (λ k. words_drawn r i + k)
      (drawn-counted r.dealt (dealt_sizes r) (value_sizes r) plan i follows.suits
      ∙ ap (λ sizes. words_of_all sizes (miner_of i) plan) (sym (sizes-then (dealt_sizes r) [] r.gates plan))
      ∙ of_plan)

  -- ---- the run

  module _ (tapes : Tapes) (reach : Reach r words tapes) where
    longer-goes : Ready (model_gates longer) (λ i. []) tapes
    longer-goes =
        run-goes longer longer-formed tapes
        (λ i. subst (λ n. n ≤ length (tapes i)) (sym (words-then i)) (reach.long i)) reach.words

    early-goes : Ready (model_gates r) (λ i. []) tapes
    early-goes =
        run-goes r good tapes (λ i. let long : words_drawn r i + words (miner_of i) ≤ length (tapes i) = reach.long i in omega arith) reach.words

    shares-kept : (u : ℕ) → u < value_count r → (i : Number) → shares_of longer tapes u i ≡ shares_of r tapes u i
    shares-kept u lt i =
        let later = values-then (model_gates r) plan_gates (λ k. []) tapes in
        let grown = values-grow plan_gates (end_shares r tapes) later.0 i in
        ap (λ gates. value (run_values gates (λ k. []) tapes i) u) all-gates
        ∙ ap (λ shares. value (shares i) u) later.1
        ∙ ap (λ shares. value shares u) grown.1
        ∙ get_or_append_left (end_shares r tapes i) grown.0 [] u (subst (λ n. u < n) (sym (run-count r good tapes early-goes i)) lt)

    no-more-opened : opened_words longer tapes ≡ opened_words r tapes
    no-more-opened =
        let sound = subst AreSound all-gates (gates-sound r.dealt (dealt_sizes r) [] longer.gates) in
        let ready = subst (λ gates. Ready gates (λ i. []) tapes) all-gates longer-goes in
        let none = opens-none r.dealt (dealt_sizes r) (value_sizes r) plan follows.opens_none in
        ap (λ gates. run_opened gates (λ i. []) tapes) all-gates
        ∙ opened-before (model_gates r) plan_gates (λ i. []) tapes sound ready none

    pub outcome : Outcome r longer tapes
    outcome =
        record {
          well_formed = longer-formed;
          ready = longer-goes;
          computed = run-computes longer longer-formed tapes longer-goes;
          count = run-count longer longer-formed tapes longer-goes;
          kept = shares-kept;
          opens_no_more = no-more-opened;
        }

    abbrev out : Outcome r longer tapes
    out = outcome

    -- the words that the shares of an operand add up to are its clear value
    pub operand-value : (u n : ℕ) → IsNumber r n u → (us : List ℕ) → AreShares add_ring us (shares_of r tapes u) → us ≡ value out.computed.more u
    operand-value u n number us shares =
        let early : u < value_count r = number-below r good u n number in
        let made : made_by_all longer.gates ≡ value_count r + made_by_all plan = made-then r.gates plan in
        let in_longer : u < length out.computed.more = omega (arith, out.computed.count) in
        let held =
        subst (λ kind. Holds kind (value out.computed.more u) (shares_of longer tapes u)) (shared-grown r.kinds own u Arithmetic number.kind)
        (out.computed.held u in_longer) in
        shares-determine add_ring us (value out.computed.more u) (shares_of r tapes u) shares
        (subst (λ s. AreShares add_ring (value out.computed.more u) s) (same_words (shares_of longer tapes u) (shares_of r tapes u) (out.kept u early)) held)

    -- and where one of the plan's values is told, the miners hold shares of it
    pub result-shares :
        (ring : RingKind) (j : ℕ) (result : List ℕ) → j < made_by_all plan → kind_at own j ≡ Shared ring →
        slice_get out.computed.more (value_count r + j) ≡ Some result → AreShares (ring_of ring) result (shares_of longer tapes (value_count r + j))
    result-shares ring j result lt kind is =
        let last = value_count r + j in
        let made : made_by_all longer.gates ≡ value_count r + made_by_all plan = made-then r.gates plan in
        let in_longer : last < length out.computed.more = omega (arith, out.computed.count) in
        let last_kind : kind_at longer.kinds last ≡ Shared ring =
        subst (λ n. kind_at longer.kinds (n + j) ≡ Shared ring) good.counted (kind-behind r.kinds own j ∙ kind) in
        subst (λ xs. AreShares (ring_of ring) xs (shares_of longer tapes last)) (stands out.computed.more last is)
        (subst (λ k. Holds k (value out.computed.more last) (shares_of longer tapes last)) last_kind (out.computed.held last in_longer))

    pub fits-plan : FitFrom r.inputs out.computed.more (value_count r) plan
    fits-plan = plan-fit tapes out.ready out.computed

    pub operand-size : (u n : ℕ) → IsNumber r n u → length (value out.computed.more u) ≡ n
    operand-size u n number = early-size tapes out.ready out.computed u (number-below r good u n number) ∙ number.size
