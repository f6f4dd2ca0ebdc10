-- What the three miners hold at a stage of the run in the clear: after an opening, as their last value, the opened words.
use Rattle.std.proofs.Common.{◌≡◌, ℕ, ◌+◌, ◌-◌, ◌≤◌, List, [], ◌∷◌, ◌++◌, length, refl, sym, ap, ◌∙◌, subst, arith, zero-add}
use Rattle.proto_core.specs.declared.party.Number.{Number}
use Rattle.proto_core.specs.declared.party.Number.TheVariants.{One, Two, Three}
use Rattle.proto_core.specs.Lists.{AreWords}
use Rattle.protocol_model.specs.Gates.{nth_value}
use Rattle.protocol_model.specs.Runs.{Tapes, Ready}
use Rattle.gates.specs.declared.ring_kind.RingKind.{RingKind}
use Rattle.gates.specs.declared.gate.Gate.{Gate}
use Rattle.gates.specs.declared.gate.Gate.TheVariants.{Open}
use Rattle.gates.specs.Clear.{Values, value, FitFrom, Makes}
use Rattle.gates.specs.Counts.{made_by, made_by_all}
use Rattle.gates.proofs.Sizes.{FitFrom-append}
use Rattle.gates.proofs.Columns.{stands}
use Rattle.shared_gates.specs.Shares.{Kind, Holds, kind_at, share_at}
use Rattle.shared_gates.specs.Kinds.{Kinded, AllKinded}
use Rattle.shared_gates.specs.Model.{miner_of}
use Rattle.shared_gates.specs.Computed.{Computed}
use Rattle.shared_gates.proofs.Models.{nth_value-value}
use Rattle.gate_laws.specs.GateRuns.{GateRun, model_gates, end_shares, opened_words, words_drawn}
use Rattle.gate_laws.proofs.GateRunLaws.{run-goes, run-computes, run-count}
use Rattle.gate_laws.proofs.PlanRuns.{made-then}
use Rattle.language_model.specs.Effects.{Clear, Stage}
use Rattle.language_model.specs.Learned.{learned_of}
use Rattle.language_model.specs.Reports.{Offered, world_of}
use Rattle.language_model.specs.Tapes.{AtMost}
use Rattle.gate_laws.specs.Facts.{none_of, run_at, IsAt}
use Rattle.gate_laws.specs.Dealt.{drawn_by, Dealt}
use Rattle.driven_nodes.specs.Steps.{last_of}

kinded_behind :
    (dealt kinds : List Kind) (next : ℕ) (xs ys : List Gate) → AllKinded dealt kinds next (xs ++ ys)
    → AllKinded dealt kinds (next + made_by_all xs) ys
kinded_behind dealt kinds next [] ys h = let e : next ≡ next + 0 = omega arith in subst (λ n. AllKinded dealt kinds n ys) e h
kinded_behind dealt kinds next (g ∷ xs) ys h =
    let e : next + made_by g + made_by_all xs ≡ next + (made_by g + made_by_all xs) = omega arith in
    subst (λ n. AllKinded dealt kinds n ys) e (kinded_behind dealt kinds (next + made_by g) xs ys h.1)

module _ (o : Offered) (d : Dealt) (tapes : Tapes) (words : (i : Number) → AreWords (tapes i))
    (long : (i : Number) → length (tapes i) ≡ drawn_by o.lengths (miner_of i)) (kinds : List Kind) (s : Stage)
    (at : IsAt (world_of Clear o) d kinds none_of s) (fit : AtMost s.drawn o.lengths) where
  abbrev run : GateRun
  run = run_at (world_of Clear o) d kinds s

  reach : (i : Number) → words_drawn run i ≤ length (tapes i)
  reach One = let e = at.drawn One in let l = long One in omega (arith, e, l, fit.0)
  reach Two = let e = at.drawn Two in let l = long Two in omega (arith, e, l, fit.1)
  reach Three = let e = at.drawn Three in let l = long Three in omega (arith, e, l, fit.2)

  pub ready : Ready (model_gates run) (λ i. []) tapes
  ready = run-goes run at.formed tapes reach words

  pub computed : Computed kinds d.inputs [] s.gates (end_shares run tapes) (opened_words run tapes)
  computed = run-computes run at.formed tapes ready

  -- what is opened in the run is what is told as opened in the clear
  pub same_opened : opened_words run tapes ≡ learned_of s.events
  same_opened = (computed).opens ∙ sym (at.opened refl (computed).more (computed).fit)

  module _ (before : List Gate) (g : Gate) (one : made_by g ≡ 1) (e : s.gates ≡ before ++ g ∷ []) where
    abbrev number : ℕ
    number = made_by_all before

    abbrev values : Values
    values = (computed).more

    made_last : made_by_all s.gates ≡ number + 1
    made_last = let m = made-then before (g ∷ []) in ap made_by_all e ∙ omega arith

    pub last_value : (i : Number) → last_of (end_shares run tapes i) ≡ share_at (end_shares run tapes) number i
    last_value i =
        let count = run-count run at.formed tapes ready i in
        let index : length (end_shares run tapes i) - 1 ≡ number = omega (arith, count, made_last) in
        ap (nth_value (end_shares run tapes i)) index ∙ nth_value-value (end_shares run tapes i) number

    pub last_held : Holds (kind_at kinds number) (value values number) (share_at (end_shares run tapes) number)
    last_held = (computed).held number (omega (arith, (computed).count, made_last))

    pub last_kinded : Kinded d.kinds kinds number g
    last_kinded =
        subst (λ n. Kinded d.kinds kinds n g) (zero-add number)
        (kinded_behind d.kinds kinds 0 before (g ∷ []) (subst (AllKinded d.kinds kinds 0) e at.formed.kinded)).0

    both_fit : FitFrom d.inputs values 0 before × FitFrom d.inputs values (0 + number) (g ∷ [])
    both_fit = FitFrom-append d.inputs values 0 before (g ∷ []) (subst (FitFrom d.inputs values 0) e (computed).fit)

    pub last_made : Makes d.inputs values number g
    last_made = subst (λ n. Makes d.inputs values n g) (zero-add number) (both_fit).1.1

  -- after an opening
  pub last_opened :
      (before : List Gate) (ring : RingKind) (k : ℕ) (e : s.gates ≡ before ++ Open ring k ∷ []) (i : Number)
      → last_of (end_shares run tapes i) ≡ value (computed).more k
  last_opened before ring k e i =
      let number = made_by_all before in
      let known = (last_kinded before (Open ring k) refl e).1 in
      let held = subst (λ z. Holds z (value (computed).more number) (share_at (end_shares run tapes) number)) known (last_held before (Open ring k) refl e) in
      last_value before (Open ring k) refl e i ∙ held i ∙ stands (computed).more number (last_made before (Open ring k) refl e)
