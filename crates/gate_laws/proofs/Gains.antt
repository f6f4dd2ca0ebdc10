-- Gates that an effect adds after a run, and the fact of the value that they end with.
use Rattle.std.proofs.Common.{◌≡◌, ℕ, ◌+◌, ◌-◌, Some, List, [], ◌∷◌, ◌++◌, length, refl, sym, ap, ◌∙◌, subst, arith, append_assoc, append-nil}
use Rattle.std.specs.Prelude.{slice_get}
use Rattle.gates.specs.declared.ring_kind.RingKind.{RingKind}
use Rattle.gates.specs.declared.gate.Gate.{Gate}
use Rattle.gates.specs.declared.gate.Gate.TheVariants.{Open}
use Rattle.gates.specs.Clear.{Values, value, FitFrom}
use Rattle.gates.specs.Counts.{Miner, made_by, made_by_all}
use Rattle.gates.proofs.Sizes.{FitFrom-append}
use Rattle.gates.proofs.Columns.{stands}
use Rattle.shared_plans.specs.Shares.{Kind, Shared, kind_at}
use Rattle.shared_plans.specs.Model.{miner_of}
use Rattle.shared_plans.specs.Computed.{opened_by_gate, opened_values}
use Rattle.shared_plans.specs.GateRuns.{GateRun, IsWellFormed, value_count}
use Rattle.shared_plans.specs.Outcomes.{OpensNone, Follows}
use Rattle.shared_plans.proofs.KindedPlans.{kind-behind}
use Rattle.shared_plans.proofs.PlanRuns.{longer-formed, words-then, made-then}
use Rattle.language_model.specs.Effects.{World, Stage, gate, planned}
use Rattle.gate_laws.specs.Facts.{handed_by_gate, handed_values, Handed, Fact, Stands, AllStand, run_at, IsAt, Comes, Suits}
use Rattle.gate_laws.specs.Dealt.{Dealt}
use Rattle.gate_laws.proofs.Effects.{Any}

pub opened_split : (values : Values) (xs ys : List Gate) → opened_values values (xs ++ ys) ≡ opened_values values xs ++ opened_values values ys
opened_split values [] ys = refl
opened_split values (g ∷ xs) ys =
    ap (λ z. opened_by_gate values g ++ z) (opened_split values xs ys) ∙ sym
    (append_assoc (opened_by_gate values g) (opened_values values xs) (opened_values values ys))

none_opened : (values : Values) (gs : List Gate) → OpensNone gs → opened_values values gs ≡ []
none_opened values [] none = refl
none_opened values (Open ring u ∷ gs) none = absurd none
none_opened values (g ∷ gs) none = none_opened values gs none

pub handed_split : (values : Values) (xs ys : List Gate) → handed_values values (xs ++ ys) ≡ handed_values values xs ++ handed_values values ys
handed_split values [] ys = refl
handed_split values (g ∷ xs) ys =
    ap (λ z. handed_by_gate values g ++ z) (handed_split values xs ys)
    ∙ sym (append_assoc (handed_by_gate values g) (handed_values values xs) (handed_values values ys))

-- gates that suit a run, hand no value over and draw so many words; value number j of those that they make is shared in this ring, and has these words
pub record Gain (r : GateRun) (gs : List Gate) (own : List Kind) (taken : Miner → ℕ) (j : ℕ) (ring : RingKind) (ws : List ℕ) : Type 0 where
  pub follows : Follows r gs own taken
  pub none_handed : (values : Values) → handed_values values gs ≡ []
  pub kind : kind_at own j ≡ Shared ring
  pub makes : (values : Values) → FitFrom r.inputs values 0 r.gates → FitFrom r.inputs values (value_count r) gs
      → slice_get values (value_count r + j) ≡ Some ws

abbrev pub fact : ℕ → RingKind → List ℕ → Fact
fact k ring ws = record { number = k; ring = ring; words = ws }

module _ (w : World) (d : Dealt) where
  -- after these gates
  abbrev added : List Gate → Stage → Stage
  added gs s = record s { made = s.made + made_by_all gs; gates = s.gates ++ gs }

  module _ (kinds : List Kind) (s : Stage) (gs : List Gate) (own : List Kind) (before taken after : Miner → ℕ) (j : ℕ) (ring : RingKind) (ws : List ℕ) where
    abbrev run : GateRun
    run = run_at w d kinds s

    late_fit : (values : Values) → FitFrom d.inputs values 0 (s.gates ++ gs) → FitFrom d.inputs values 0 s.gates × FitFrom d.inputs values (value_count run) gs
    late_fit values fit =
        let both = FitFrom-append d.inputs values 0 s.gates gs fit in
        let start : 0 + made_by_all s.gates ≡ value_count run = omega arith in
        (both.0, subst (λ n. FitFrom d.inputs values n gs) start both.1)

    added_at : IsAt w d kinds before s → Follows run gs own taken → ((values : Values) → handed_values values gs ≡ [])
        → ((m : Miner) → before m ≡ taken m + after m)
        → IsAt w d (kinds ++ own) after (added gs s)
    added_at at follows none owed =
        record {
          formed = longer-formed run gs own taken at.formed follows;
          made = let e = made-then s.gates gs in omega (arith, at.made);
          drawn = λ i. let more = words-then run gs own taken at.formed follows i in omega (arith, at.drawn i, owed (miner_of i));
          answers = at.answers;
          handed = λ values fit.
              subst (Handed s.events)
              (sym (append-nil (handed_values values s.gates)) ∙ ap (λ z. handed_values values s.gates ++ z) (sym (none values))
              ∙ sym (handed_split values s.gates gs)) (at.handed values (late_fit values fit).0);
          opened = λ clear values fit.
              at.opened clear values (late_fit values fit).0 ∙ sym (append-nil (opened_values values s.gates))
              ∙ ap (λ z. opened_values values s.gates ++ z) (sym (none_opened values gs follows.opens_none)) ∙ sym (opened_split values s.gates gs);
        }

    new_stands : IsAt w d kinds before s → Gain run gs own taken j ring ws → Stands (run_at w d (kinds ++ own) (added gs s)) (fact (s.made + j) ring ws)
    new_stands at g =
        let count : length kinds ≡ value_count run = at.formed.counted in
        let first : value_count run + j ≡ s.made + j = omega (arith, at.made) in
        let kind_first : length kinds + j ≡ s.made + j = omega (arith, at.made, count) in
        record {
          kind = subst (λ n. kind_at (kinds ++ own) n ≡ Shared ring) kind_first (kind-behind kinds own j ∙ g.kind);
          words = λ values fit.
              let both = late_fit values fit in
              subst (λ n. value values n ≡ ws) first
              (stands values (value_count run + j) (g.makes values both.0 both.1));
        }

    gained :
        IsAt w d kinds before s → Gain run gs own taken j ring ws → ((m : Miner) → before m ≡ taken m + after m)
        → Comes w d s (added gs s) kinds after (fact (s.made + j) ring ws ∷ []) (Unit {0})
    gained at g owed =
        record {
          later = kinds ++ own;
          grown = record { gates = gs; own = own; more_gates = refl; more_kinds = refl };
          stage = added_at at g.follows g.none_handed owed;
          facts = (new_stands at g, tt);
          sure = tt;
        }

  -- the gates of a plan
  pub planned_suits :
      (fs : List Fact) (before taken after : Miner → ℕ) (plan : ℕ → List Gate) (own : List Kind) (j : ℕ) (ring : RingKind) (ws : List ℕ)
      → ((m : Miner) → before m ≡ taken m + after m) → ((first : ℕ) → made_by_all (plan first) ≡ j + 1)
      → ((r : GateRun) → IsWellFormed r → AllStand r fs → Gain r (plan (value_count r)) own taken j ring ws)
      → Suits w d fs before (planned plan) after (λ k. fact k ring ws ∷ []) (Any {A = ℕ})
  planned_suits fs before taken after plan own j ring ws owed last h =
      record {
        from = λ kinds s at facts.
            let r = run_at w d kinds s in
            let g = subst (λ n. Gain r (plan n) own taken j ring ws) (sym at.made) (h r at.formed facts) in
            let e : s.made + j ≡ s.made + made_by_all (plan s.made) - 1 = omega (arith, last s.made) in
            let c = gained kinds s (plan s.made) own before taken after j ring ws at g owed in
            record {
              later = c.later;
              grown = c.grown;
              stage = c.stage;
              facts = subst (λ n. AllStand (run_at w d c.later (added (plan s.made) s)) (fact n ring ws ∷ [])) e c.facts;
              sure = tt;
            };
      }

  -- one gate, from any stage
  pub gate_from :
      (fs : List Fact) (before taken after : Miner → ℕ) (g : Gate) (ring : RingKind) (ws : List ℕ)
      → ((m : Miner) → before m ≡ taken m + after m) → made_by g ≡ 1
      → ((kinds : List Kind) (s : Stage) → IsWellFormed (run_at w d kinds s) → AllStand (run_at w d kinds s) fs
      → Gain (run_at w d kinds s) (g ∷ []) (Shared ring ∷ []) taken 0 ring ws)
      → Suits w d fs before (gate g) after (λ k. fact k ring ws ∷ []) (Any {A = ℕ})
  gate_from fs before taken after g ring ws owed one h =
      record {
        from = λ kinds s at facts.
            let c = gained kinds s (g ∷ []) (Shared ring ∷ []) before taken after 0 ring ws at (h kinds s at.formed facts) owed in
            let e : s.made + 0 ≡ s.made = omega arith in
            record {
              later = c.later;
              grown = record { gates = c.grown.gates; own = c.grown.own; more_gates = c.grown.more_gates; more_kinds = c.grown.more_kinds };
              stage = record {
                formed = c.stage.formed;
                made = let m = c.stage.made in omega (arith, m, one);
                drawn = c.stage.drawn;
                answers = c.stage.answers;
                handed = c.stage.handed;
                opened = c.stage.opened;
              };
              facts = (
                record {
                  kind = subst (λ n. kind_at c.later n ≡ Shared ring) e c.facts.0.kind;
                  words = λ values fit. subst (λ n. value values n ≡ ws) e (c.facts.0.words values fit);
                },
                tt,
              );
              sure = tt;
            };
      }

  -- one gate, from the facts alone
  pub gate_suits :
      (fs : List Fact) (before taken after : Miner → ℕ) (g : Gate) (ring : RingKind) (ws : List ℕ)
      → ((m : Miner) → before m ≡ taken m + after m) → made_by g ≡ 1
      → ((r : GateRun) → IsWellFormed r → AllStand r fs → Gain r (g ∷ []) (Shared ring ∷ []) taken 0 ring ws)
      → Suits w d fs before (gate g) after (λ k. fact k ring ws ∷ []) (Any {A = ℕ})
  gate_suits fs before taken after g ring ws owed one h = gate_from fs before taken after g ring ws owed one (λ kinds s. h (run_at w d kinds s))
