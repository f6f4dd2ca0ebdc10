-- A miner that has let go values of which nothing is left to be done.
use Rattle.std.proofs.Common.{◌≡◌, ◌≤◌, ◌+◌, ◌⊎◌, inl, inr, ℕ, List, ◌++◌, length, true, sym, ap, ◌∙◌, subst, arith}
use Rattle.std.proofs.lemmas.List.{drop_all}
use Rattle.std.specs.Ordering.{nat_cmp}
use Rattle.std.specs.BTreeSet.{BTreeSet, contains}
use Rattle.proto_core.specs.declared.party.Number.{Number}
use Rattle.gates.specs.Clear.{Values, value}
use Rattle.gates.specs.Held.{kept_only}
use Rattle.gates.proofs.Held.{kept_length, kept_value}
use Rattle.gate_node.specs.declared.engine.Engine.{Engine}
use Rattle.gate_node.specs.OwnGates.{own_gates}
use Rattle.gate_node.specs.Nodes.{work_left, filled, ComesTo, IsDone}
use Rattle.gate_node.proofs.Plans.{all-left}

module _
    {P : Type 0} (i : Number) (e f : Engine P) (same : f ≡ record e { values = f.values })
    (then : (f.values ≡ e.values) ⊎ IsDone e) where
  pub through_still : (more : List ℕ) → ComesTo i e.values e more → ComesTo i f.values f more
  through_still more through = by then
    where
      by : (f.values ≡ e.values) ⊎ IsDone e → ComesTo i f.values f more
      by (inl is) =
          let all : f ≡ e = same ∙ ap (λ v. record e { values = v }) is in
          subst (λ v. ComesTo i v.values v more) (sym all) through
      by (inr done) =
          subst (λ v. ComesTo i v.values v more) (sym same)
          (all-left i (filled (record e { values = f.values }) more) done.all
          ∙ ap (work_left i (filled (record e { values = f.values }) more)) done.idle
          ∙ ap (λ l. own_gates i e.dealt l f.values (e.tape.1 ++ more)) (drop_all e.begun e.gates.items done.through))

module _
    {P : Type 0} (numbers : BTreeSet ℕ) (e : Engine P) (after : Values)
    (go : IsDone e → after ≡ kept_only numbers e.values)
    (then : (after ≡ e.values) ⊎ IsDone e) where
  pub as_many_still : length after ≡ length e.values
  as_many_still = by then
    where
      by : (after ≡ e.values) ⊎ IsDone e → length after ≡ length e.values
      by (inl is) = ap length is
      by (inr done) = ap length (go done) ∙ kept_length numbers 0 e.values

  pub kept_still : (k : ℕ) → contains nat_cmp numbers k ≡ true → value after k ≡ value e.values k
  kept_still k h = by then
    where
      by : (after ≡ e.values) ⊎ IsDone e → value after k ≡ value e.values k
      by (inl is) = ap (λ v. value v k) is
      by (inr done) =
          let here : 0 + k ≡ k = omega arith in
          ap (λ v. value v k) (go done) ∙ kept_value numbers 0 e.values k (ap (contains nat_cmp numbers) here ∙ h)
