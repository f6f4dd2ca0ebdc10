-- What a miner does that lets go values while the gates of a step run.
use Rattle.std.proofs.Common.{◌≡◌, ℕ, ◌+◌, ◌-◌, Bool, true, false, List, ◌++◌, length, sym, ◌∙◌, ap, subst, refl, arith, length-append}
use Rattle.std.specs.Prelude.{IsTrue}
use Rattle.std.specs.BTreeSet.{BTreeSet, contains}
use Rattle.std.specs.Ordering.{nat_cmp}
use Rattle.proto_core.specs.declared.party.Number.{Number}
use Rattle.proto_core.specs.Strand.{Strand, Ends, run, then_do, told_in}
use Rattle.proto_core.specs.Net.{added}
use Rattle.protocol_model.proofs.Scripts.{silent_then}
use Rattle.gates.specs.declared.gate.Gate.{Gate}
use Rattle.gates.specs.Clear.{Values}
use Rattle.gates.specs.Counts.{made_by_all}
use Rattle.gates.specs.Held.{kept_only}
use Rattle.gates.proofs.Held.{kept_length, kept_value}
use Rattle.driven_nodes.proofs.Telling.{silent_run}
use Rattle.bytecode.specs.Raw.{RawCode}
use Rattle.code_machine.specs.Views.{machine_seen}
use Rattle.block_steps.specs.Outcomes.{mail_left}
use Rattle.gate_node.specs.OwnGates.{GatesEnd, Whole, Stuck, own_gates}
use Rattle.gate_node.specs.Plans.{with_these}
use Rattle.gate_node.specs.Nodes as node
use Rattle.gate_node.specs.declared.engine.Engine as gates
use Rattle.gate_node.proofs.Always.{EndsAlways, then-same, then-assoc}
use Rattle.own_code.specs.Named.{AreAmong, MachineNames}
use Rattle.own_code.specs.LettingGo.{HasBehind, IsHeld}
use Rattle.own_code.specs.OwnCode.{Ended}
use Rattle.own_code.proofs.Made.{gates_count}
use Rattle.miner_core.specs.declared.engine.Engine.{Engine}
use Rattle.miner_core.specs.Engines.{place_at, behind_node, engine_left, forgetting, forgotten, LeadsOn, IsQuietAlways}
use Rattle.miner_core.specs.Engines.{with_words, left_with, all_forgetting, KeepsLinks}
use Rattle.miner_core.proofs.Quiet.{silent_own}
use Rattle.miner_core.proofs.Forgetting.{is_held, goes_alike}

module _ {P : Type 0} (i : Number) (e : Engine P) (n : gates.Engine P) (numbers : BTreeSet ℕ) (rest : List Gate) (values : Values) (tape : List ℕ)
    (leads : LeadsOn e.at) (is : node.engine_left i e.node ≡ own_gates i e.node.dealt rest values tape)
    (counted : length values + made_by_all rest ≡ e.stage.made)
    (left : node.engine_left i n ≡ then_do (node.engine_left i e.node) (λ h. Ends (with_these numbers h))) (dealt : n.dealt ≡ e.node.dealt)
    (named : (code : RawCode) → AreAmong (MachineNames (machine_seen code e.machine)) (λ k. IsTrue (contains nat_cmp numbers k)))
    (last : IsTrue (contains nat_cmp numbers (e.stage.made - 1))) where
  abbrev planned : Engine P
  planned = record e { node = n }

  held : (made : Values) → length made ≡ made_by_all rest → IsHeld (place_at i e) (values ++ made) (kept_only numbers (values ++ made))
  held made count =
      let all : Values = values ++ made in
      let more : length all ≡ length values + length made = length-append values made in
      let many : e.stage.made ≡ length all = omega (arith, more, count, counted) in
      is_held (place_at i e) (λ k. IsTrue (contains nat_cmp numbers k)) all (kept_only numbers all) (kept_length numbers 0 all) many (named e.task.code)
      (subst (λ m. IsTrue (contains nat_cmp numbers (m - 1))) many last)
      (λ k h. let here : 0 + k ≡ k = omega arith in kept_value numbers 0 all k (ap (contains nat_cmp numbers) here ∙ h))

  abbrev behind : GatesEnd → Strand Ended
  behind h = forgetting (behind_node i e e.at h)

  abbrev behind_planned : GatesEnd → Strand Ended
  behind_planned h = forgetting (behind_node i planned e.at (with_these numbers h))

  comes_alike : (h : GatesEnd) → HasBehind values (made_by_all rest) h → behind_planned h ≡ behind h
  comes_alike (Whole all t) h =
      ap (λ v. behind_planned (Whole v t)) h.1
      ∙ goes_alike i e n e.letting (values ++ h.0) (kept_only numbers (values ++ h.0)) dealt (held h.0 h.2) t e.at leads
      ∙ sym (ap (λ v. behind (Whole v t)) h.1)
  comes_alike Stuck h = refl

  ends_counted : EndsAlways (HasBehind values (made_by_all rest)) (node.engine_left i e.node)
  ends_counted = subst (EndsAlways (HasBehind values (made_by_all rest))) (sym is) (gates_count i e.node.dealt rest values tape)

  pub planned_left : forgetting (engine_left i planned) ≡ forgetting (engine_left i e)
  planned_left =
      let s : Strand GatesEnd = node.engine_left i e.node in
      ap (λ v. forgetting (then_do v (behind_node i planned e.at))) left
      ∙ ap forgetting (then-assoc s (λ h. Ends (with_these numbers h)) (behind_node i planned e.at))
      ∙ then-assoc s (λ h. behind_node i planned e.at (with_these numbers h)) (λ x. Ends (forgotten x))
      ∙ then-same (HasBehind values (made_by_all rest)) s behind_planned behind ends_counted comes_alike
      ∙ sym (then-assoc s (behind_node i e e.at) (λ x. Ends (forgotten x)))

-- its gates tell nothing still
pub plan_quiet :
    {P : Type 0} (i : Number) (n n2 : gates.Engine P) (numbers : BTreeSet ℕ) (count : ℕ) → node.IsPlanOf i numbers count n n2 → IsQuietAlways i n2
plan_quiet i n n2 numbers count plan = λ more mail.
    let s : Strand GatesEnd = own_gates i n.dealt (node.gates_left i n) n.values (n.tape.1 ++ more) in
    let end : GatesEnd → Strand GatesEnd = λ h. Ends (with_these numbers h) in
    ap (λ v. told_in (run v (added (mail_left i n2.links) mail)).acts) (plan.left more ∙ ap (λ v. then_do v end) (plan.gates more))
    ∙ silent_run (then_do s end) (added (mail_left i n2.links) mail)
    (silent_then s end (silent_own i n.dealt (node.gates_left i n) n.values (n.tape.1 ++ more)) (λ h. tt))

-- where it is told which values are needed, or is not
module _ {P : Type 0} (i : Number) (e : Engine P) (n : gates.Engine P) (numbers : BTreeSet ℕ) where
  abbrev Plans : Bool → Type 0
  Plans told = told ≡ true → node.IsPlanOf i numbers e.stage.made e.node n

  abbrev IsSame : Bool → Type 0
  IsSame told = told ≡ false → n ≡ e.node

  pub needed_left :
      LeadsOn e.at → ((code : RawCode) → AreAmong (MachineNames (machine_seen code e.machine)) (λ k. IsTrue (contains nat_cmp numbers k))) →
      IsTrue (contains nat_cmp numbers (e.stage.made - 1)) → (told : Bool) → Plans told → IsSame told →
      all_forgetting (left_with i (record e { node = n })) ≡ all_forgetting (left_with i e)
  needed_left leads named last true plans same = λ d. λ more.
      let p = plans refl in
      planned_left i (with_words e more) (node.filled n more) numbers (node.gates_left i e.node) e.node.values (e.node.tape.1 ++ more) leads (p.gates more)
      p.counted (p.left more) p.dealt named last d
  needed_left leads named last false plans same = ap (λ m. all_forgetting (left_with i (record e { node = m }))) (same refl)

  pub needed_kept : (told : Bool) → Plans told → IsSame told → KeepsLinks e (record e { node = n })
  needed_kept true plans same = let p = plans refl in record { links = p.links; notices = refl; task = refl; dealt = p.dealt; tape = p.tape }
  needed_kept false plans same =
      record {
        links = ap (λ (m : gates.Engine P). m.links) (same refl);
        notices = refl;
        task = refl;
        dealt = ap (λ (m : gates.Engine P). m.dealt) (same refl);
        tape = ap (λ (m : gates.Engine P). m.tape) (same refl);
      }

  pub needed_quiet : IsQuietAlways i e.node → (told : Bool) → Plans told → IsSame told → IsQuietAlways i n
  needed_quiet quiet true plans same = plan_quiet i e.node n numbers e.stage.made (plans refl)
  needed_quiet quiet false plans same = subst (IsQuietAlways i) (sym (same refl)) quiet
