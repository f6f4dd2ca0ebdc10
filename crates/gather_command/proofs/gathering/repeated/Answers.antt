use Rattle.std.proofs.Common.{◌≡◌, true, false, List, ℕ, Bor, Some, map, rules, ap, ◌∙◌}
use Rattle.gather_command.proofs.Steps.{name-end, name-new, name-old}
use Rattle.gather_command.proofs.gathering.repeated.Goals as goal

pub returns-then-not-branch : goal.returns-then-not-branch
returns-then-not-branch c =
    let is : c.in_ok-is_new.field-0 ≡ false = search rules in
    ap Some c.in_ok-copy.ensures
    ∙ name-old c.args.entries.now c.loop-entry.entry-index c.entry-item.result (map (λ (n : Bor (List ℕ)). n.now) c.loop-entry.names.keys) _
    c.loop-entry-test.true c.entry-item.is c.loop-entry.invariant c.in_ok-is_new.field-0 is (rw c.as_str.ensures.value at c.in_ok-is_new.ensures.new)

pub loop-entry-preserved : goal.loop-entry-preserved
loop-entry-preserved c =
    let is : c.in_ok-is_new.field-0 ≡ true = search rules in
    name-new c.args.entries.now c.loop-entry.entry-index c.entry-item.result (map (λ (n : Bor (List ℕ)). n.now) c.loop-entry.names.keys) _
    c.loop-entry-test.true c.entry-item.is c.loop-entry.invariant (map (λ (n : Bor (List ℕ)). n.now) c.is_new.new.names.keys) c.in_ok-is_new.field-0 is
    (rw c.as_str.ensures.value at c.in_ok-is_new.ensures.new) (rw c.as_str.ensures.value at (c.in_ok-is_new.ensures.remembered is))

pub returns : goal.returns
returns c =
    name-end c.args.entries.now c.loop-entry.entry-index (map (λ (n : Bor (List ℕ)). n.now) c.loop-entry.names.keys) _ c.loop-entry-test.false
    c.loop-entry.invariant
