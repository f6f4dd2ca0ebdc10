use Rattle.std.proofs.Common.{◌≡◌, rules, true, false, is_ok}
use Rattle.std.specs.List.{list_any}
use Rattle.outside.specs.SpawnCall.{call_of, starts_child}
use Rattle.outside.proofs.Given.{given_kept, counted_kept, below_kept, known_from_any, unknown_from_any}
use Rattle.outside.proofs.mem_spawner.MemSpawnerSpawner.wait.Goals as goal

pub returns-then-not-is_known-clause-steady : goal.returns-then-not-is_known-clause-steady
returns-then-not-is_known-clause-steady c =
    let none : list_any (λ call. starts_child (call_of call) c.args.child) c.args.self.now.calls.items ≡ false = cc in
    λ s. record { failed = λ _ _. unknown_from_any c.args.self.now.calls.items c.args.child none; ok = search rules; memory = search rules }

pub invariant_of-self-2 : goal.invariant_of-self-2
invariant_of-self-2 c =
    let kept = given_kept (is_ok c.push.result) c.args.self.now.calls.items c.push.new.self.items c.args.child c.push.ensures.items in
    record {
      counted = counted_kept _ _ c.args.self.now.next kept c.args.self.now.counted;
      below = below_kept _ _ kept c.args.self.now.below;
    }

pub returns-clause-known : goal.returns-clause-known
returns-clause-known c =
    let found : list_any (λ call. starts_child (call_of call) c.args.child) c.args.self.now.calls.items ≡ true = cc in
    λ _. known_from_any c.args.self.now.calls.items c.args.child found
