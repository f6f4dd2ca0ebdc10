use Rattle.std.proofs.Common.{◌∙◌, ap}
use Rattle.outside.specs.SpawnCall.{calls_of}
use Rattle.outside.specs.Spawner.{given_in}
use Rattle.outside.specs.declared.spawn_call.SpawnCall.{SpawnCall}
use Rattle.std.proofs.Common.{List}
use Rattle.outside.proofs.Given.{given_more, counted_kept, counted_more, below_kept, below_more, fresh_next}
use Rattle.outside.proofs.mem_spawner.MemSpawnerSpawner.start.Goals as goal

pub invariant_of-self-in-Break-branch-3 : goal.invariant_of-self-in-Break-branch-3
invariant_of-self-in-Break-branch-3 g c =
    let kept = ap (λ (calls : List SpawnCall). given_in (calls_of calls)) c.in_err-push.ensures.items in
    record {
      counted = counted_kept _ _ c.args.self.now.next kept c.args.self.now.counted;
      below = below_kept _ _ kept c.args.self.now.below;
    }

pub invariant_of-self-2 : goal.invariant_of-self-2
invariant_of-self-2 g c =
    let more = given_more c.args.self.now.calls.items c.push.new.self.items c.in_ok-words.words c.args.self.now.next c.in_ok-held.held c.in_ok-push.ensures.items in
    record {
      counted = c.saturating_add-self.ensures ∙ counted_more _ _ c.args.self.now.next more c.args.self.now.counted;
      below = below_more _ _ c.args.self.now.next more c.args.self.now.counted c.args.self.now.below;
    }

pub returns-clause-fresh : goal.returns-clause-fresh
returns-clause-fresh g c = λ _. fresh_next _ c.args.self.now.next c.args.self.now.counted c.args.self.now.below
