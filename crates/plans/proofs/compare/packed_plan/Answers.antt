use Rattle.std.proofs.Common.{rules, ◌≡◌}
use Rattle.plans.specs.Packed.{packed_less_plan}
use Rattle.plans.proofs.PackedLaws.{comparisons_take_from}
use Rattle.plans.proofs.compare.packed_plan.Goals as goal

pub returns-clause-words : goal.returns-clause-words
returns-clause-words c =
    let planned : c.push.new.self.items ≡ packed_less_plan c.args.first c.args.left c.args.right c.args.n = search rules in
    comparisons_take_from c.args.first c.args.left c.args.right c.args.n c.push.new.self.items planned
