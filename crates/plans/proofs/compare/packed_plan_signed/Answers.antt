use Rattle.std.proofs.Common.{rules, ◌≡◌}
use Rattle.plans.specs.Signed.{packed_signed_less_plan}
use Rattle.plans.proofs.SignedLaws.{packs_signed_less_from, packed_take_from}
use Rattle.plans.proofs.compare.packed_plan_signed.Goals as goal

pub returns-clause-less : goal.returns-clause-less
returns-clause-less c =
    let planned : c.push.new.self.items ≡ packed_signed_less_plan c.args.first c.args.left c.args.right c.args.n = search rules in
    packs_signed_less_from c.args.first c.args.left c.args.right c.args.n c.push.new.self.items planned

pub returns-clause-words : goal.returns-clause-words
returns-clause-words c =
    let planned : c.push.new.self.items ≡ packed_signed_less_plan c.args.first c.args.left c.args.right c.args.n = search rules in
    packed_take_from c.args.first c.args.left c.args.right c.args.n c.push.new.self.items planned
