use Rattle.std.proofs.Common.{◌≡◌}
use Rattle.std.proofs.lemmas.Result.{IfOk-weaker}
use Rattle.plans.specs.CompareLaw.{TakesWords}
use Rattle.plans.specs.Signed.{signed_less_plan, TellsSignedLess}
use Rattle.plans.proofs.SignedLaws.{tells_signed_less_from, takes_words_from}
use Rattle.plans.proofs.compare.plan_signed.Goals as goal

pub returns-clause-less : goal.returns-clause-less
returns-clause-less c =
    IfOk-weaker c.signed_gates_of.result (λ gates. gates.items ≡ signed_less_plan c.args.first c.args.left c.args.right c.args.n)
    (λ gates. TellsSignedLess c.args.first c.args.left c.args.right c.args.n gates.items)
    (λ gates is. tells_signed_less_from c.args.first c.args.left c.args.right c.args.n gates.items is) c.signed_gates_of.ensures

pub returns-clause-words : goal.returns-clause-words
returns-clause-words c =
    IfOk-weaker c.signed_gates_of.result (λ gates. gates.items ≡ signed_less_plan c.args.first c.args.left c.args.right c.args.n)
    (λ gates. TakesWords c.args.first c.args.left c.args.right c.args.n gates.items)
    (λ gates is. takes_words_from c.args.first c.args.left c.args.right c.args.n gates.items is) c.signed_gates_of.ensures
