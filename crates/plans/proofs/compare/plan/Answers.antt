use Rattle.std.proofs.Common.{◌≡◌}
use Rattle.std.proofs.lemmas.Result.{IfOk-weaker}
use Rattle.plans.specs.Compare.{less_plan}
use Rattle.plans.specs.CompareLaw.{TellsLess, TakesWords}
use Rattle.plans.proofs.CompareLaws.{tells_less_from, takes_words_from}
use Rattle.plans.proofs.compare.plan.Goals as goal

pub returns-clause-less : goal.returns-clause-less
returns-clause-less c =
    IfOk-weaker c.gates_of.result (λ gates. gates.items ≡ less_plan c.args.first c.args.left c.args.right c.args.n)
    (λ gates. TellsLess c.args.first c.args.left c.args.right c.args.n gates.items)
    (λ gates is. tells_less_from c.args.first c.args.left c.args.right c.args.n gates.items is) c.gates_of.ensures

pub returns-clause-words : goal.returns-clause-words
returns-clause-words c =
    IfOk-weaker c.gates_of.result (λ gates. gates.items ≡ less_plan c.args.first c.args.left c.args.right c.args.n)
    (λ gates. TakesWords c.args.first c.args.left c.args.right c.args.n gates.items)
    (λ gates is. takes_words_from c.args.first c.args.left c.args.right c.args.n gates.items is) c.gates_of.ensures
