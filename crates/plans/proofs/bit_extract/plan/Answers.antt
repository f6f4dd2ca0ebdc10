use Rattle.std.proofs.Common.{◌≡◌}
use Rattle.std.proofs.lemmas.Result.{IfOk-weaker}
use Rattle.plans.specs.BitExtract.{bits_plan}
use Rattle.plans.specs.BitExtractLaw.{GivesBits}
use Rattle.plans.proofs.BitExtractLaws.{gives_bits_from}
use Rattle.plans.proofs.bit_extract.plan.Goals as goal

pub returns-clause-bits : goal.returns-clause-bits
returns-clause-bits c =
    IfOk-weaker c.gates_of.result (λ gates. gates.items ≡ bits_plan c.args.first c.args.word c.args.n)
    (λ gates. GivesBits c.args.first c.args.word c.args.n gates.items)
    (λ gates is. gives_bits_from c.args.first c.args.word c.args.n gates.items is) c.gates_of.ensures
