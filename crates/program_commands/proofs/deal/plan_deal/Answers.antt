use Rattle.std.proofs.Common.{ap, subst, List, ℕ, Contains}
use Rattle.command_frame.specs.Answer.{paths_in}
use Rattle.program_commands.proofs.deal.plan_deal.Goals as goal

pub returns-in-Ok-clause-names : goal.returns-in-Ok-clause-names
returns-in-Ok-clause-names g c = record {
  written = λ path among. subst (λ (ps : List (List ℕ)). Contains ps path) (ap paths_in c.in_ok-deal_writes-in-Ok.ensures) among;
}
