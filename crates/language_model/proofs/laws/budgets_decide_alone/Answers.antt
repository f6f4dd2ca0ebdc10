use Rattle.language_model.proofs.Budgets.{budgets_same, budgets_stop, budgets_begin}
use Rattle.language_model.proofs.laws.budgets_decide_alone.Goals as goal

pub returns : goal.returns
returns c = record { same = budgets_same; stops = budgets_stop; begins = budgets_begin }
