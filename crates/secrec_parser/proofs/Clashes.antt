-- Constructors that clash, cited where a catch-all would search for the clash in each case that is left.
use Rattle.std.proofs.Common.{◌≡◌, true, false}
use Rattle.secrec_parser.specs.declared.leader.Leader.TheVariants as leaders

pub false_true : false ≡ true → ⊥
false_true e = cc

pub no_break : leaders.Expression ≡ leaders.Break → ⊥
no_break e = cc

pub no_continue : leaders.Expression ≡ leaders.Continue → ⊥
no_continue e = cc
