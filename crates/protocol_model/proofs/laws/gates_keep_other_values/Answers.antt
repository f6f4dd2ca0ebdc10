use Rattle.protocol_model.proofs.Slots.{values_before_stay, other_values_stay}
use Rattle.protocol_model.proofs.laws.gates_keep_other_values.Goals as goal

pub returns-clause-before : goal.returns-clause-before
returns-clause-before c = λ i gates values all tape mail k ends below. values_before_stay i gates values all tape mail k ends below

pub returns-clause-others : goal.returns-clause-others
returns-clause-others c =
    λ i gates values all tape mail k ends sound sized reach other.
    other_values_stay i gates values all tape mail k ends sound sized reach other
