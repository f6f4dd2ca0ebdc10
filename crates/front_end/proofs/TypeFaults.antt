-- A program has one fault of the type rules that is told, and none where it is accepted.
use Rattle.std.proofs.Common.{◌≡◌}
use Rattle.program_trees.specs.Programs.{ProgramTree}
use Rattle.domain_types.specs.declared.fault.TypeFault.{TypeFault}
use Rattle.domain_types.specs.ProgramTypes.{IsAccepted, IsRefused}
use Rattle.domain_types.proofs.Laws.{same_fault}

pub one_type_fault : (p : ProgramTree) (f g : TypeFault) → IsRefused p f → IsRefused p g → f ≡ g
one_type_fault p f g a b = same_fault f g (a.first g b.is) (b.first f a.is)

pub faultless_where_accepted : (p : ProgramTree) (f : TypeFault) → IsRefused p f → IsAccepted p → ⊥
faultless_where_accepted p f r a = a.faultless f r.is
