-- Cited by private functions alone: no contract of another crate rests on it.
-- The least fault as a computation, which the steps of the checker follow.
use Rattle.std.specs.Prelude.{Bool, ◌||◌, ◌&&◌, nat_eq, nat_lt, nat_le, List, [], ◌∷◌, Option, Some, None, if◌then◌else◌}
use Rattle.domain_types.specs.declared.fault.TypeFault.{TypeFault}
use Rattle.domain_types.specs.Least.{number_of}

abbrev pub is_before : TypeFault → TypeFault → Bool
is_before f g =
    nat_lt f.place.line g.place.line
    || (nat_eq f.place.line g.place.line
    && (nat_lt f.place.column g.place.column
    || (nat_eq f.place.column g.place.column && nat_le (number_of f.problem) (number_of g.problem))))

abbrev pub lesser : Option TypeFault → TypeFault → Option TypeFault
lesser None f = Some f
lesser (Some o) f = if is_before o f then Some o else Some f

-- the least of `o` and the list
abbrev pub least : Option TypeFault → List TypeFault → Option TypeFault
least o [] = o
least o (f ∷ fs) = least (lesser o f) fs
