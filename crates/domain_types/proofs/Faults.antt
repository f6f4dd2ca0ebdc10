-- The least fault of several lists, and lists without a fault.
use Rattle.std.proofs.Common.{◌≡◌, List, [], ◌∷◌, ◌++◌, refl, Option, Bool, true, false}
use Rattle.std.specs.Prelude.{not, ◌&&◌}
use Rattle.sc_text.specs.declared.span.Span.{Span}
use Rattle.domain_types.specs.declared.fault.TypeProblem.{TypeProblem}
use Rattle.domain_types.specs.declared.fault.TypeFault.{TypeFault}
use Rattle.domain_types.specs.Types.{fault_if, is_without}
use Rattle.domain_types.specs.inner.LeastFault.{lesser, least}

pub least-append : (o : Option TypeFault) (fs gs : List TypeFault) → least o (fs ++ gs) ≡ least (least o fs) gs
least-append o [] gs = refl
least-append o (f ∷ fs) gs = least-append (lesser o f) fs gs

pub faultless-append : (fs gs : List TypeFault) → is_without (fs ++ gs) ≡ is_without fs && is_without gs
faultless-append [] gs = refl
faultless-append (f ∷ fs) gs = refl

pub faultless-if : (b : Bool) (p : Span) (problem : TypeProblem) → is_without (fault_if b p problem) ≡ not b
faultless-if true p problem = refl
faultless-if false p problem = refl

pub ruleset joins = (least-append, faultless-append, faultless-if)
