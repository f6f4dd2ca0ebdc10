-- Cited by private functions alone: no contract of another crate rests on it.
-- What the checker has found after a piece of a program.
use Rattle.std.specs.Prelude.{◌≡◌, List, ◌++◌}
use Rattle.domain_types.specs.declared.calls.Found.{Found}
use Rattle.domain_types.specs.declared.fault.TypeFault.{TypeFault}
use Rattle.domain_types.specs.Reached.{Call}
use Rattle.domain_types.specs.Views.{calls_seen}
use Rattle.domain_types.specs.inner.LeastFault.{least}

-- what is wanted is given, and these faults and calls are found after those of before
pub record Gives {A : Type 0} (wanted given : A) (before behind : Found) (fs : List TypeFault) (cs : List Call) : Type 0 where
  pub kind : given ≡ wanted
  pub least_fault : behind.least_fault ≡ least before.least_fault fs
  pub calls : calls_seen behind.calls.items ≡ calls_seen before.calls.items ++ cs
