-- The fault that is told: at the least place, and there of the least number.
use Rattle.std.specs.Prelude.{◌≡◌, ℕ, ◌≤◌, List}
use Rattle.sc_text.specs.Lists.{Among}
use Rattle.domain_types.specs.declared.fault.TypeProblem.{TypeProblem}
use Rattle.domain_types.specs.declared.fault.TypeProblem.TheVariants.{UnknownName, Twice, TypeMismatch, PrivateCondition, PrivateIndex, PrivateSize}
use Rattle.domain_types.specs.declared.fault.TypeProblem.TheVariants.{PrivateToPublic, PrivateDivision, PrivateAssert, DomainMix, NoMain, BadImport}
use Rattle.domain_types.specs.declared.fault.TypeProblem.TheVariants.{BadArity, MissingReturn, ArgumentPlace}
use Rattle.domain_types.specs.declared.fault.TypeFault.{TypeFault}

-- the number in the code that is printed, D1 to D15
abbrev pub number_of : TypeProblem → ℕ
number_of UnknownName = 1
number_of Twice = 2
number_of TypeMismatch = 3
number_of PrivateCondition = 4
number_of PrivateIndex = 5
number_of PrivateSize = 6
number_of PrivateToPublic = 7
number_of PrivateDivision = 8
number_of PrivateAssert = 9
number_of DomainMix = 10
number_of NoMain = 11
number_of BadImport = 12
number_of BadArity = 13
number_of MissingReturn = 14
number_of ArgumentPlace = 15

-- no later line; on the same line no later column; at the same place no greater number
pub record NotAfter (f g : TypeFault) : Type 0 where
  pub lines : f.place.line ≤ g.place.line
  pub columns : f.place.line ≡ g.place.line → f.place.column ≤ g.place.column
  pub numbers : f.place.line ≡ g.place.line → f.place.column ≡ g.place.column → number_of f.problem ≤ number_of g.problem

pub record IsLeast (f : TypeFault) (fs : List TypeFault) : Type 0 where
  pub among : Among f fs
  pub before : (g : TypeFault) → Among g fs → NotAfter f g
