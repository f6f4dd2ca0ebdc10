-- What the checker answers.
use Rattle.std.specs.Prelude.{◌↔◌, List, map, Vec, vec_items, Option, Some, None, Result, Ok, Err}
use Rattle.std.specs.declared.alloc.Global.{Global}
use Rattle.program_trees.specs.Programs.{ProgramTree}
use Rattle.domain_types.specs.declared.fault.TypeFault.{TypeFault}
use Rattle.domain_types.specs.declared.type_err.TypeErr.{TypeErr}
use Rattle.domain_types.specs.declared.type_err.TypeErr.TheVariants.{Refused, Memory}
use Rattle.sc_text.specs.Lists.{Among}
use Rattle.domain_types.specs.declared.instance.Instance.{Instance}
use Rattle.domain_types.specs.Reached as reached
use Rattle.domain_types.specs.Reached.{IsChecked}
use Rattle.domain_types.specs.Instances.{instance_seen, IsEachOnce}
use Rattle.domain_types.specs.ProgramTypes.{IsRefused}
use Rattle.domain_types.specs.Typing.{IsTypedProgram}

-- the instances that are checked, each once, and no others
pub record AreTheChecked (p : ProgramTree) (is : List reached.Instance) : Type 0 where
  pub listed : (i : reached.Instance) → IsChecked p i ↔ Among i is
  pub once : IsEachOnce is

-- the fault that is told, if there is one
abbrev pub IsTold : Option TypeFault → ProgramTree → Type 0
IsTold None p = IsTypedProgram p
IsTold (Some f) p = IsRefused p f

-- Ok with the checked instances where the program is typed, else the first fault
abbrev pub IsVerdict : Result (Vec Instance Global) TypeErr → ProgramTree → Type 0
IsVerdict (Ok is) p = IsTypedProgram p × AreTheChecked p (map instance_seen (vec_items is))
IsVerdict (Err (Refused f)) p = IsRefused p f
IsVerdict (Err Memory) p = Unit {0}
