-- What a command says of a program that is too large.
use Rattle.sc_text.specs.declared.code.CountedFault.TheVariants as counted
use Rattle.sc_text.specs.declared.fault.Fault.{Fault}
use Rattle.sc_text.specs.declared.fault.Fault.TheVariants as said
use Rattle.reached_instances.specs.declared.limit_err.LimitErr.{LimitErr}
use Rattle.reached_instances.specs.declared.limit_err.LimitErr.TheVariants.{TooManyInstances, ProgramTooLarge, FunctionTooLarge, Memory}

-- the fault whose line it says
abbrev pub fault_said : LimitErr → Fault
fault_said (TooManyInstances count) = said.Counted counted.TooManyInstances count
fault_said (ProgramTooLarge size) = said.Counted counted.ProgramTooLarge size
fault_said (FunctionTooLarge size) = said.Counted counted.FunctionTooLarge size
fault_said Memory = said.Memory
