use Rattle.std.proofs.Common.{◌≡◌, map, drop}
use Rattle.bytecode.specs.InMemory.{raw_code, raw_function}
use Rattle.verified_code.specs.Verified.{functions_fault}
use Rattle.verified_code.proofs.verifying.functions_fault.Given as goal

abbrev pub invariant-loop-number : goal.invariant-loop-number
invariant-loop-number l =
    functions_fault (raw_code l.code) 0 (map raw_function l.code.functions.items) ≡
    functions_fault (raw_code l.code) l.number (drop l.number (map raw_function l.code.functions.items))
