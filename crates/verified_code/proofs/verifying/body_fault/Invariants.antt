use Rattle.std.proofs.Common.{◌≡◌, map, drop}
use Rattle.bytecode.specs.InMemory.{raw_code, raw_function, raw_instruction}
use Rattle.verified_code.specs.Verified.{body_fault}
use Rattle.verified_code.proofs.verifying.body_fault.Given as goal

abbrev pub invariant-loop-place : goal.invariant-loop-place
invariant-loop-place l =
    body_fault (raw_code l.code) l.fn.number (raw_function l.own) 0 (map raw_instruction l.own.body.items) ≡
    body_fault (raw_code l.code) l.fn.number (raw_function l.own) l.place (drop l.place (map raw_instruction l.own.body.items))
