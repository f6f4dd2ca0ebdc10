use Rattle.std.proofs.Common.{arith}
use Rattle.secrec_parser.proofs.Programs.{found, only, none, some_rest, refuses}
use Rattle.secrec_parser.proofs.parsing.parse.Goals as goal

pub refusal-requires : goal.refusal-requires
refusal-requires c =
    let step = rw (c.in-Err-At.field-0-is, c.as_slice.ensures.value) at c.in-Err-At.ensures.step in
    some_rest 125 128 (omega arith) c.args.tokens.now c.as_slice.ensures.ended c.in-Err-At.problem c.in-Err-At.rest.now step

pub returns-in-Ok-clause-found : goal.returns-in-Ok-clause-found
returns-in-Ok-clause-found c =
    let step = rw c.as_slice.ensures.value at c.in-Ok.ensures.step in
    found 125 128 (omega arith) c.args.tokens.now c.as_slice.ensures.ended _ c.in-Ok.field-0-1.now step

pub returns-in-Ok-clause-only : goal.returns-in-Ok-clause-only
returns-in-Ok-clause-only c tree spelled low =
    let step = rw c.as_slice.ensures.value at c.in-Ok.ensures.step in
    only 125 128 (omega arith) c.args.tokens.now c.as_slice.ensures.ended tree _ c.in-Ok.field-0-1.now step spelled

pub returns-in-Err-At-clause-only : goal.returns-in-Err-At-clause-only
returns-in-Err-At-clause-only c tree spelled low =
    let step = rw (c.in-Err-At.field-0-is, c.as_slice.ensures.value) at c.in-Err-At.ensures.step in
    absurd (none 125 128 (omega arith) c.args.tokens.now c.as_slice.ensures.ended tree c.in-Err-At.problem c.in-Err-At.rest.now step spelled low)

pub returns-in-Err-At-clause-refused : goal.returns-in-Err-At-clause-refused
returns-in-Err-At-clause-refused c =
    let step = rw (c.in-Err-At.field-0-is, c.as_slice.ensures.value) at c.in-Err-At.ensures.step in
    refuses 125 128 (omega arith) c.args.tokens.now c.as_slice.ensures.ended c.in-Err-At.problem c.in-Err-At.rest.now c.refusal.result step c.refusal.ensures
