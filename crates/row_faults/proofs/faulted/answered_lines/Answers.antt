use Rattle.std.proofs.Common.{◌≡◌, List, ℕ, IfOk, length, string_bytes, ap, refl, subst}
use Rattle.std.proofs.lemmas.Option.{slice_get_read}
use Rattle.outside.specs.SpawnCall.{call_of}
use Rattle.row_faults.proofs.Made.{without_start, without_wait}
use Rattle.row_faults.proofs.faulted.answered_lines.Goals as goal

pub returns-in-Some-Awaited : goal.returns-in-Some-Awaited
returns-in-Some-Awaited c =
    let P : List ℕ → Type 0 = λ told. IfOk c.both_lines.result (λ lines. string_bytes lines ≡ told) in
    let calls = c.args.calls.now in
    let call = c.in-Some-Awaited.field-0.now in
    let found = c.in-Some-Awaited.ensures.lookup in
    subst P (without_wait calls c.args.call call _ (slice_get_read calls (length calls) c.args.call call refl found.3.0 found.1)
    (ap call_of c.in-Some-Awaited.field-0-is)) c.both_lines.ensures

pub returns-in-Some-Started : goal.returns-in-Some-Started
returns-in-Some-Started c =
    let P : List ℕ → Type 0 = λ told. IfOk c.call_lines.result (λ lines. string_bytes lines ≡ told) in
    let calls = c.args.calls.now in
    let call = c.in-Some-Started.field-0.now in
    let found = c.in-Some-Started.ensures.lookup in
    subst P (without_start calls c.args.call call _ _ (slice_get_read calls (length calls) c.args.call call refl found.3.0 found.1)
    (ap call_of c.in-Some-Started.field-0-is)) c.call_lines.ensures
