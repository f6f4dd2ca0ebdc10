use Rattle.std.proofs.Common.{◌≡◌, ℕ, ◌+◌, ◌<◌, List, ◌++◌, length, get_or, take, ap, sym, ◌∙◌}
use Rattle.std.proofs.lemmas.List.{append-nil, map_more}
use Rattle.std.proofs.lemmas.List.Concat.{flat_map-append}
use Rattle.outside.specs.FileCall.{file_calls_of}
use Rattle.outside.specs.declared.file_call.FileCall.{FileCall}
use Rattle.row_faults.proofs.Made.{made_call}
use Rattle.row_faults.proofs.faulted.file_call_lines.Goals as goal
use Rattle.row_faults.specs.Faulted.{file_call_told, file_calls_told}

one_more : (calls : List FileCall) (i : ℕ) (call : FileCall) → i < length calls → call ≡ get_or calls i call
    → file_calls_told (file_calls_of (take (i + 1) calls)) ≡ file_calls_told (file_calls_of (take i calls)) ++ file_call_told (made_call call)
one_more calls i call lt is =
    ap file_calls_told (map_more made_call calls i call lt)
    ∙ flat_map-append file_call_told (file_calls_of (take i calls)) _
    ∙ ap (λ told. file_calls_told (file_calls_of (take i calls)) ++ told)
    (append-nil (file_call_told (made_call (get_or calls i call))) ∙ ap (λ one. file_call_told (made_call one)) (sym is))

pub loop-call-preserved : goal.loop-call-preserved
loop-call-preserved c =
    let call = c.call-item.result in
    c.in_ok-add_file_call.ensures
    ∙ ap (λ lines. lines ++ file_call_told (made_call call)) c.loop-call.invariant
    ∙ sym (one_more c.args.calls.now c.loop-call.call-index call c.loop-call-test.true c.call-item.is)
