use Rattle.std.proofs.Common.{◌≡◌, ℕ, ◌+◌, ◌<◌, List, ◌++◌, length, get_or, take, ap, sym, ◌∙◌}
use Rattle.std.proofs.lemmas.List.{append-nil, map_more}
use Rattle.std.proofs.lemmas.List.Concat.{flat_map-append}
use Rattle.outside.specs.SpawnCall.{call_of, calls_of}
use Rattle.outside.specs.declared.spawn_call.SpawnCall.{SpawnCall}
use Rattle.row_files.proofs.compared.call_lines.Goals as goal
use Rattle.row_files.specs.Calls.{call_told, calls_told}

one_more : (calls : List SpawnCall) (i : ℕ) (call : SpawnCall) → i < length calls → call ≡ get_or calls i call
    → calls_told (calls_of (take (i + 1) calls)) ≡ calls_told (calls_of (take i calls)) ++ call_told (call_of call)
one_more calls i call lt is =
    ap calls_told (map_more call_of calls i call lt)
    ∙ flat_map-append call_told (calls_of (take i calls)) _
    ∙ ap (λ told. calls_told (calls_of (take i calls)) ++ told)
    (append-nil (call_told (call_of (get_or calls i call))) ∙ ap (λ one. call_told (call_of one)) (sym is))

pub loop-call-preserved : goal.loop-call-preserved
loop-call-preserved c =
    let call = c.call-item.result in
    c.in_ok-add_call.ensures
    ∙ ap (λ lines. lines ++ call_told (call_of call)) c.loop-call.invariant
    ∙ sym (one_more c.args.calls.now c.loop-call.call-index call c.loop-call-test.true c.call-item.is)
