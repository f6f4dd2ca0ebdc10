-- Calls as they are told, and where they lie in memory.
use Rattle.std.proofs.Common.{◌≡◌, ℕ, ◌+◌, ◌-◌, length, List, [], ◌∷◌, ◌++◌, drop, map, take, string_bytes, Bool, ◌||◌, refl, ap, ap₂, sym, ◌∙◌}
use Rattle.std.specs.Prelude.{Some, option_map, slice_get}
use Rattle.std.specs.List.{list_any}
use Rattle.std.proofs.Math.Seq.{take-length}
use Rattle.std.proofs.lemmas.List.{length-drop, take-map, drop-map}
use Rattle.std.proofs.lemmas.Option.{slice_get-map}
use Rattle.outside.specs.FileCall.{file_calls_of}
use Rattle.outside.specs.SpawnCall.{call_of, calls_of}
use Rattle.outside.specs.Spawner.{started, awaited}
use Rattle.outside.specs.declared.file_call.FileAction.{FileAction}
use Rattle.outside.specs.declared.file_call.FileCall.{FileCall}
use Rattle.outside.specs.declared.spawn_call.SpawnCall.{SpawnCall}
use Rattle.row_files.specs.Calls.{calls_told}
use Rattle.row_faults.specs.Faulted.{answered_told, changes_it, is_changed, told_without}

calls_front : (n : ℕ) (calls : List SpawnCall) → calls_told (calls_of (take n calls)) ≡ calls_told (take n (calls_of calls))
calls_front n calls = ap calls_told (sym (take-map call_of n calls))

calls_rest : (n : ℕ) (calls : List SpawnCall) → calls_told (calls_of (drop n calls)) ≡ calls_told (drop n (calls_of calls))
calls_rest n calls = ap calls_told (sym (drop-map call_of n calls))

-- from a place on up to the end is all from there
rest_whole : (n : ℕ) (calls : List SpawnCall) → take (length calls - n) (drop n calls) ≡ drop n calls
rest_whole n calls = ap (λ k. take k (drop n calls)) (sym (length-drop n calls)) ∙ take-length (drop n calls)

call_at : (calls : List SpawnCall) (n : ℕ) (call : SpawnCall) → slice_get calls n ≡ Some call
    → told_without (calls_of calls) n (Some (call_of call)) ≡ answered_told (calls_of calls) n
call_at calls n call at =
    ap (told_without (calls_of calls) n) (sym (slice_get-map call_of calls n ∙ ap (option_map call_of) at))

-- without a wait all others are answered
pub without_wait : (calls : List SpawnCall) (n : ℕ) (call : SpawnCall) (child : ℕ) → slice_get calls n ≡ Some call → call_of call ≡ awaited child
    → calls_told (calls_of (take n calls)) ++ calls_told (calls_of (take (length calls - (n + 1)) (drop (n + 1) calls)))
    ≡ answered_told (calls_of calls) n
without_wait calls n call child at is =
    ap₂ (λ (x y : List ℕ). x ++ y) (calls_front n calls)
    (ap (λ later. calls_told (calls_of later)) (rest_whole (n + 1) calls) ∙ calls_rest (n + 1) calls)
    ∙ ap (λ one. told_without (calls_of calls) n (Some one)) (sym is)
    ∙ call_at calls n call at

-- without a start those before it
pub without_start : (calls : List SpawnCall) (n : ℕ) (call : SpawnCall) (words : List (List ℕ)) (child : ℕ) → slice_get calls n ≡ Some call
    → call_of call ≡ started words child → calls_told (calls_of (take n calls)) ≡ answered_told (calls_of calls) n
without_start calls n call words child at is =
    calls_front n calls
    ∙ ap (λ one. told_without (calls_of calls) n (Some one)) (sym is)
    ∙ call_at calls n call at

-- a call without where its path lies
abbrev pub made_call : FileCall → FileAction × List ℕ
made_call call = (call.action, string_bytes call.path)

any_of_map : (test : FileAction × List ℕ → Bool) (calls : List FileCall)
    → list_any (λ call. test (made_call call)) calls ≡ list_any test (map made_call calls)
any_of_map test [] = refl
any_of_map test (call ∷ calls) = ap (λ more. test (made_call call) || more) (any_of_map test calls)

pub changed_front : (n : ℕ) (calls : List FileCall) (path : List ℕ)
    → list_any (λ call. changes_it path (made_call call)) (take n calls) ≡ is_changed (take n (file_calls_of calls)) path
changed_front n calls path =
    any_of_map (changes_it path) (take n calls) ∙ ap (λ made. is_changed made path) (sym (take-map made_call n calls))

pub changed_rest : (n : ℕ) (calls : List FileCall) (path : List ℕ)
    → list_any (λ call. changes_it path (made_call call)) (drop n calls) ≡ is_changed (drop n (file_calls_of calls)) path
changed_rest n calls path =
    any_of_map (changes_it path) (drop n calls) ∙ ap (λ made. is_changed made path) (sym (drop-map made_call n calls))
