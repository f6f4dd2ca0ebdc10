-- Lines that begin with `error: `.
use Rattle.std.proofs.Common.{◌≡◌, ◌++◌, ◌+◌, ◌-◌, ℕ, List, Result, Ok, Err, String, refl, subst, sym, arith, string_bytes}
use Rattle.std.proofs.lemmas.List.{drop_at, length-append}
use Rattle.std.specs.Prelude.{IfOk, codes, length, take}
use Rattle.sc_text.specs.declared.fault.Fault.{Fault}
use Rattle.sc_text.specs.Fault.{error_line, fault_line, fault_text, file_line, file_text}
use Rattle.command_frame.specs.Said.{IsErrorLine}

-- a text that begins so, and a newline; the beginning computes where it stands
pub front_is_error : (front : List ℕ) → take 7 (front ++ codes "\n") ≡ codes "error: " → IsErrorLine (front ++ codes "\n")
front_is_error front begins =
    let sized : length (front ++ codes "\n") ≡ length front + 1 = length-append front (codes "\n") in
    (begins, drop_at front (codes "\n") (length (front ++ codes "\n") - 1) (omega (arith, sized)))

pub any_is_error : (text : List ℕ) → IsErrorLine (error_line text)
any_is_error text = front_is_error (codes "error: " ++ text) refl

pub fault_is_error : (fault : Fault) → IsErrorLine (fault_line fault)
unfolding fault_line
fault_is_error fault = any_is_error (fault_text fault)

pub file_is_error : (path : List ℕ) → IsErrorLine (file_line path)
unfolding file_line
file_is_error path = any_is_error (file_text path)

-- a text that is such a line, if it could be made
pub says_error : {E A : Type 0} (r : Result (String A) E) (line : List ℕ) → IsErrorLine line → IfOk r (λ text. string_bytes text ≡ line)
    → IfOk r (λ text. IsErrorLine (string_bytes text))
says_error (Ok text) line error is = subst IsErrorLine (sym is) error
says_error (Err e) line error is = tt
