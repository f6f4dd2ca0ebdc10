-- Which code is verified, and the first fault of other code.
use Rattle.std.specs.Prelude.{◌≡◌, ℕ, ◌+◌, Bool, not, ◌&&◌, ◌||◌, ◌==◌, nat_le, List, [], ◌∷◌, length, Option, Some, None, Result, Ok}
use Rattle.std.specs.Prelude.{Err, if◌then◌else◌}
use Rattle.std.specs.Option.{option_or}
use Rattle.bytecode.specs.declared.code.Code.{Code}
use Rattle.bytecode.specs.InMemory.{raw_code}
use Rattle.bytecode.specs.Raw.{Raw, RawFunction, RawCode}
use Rattle.verified_code.specs.declared.fault.CodeProblem.{CodeProblem}
use Rattle.verified_code.specs.declared.fault.CodeProblem.TheVariants.{BadRegister, BadKind, BadJump}
use Rattle.verified_code.specs.declared.fault.VerifyErr.{VerifyErr}
use Rattle.verified_code.specs.Fitting.{Here, names_there, operands_fit, gives_none, target_fits, goes_on}

-- the first function is main; it has no parameters and gives nothing back
abbrev pub is_main_head : RawFunction → Bool
is_main_head f = f.parameters == 0 && gives_none f.gives

abbrev pub head_fits : (number : ℕ) → RawFunction → Bool
head_fits number f = nat_le f.parameters (length f.registers) && (is_main_head f || not (number == 0))

-- the problem of the least number at an instruction; one of the function's head counts at its first instruction
abbrev pub problem_at : (number : ℕ) → Here → Raw → Option CodeProblem
problem_at number h i =
    if not (names_there h i) then Some BadRegister
    else if not (operands_fit h i && (head_fits number h.own || not (h.place == 0))) then Some BadKind
    else if not (target_fits h i && goes_on h i) then Some BadJump
    else None

abbrev pub here : RawCode → RawFunction → ℕ → Here
here code f place = record { code = code; own = f; place = place }

abbrev pub fault_if_any : (function instruction : ℕ) → Option CodeProblem → Option VerifyErr → Option VerifyErr
fault_if_any f k None later = later
fault_if_any f k (Some p) later = Some (record { problem = p; function = f; instruction = k })

-- the first fault of instructions that stand from a place on
abbrev pub body_fault : RawCode → (number : ℕ) → RawFunction → (place : ℕ) → List Raw → Option VerifyErr
body_fault code number f place [] = None
body_fault code number f place (i ∷ is) =
    fault_if_any number place (problem_at number (here code f place) i) (body_fault code number f (place + 1) is)

-- a function without instructions has no return
abbrev pub function_problem : (number : ℕ) → RawFunction → List Raw → Option CodeProblem
function_problem number f [] = Some (if head_fits number f then BadJump else BadKind)
function_problem number f (i ∷ is) = None

abbrev pub function_fault : RawCode → (number : ℕ) → RawFunction → Option VerifyErr
function_fault code number f = fault_if_any number 0 (function_problem number f f.body) (body_fault code number f 0 f.body)

abbrev pub functions_fault : RawCode → (number : ℕ) → List RawFunction → Option VerifyErr
functions_fault code number [] = None
functions_fault code number (f ∷ fs) = option_or (function_fault code number f) (functions_fault code (number + 1) fs)

abbrev pub main_problem : List RawFunction → Option CodeProblem
main_problem [] = Some BadRegister
main_problem (f ∷ fs) = None

-- the first faulty instruction of the functions in their order
abbrev pub first_fault : RawCode → Option VerifyErr
first_fault code = fault_if_any 0 0 (main_problem code.functions) (functions_fault code 0 code.functions)

abbrev pub IsVerified : RawCode → Type 0
IsVerified code = first_fault code ≡ None

-- what is answered: the code again, which is verified, or its first fault
abbrev pub IsVerdict : Code → Result RawCode (Code × VerifyErr) → Type 0
IsVerdict code (Ok verified) = (verified ≡ raw_code code) × IsVerified (raw_code code)
IsVerdict code (Err e) = (e.0 ≡ code) × (first_fault (raw_code code) ≡ Some e.1)
