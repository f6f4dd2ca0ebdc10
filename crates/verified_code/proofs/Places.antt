-- The step of a place is the one that its instruction is.
use Rattle.std.proofs.Common.{◌≡◌, ℕ, zero, suc, ◌<◌, List, [], ◌∷◌, length, get_or, map, Some, None, option_map, slice_get, sym, ap, ◌∙◌, arith}
use Rattle.std.proofs.lemmas.Option.{slice_get-map}
use Rattle.bytecode.specs.declared.instruction.Instruction.{Instruction}
use Rattle.bytecode.specs.declared.code.CodeFunction as codes
use Rattle.bytecode.specs.declared.kind.Kind.{Kind}
use Rattle.bytecode.specs.InMemory.{raw_function, raw_instruction}
use Rattle.bytecode.specs.Raw.{RawCode}
use Rattle.verified_code.specs.Settled.{settle, settled_function}
use Rattle.verified_code.specs.InMemory.{step_at, steps_of}

pub there_at : {A : Type 0} (xs : List A) (k : ℕ) (x : A) → k < length xs → x ≡ get_or xs k x → slice_get xs k ≡ Some x
there_at [] k x l e = absurd (omega (arith, l))
there_at (y ∷ xs) zero x l e = ap Some (sym e)
there_at (y ∷ xs) (suc k) x l e = there_at xs k x (omega (arith, l)) e

pub step_there : (names : List (List ℕ)) (kinds : List Kind) (body : List Instruction) (k : ℕ) (i : Instruction) → slice_get body k ≡ Some i
    → slice_get (map (settle names kinds) (map raw_instruction body)) k ≡ Some (settle names kinds (raw_instruction i))
step_there names kinds body k i e =
    slice_get-map (settle names kinds) (map raw_instruction body) k
    ∙ ap (option_map (settle names kinds)) (slice_get-map raw_instruction body k ∙ ap (option_map raw_instruction) e)

pub no_step : (names : List (List ℕ)) (kinds : List Kind) (body : List Instruction) (k : ℕ) → slice_get body k ≡ None
    → slice_get (map (settle names kinds) (map raw_instruction body)) k ≡ None
no_step names kinds body k e =
    slice_get-map (settle names kinds) (map raw_instruction body) k
    ∙ ap (option_map (settle names kinds)) (slice_get-map raw_instruction body k ∙ ap (option_map raw_instruction) e)

abbrev code_of : List (List ℕ) → List codes.CodeFunction → RawCode
code_of names functions = record { names = names; functions = map raw_function functions }

pub function_there : (names : List (List ℕ)) (functions : List codes.CodeFunction) (n k : ℕ) (f : codes.CodeFunction) → slice_get functions n ≡ Some f
    → step_at (code_of names functions) n k ≡ slice_get (settled_function names (raw_function f)).steps k
function_there names functions n k f e =
    ap (λ o. slice_get (steps_of o) k)
    (slice_get-map (settled_function names) (map raw_function functions) n
    ∙ ap (option_map (settled_function names)) (slice_get-map raw_function functions n ∙ ap (option_map raw_function) e))

pub no_function : (names : List (List ℕ)) (functions : List codes.CodeFunction) (n k : ℕ) → slice_get functions n ≡ None
    → step_at (code_of names functions) n k ≡ None
no_function names functions n k e =
    ap (λ o. slice_get (steps_of o) k)
    (slice_get-map (settled_function names) (map raw_function functions) n
    ∙ ap (option_map (settled_function names)) (slice_get-map raw_function functions n ∙ ap (option_map raw_function) e))
