-- The lines of code that can be written have 32 bits.
use Rattle.std.proofs.Common.{◌≡◌, ℕ, zero, suc, ◌<◌, ◌^◌, List, [], ◌∷◌, ◌++◌, length, map, Some, refl, subst, arith}
use Rattle.std.specs.Prelude.{IsTrue, slice_get}
use Rattle.std.specs.List.{AllByRecursion as Each, flat_map}
use Rattle.std.proofs.lemmas.Option.{none-some, same_Some}
use Rattle.bytecode.specs.Raw.{RawCode}
use Rattle.bytecode.specs.Written.{Number, short, opening_numbers, name_numbers, head_numbers, body_numbers, instruction_numbers, code_numbers}
use Rattle.bytecode.specs.Writable.{Fits, IsWritable}
use Rattle.verified_code.specs.Steps.{Step, Literal, Move, Store, Binary, Not, Cast, Classify, Fill, At, Put, Size, Cat, Sum, Bits, Lookup, Declassify}
use Rattle.verified_code.specs.Steps.{Argument, Publish, Assert, Branch, Jump, Call, Return, ReturnNone, Function}
use Rattle.lowered_code.specs.Instructions.{instruction, raw_function, names_of, raw_code_of}
use Rattle.lowered_code.proofs.Passing.{mapped}
use Rattle.written_code.specs.Says.{StepSays}
use Rattle.written_code.specs.Laws.{any_number, any_text}
use Rattle.view_laws.proofs.Steps.{is_line, HaveLines}

-- ---- parts of lists

behind : {A : Type 0} (P : A → Type 0) (a b : List A) → Each P (a ++ b) → Each P b
behind P [] b h = h
behind P (x ∷ a) b h = behind P a b h.1

before : {A : Type 0} (P : A → Type 0) (a b : List A) → Each P (a ++ b) → Each P a
before P [] b h = tt
before P (x ∷ a) b h = (h.0, before P a b h.1)

part_at : {A B : Type 0} (P : B → Type 0) (g : A → List B) (xs : List A) (k : ℕ) (x : A) → slice_get xs k ≡ Some x → Each P (flat_map g xs) → Each P (g x)
part_at P g [] k x e h = absurd (none-some _ e)
part_at {A = A} P g (y ∷ ys) zero x e h = subst (λ (z : A). Each P (g z)) (same_Some y x e) (before P (g y) (flat_map g ys) h)
part_at P g (y ∷ ys) (suc k) x e h = part_at P g ys k x e (behind P (g y) (flat_map g ys) h)

-- ---- an instruction's line

line_fits : (line : ℕ) → line < 256 ^ 4 → IsTrue (is_line line)
line_fits line h = grind (arith, h)

abbrev Says : Step → Type 0
Says i = StepSays any_number is_line any_text i

says : (names : List (List ℕ)) (i : Step) → Each Fits (instruction_numbers (instruction names i)) → Says i
says names (Literal d e n) h = refl
says names (Move d r) h = tt
says names (Store d r) h = tt
says names (Binary line op ds d a b) h = line_fits line h.1.1.1.1.1.0
says names (Not d r) h = tt
says names (Cast c d r) h = tt
says names (Classify d r) h = tt
says names (Fill line d n x) h = line_fits line h.1.1.1.1.0
says names (At line d a i) h = line_fits line h.1.1.1.1.0
says names (Put line a i x) h = line_fits line h.1.1.1.1.0
says names (Size d r) h = tt
says names (Cat line d a b) h = line_fits line h.1.1.1.1.0
says names (Sum d r) h = tt
says names (Bits line d r) h = line_fits line h.1.1.1.0
says names (Lookup line d a i) h = line_fits line h.1.1.1.1.0
says names (Declassify d r) h = tt
says names (Argument line k text d) h = (line_fits line h.1.1.1.0, refl)
says names (Publish text r) h = refl
says names (Assert line r) h = line_fits line h.1.1.0
says names (Branch r b target) h = tt
says names (Jump target) h = tt
says names (Call line g d arguments) h = line_fits line (behind Fits (map short arguments) _ h.1.1.1.1).0
says names (Return r) h = tt
says names ReturnNone h = tt

-- ---- code

bodies : (code : RawCode) → Each Fits (code_numbers code) → Each Fits (flat_map body_numbers code.functions)
bodies code h =
    let all : List Number = flat_map body_numbers code.functions in
    let functions : List Number = short (length code.functions) ∷ (flat_map head_numbers code.functions ++ all) in
    let names : List Number = short (length code.names) ∷ (flat_map name_numbers code.names ++ functions) in
    let counted : Each Fits names = behind Fits opening_numbers names h in
    let named : Each Fits functions = behind Fits (flat_map name_numbers code.names) functions counted.1 in
    behind Fits (flat_map head_numbers code.functions) all named.1

pub lines_of_writable : (c : List Function) → IsWritable (raw_code_of c) → HaveLines any_number any_text c
lines_of_writable c writable f there place i e =
    let names = names_of c in
    let body = part_at Fits body_numbers (map (raw_function names) c) there.0 (raw_function names f) (mapped (raw_function names) c there.0 f there.1)
    (bodies (raw_code_of c) writable.fits) in
    says names i
    (part_at Fits instruction_numbers (map (instruction names) f.steps) place (instruction names i) (mapped (instruction names) f.steps place i e) body)
