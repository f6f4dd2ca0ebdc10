-- Worked values: code that is verified, and first faults.
use Rattle.std.specs.Prelude.{◌≡◌, List, [], ◌∷◌, Bool, true, false, None, Some, refl}
use Rattle.program_trees.specs.declared.expression.DataType.TheVariants as types
use Rattle.bytecode.specs.declared.kind.Kind.{Kind}
use Rattle.bytecode.specs.Raw.{Raw, Literal, Binary, Jump, Branch, Call, Return, ReturnNone, RawCode}
use Rattle.verified_code.specs.declared.fault.CodeProblem.TheVariants.{BadRegister, BadKind, BadJump}
use Rattle.verified_code.specs.Verified.{first_fault}

-- a main of these registers and instructions
abbrev main_of : List Kind → List Raw → RawCode
main_of kinds body = record { names = []; functions = record { parameters = 0; gives = None; registers = kinds; body = body } ∷ [] }

abbrev number : Bool → Kind
number secret = record { secret = secret; element = types.Uint64; array = false }

abbrev truth : Kind
truth = record { secret = false; element = types.Bool; array = false }

pub empty_main : first_fault (main_of [] (ReturnNone ∷ [])) ≡ None
empty_main = refl

pub no_function : first_fault (record { names = []; functions = [] }) ≡ Some (record { problem = BadRegister; function = 0; instruction = 0 })
no_function = refl

-- register 0 isn't there
pub no_register : first_fault (main_of [] (Return 0 ∷ [])) ≡ Some (record { problem = BadRegister; function = 0; instruction = 0 })
no_register = refl

-- main gives nothing back
pub main_gives : first_fault (main_of (number false ∷ []) (Return 0 ∷ [])) ≡ Some (record { problem = BadKind; function = 0; instruction = 0 })
main_gives = refl

pub sum_of_both : first_fault (main_of (number true ∷ number false ∷ []) (Binary 0 0 0 1 1 ∷ ReturnNone ∷ []))
    ≡ Some (record { problem = BadKind; function = 0; instruction = 0 })
sum_of_both = refl

pub product_of_both : first_fault (main_of (number true ∷ number false ∷ []) (Binary 2 0 0 1 1 ∷ ReturnNone ∷ [])) ≡ None
product_of_both = refl

pub private_division : first_fault (main_of (number true ∷ []) (Binary 3 0 0 0 1 ∷ ReturnNone ∷ []))
    ≡ Some (record { problem = BadKind; function = 0; instruction = 0 })
private_division = refl

pub truth_of_two : first_fault (main_of (truth ∷ []) (Literal 0 2 ∷ ReturnNone ∷ [])) ≡ Some (record { problem = BadKind; function = 0; instruction = 0 })
truth_of_two = refl

-- a jump goes forward, a branch may go back
pub jump_to_itself : first_fault (main_of [] (Jump 0 ∷ ReturnNone ∷ [])) ≡ Some (record { problem = BadJump; function = 0; instruction = 0 })
jump_to_itself = refl

pub branch_to_itself : first_fault (main_of (truth ∷ []) (Branch 0 1 0 ∷ ReturnNone ∷ [])) ≡ None
branch_to_itself = refl

pub jump_out : first_fault (main_of [] (Jump 2 ∷ ReturnNone ∷ [])) ≡ Some (record { problem = BadJump; function = 0; instruction = 0 })
jump_out = refl

-- at the last instruction, whose kind goes first
pub no_return : first_fault (main_of (number false ∷ []) (Literal 0 1 ∷ Literal 0 2 ∷ [])) ≡ Some (record { problem = BadJump; function = 0; instruction = 1 })
no_return = refl

pub no_instruction : first_fault (main_of [] []) ≡ Some (record { problem = BadJump; function = 0; instruction = 0 })
no_instruction = refl

-- main may be called
pub call_of_main : first_fault (main_of [] (Call 0 65535 [] 1 ∷ ReturnNone ∷ [])) ≡ None
call_of_main = refl

pub call_of_none : first_fault (main_of [] (Call 1 65535 [] 1 ∷ ReturnNone ∷ [])) ≡ Some (record { problem = BadRegister; function = 0; instruction = 0 })
call_of_none = refl
