-- What an instruction asks of its place: what it names is there, its operands are of the kinds that it wants, its target may be led to.
use Rattle.std.specs.Prelude.{ℕ, ◌+◌, Bool, true, false, not, ◌&&◌, ◌||◌, ◌==◌, nat_lt, nat_le, List, [], ◌∷◌, length, take, Option, Some, None}
use Rattle.std.specs.Prelude.{slice_get, unwrap_or, is_some, if◌then◌else◌}
use Rattle.std.specs.List.{list_all}
use Rattle.program_trees.specs.declared.expression.DataType.{DataType}
use Rattle.program_trees.specs.declared.expression.DataType.TheVariants as types
use Rattle.program_trees.specs.declared.operators.OperatorSign.{OperatorSign}
use Rattle.program_trees.specs.declared.operators.OperatorSign.TheVariants as word
use Rattle.program_trees.specs.declared.operators.BoolOperator.{BoolOperator}
use Rattle.program_trees.specs.declared.operators.BoolOperator.TheVariants as truth
use Rattle.program_trees.specs.declared.operators.BinaryOperator.{BinaryOperator}
use Rattle.program_trees.specs.declared.operators.BinaryOperator.TheVariants.{Words, Ints, Bools}
use Rattle.program_trees.specs.Operators.{element_made, on_ints, on_bools}
pub use Rattle.program_trees.specs.Operators.{is_product}
use Rattle.bytecode.specs.declared.kind.Kind.{Kind}
use Rattle.bytecode.specs.Raw.{Raw, Literal, Move, Store, Binary, Not, Cast, Classify, Fill, At, Put, Size, Cat, Sum, Bits, Lookup, Declassify, Argument}
use Rattle.bytecode.specs.Raw.{Publish, Assert, Branch, Jump, Call, Return, ReturnNone, RawFunction, RawCode}

-- where an instruction stands
pub record Here : Type 0 where
  pub code : RawCode
  -- the function that it stands in
  pub own : RawFunction
  pub place : ℕ

-- ---- kinds

abbrev pub is_unsigned : DataType → Bool
is_unsigned types.Uint64 = true
is_unsigned types.Int64 = false
is_unsigned types.Bool = false

abbrev pub is_signed : DataType → Bool
is_signed types.Uint64 = false
is_signed types.Int64 = true
is_signed types.Bool = false

abbrev pub is_truth : DataType → Bool
is_truth types.Uint64 = false
is_truth types.Int64 = false
is_truth types.Bool = true

abbrev pub is_number : DataType → Bool
is_number e = not (is_truth e)

abbrev pub same_element : DataType → DataType → Bool
same_element types.Uint64 e = is_unsigned e
same_element types.Int64 e = is_signed e
same_element types.Bool e = is_truth e

abbrev pub same_truth : Bool → Bool → Bool
same_truth true b = b
same_truth false b = not b

abbrev pub same_kind : Kind → Kind → Bool
same_kind k l = same_truth k.secret l.secret && same_element k.element l.element && same_truth k.array l.array

abbrev pub public_scalar : DataType → Kind
public_scalar e = record { secret = false; element = e; array = false }

abbrev pub private_as : Kind → Kind
private_as k = record { secret = true; element = k.element; array = k.array }

abbrev pub public_as : Kind → Kind
public_as k = record { secret = false; element = k.element; array = k.array }

abbrev pub element_of : Kind → Kind
element_of k = record { secret = k.secret; element = k.element; array = false }

abbrev pub array_of : Kind → Kind
array_of k = record { secret = k.secret; element = k.element; array = true }

abbrev pub bits_of : Kind → Kind
bits_of k = record { secret = k.secret; element = types.Bool; array = true }

-- what is looked up in an array at indices, one or an array of them
abbrev pub looked_up_of : (array index : Kind) → Kind
looked_up_of a i = record { secret = true; element = a.element; array = i.array }

-- a register's kind; where it isn't there, one that no test looks at
abbrev pub kind_at : List Kind → ℕ → Kind
kind_at kinds r = unwrap_or (slice_get kinds r) (public_scalar types.Uint64)

-- ---- what it names is there

abbrev pub is_there : {A : Type 0} → List A → ℕ → Bool
is_there xs k = nat_lt k (length xs)

-- a register for a result, or none
abbrev pub is_none : ℕ → Bool
is_none to = to == 65535

abbrev pub names_there : Here → Raw → Bool
names_there h (Literal d x) = is_there h.own.registers d
names_there h (Move d r) = is_there h.own.registers d && is_there h.own.registers r
names_there h (Store d r) = is_there h.own.registers d && is_there h.own.registers r
names_there h (Binary o d a b line) = is_there h.own.registers d && is_there h.own.registers a && is_there h.own.registers b
names_there h (Not d r) = is_there h.own.registers d && is_there h.own.registers r
names_there h (Cast d r) = is_there h.own.registers d && is_there h.own.registers r
names_there h (Classify d r) = is_there h.own.registers d && is_there h.own.registers r
names_there h (Fill d n x line) = is_there h.own.registers d && is_there h.own.registers n && is_there h.own.registers x
names_there h (At d a i line) = is_there h.own.registers d && is_there h.own.registers a && is_there h.own.registers i
names_there h (Put a i x line) = is_there h.own.registers a && is_there h.own.registers i && is_there h.own.registers x
names_there h (Size d r) = is_there h.own.registers d && is_there h.own.registers r
names_there h (Cat d a b line) = is_there h.own.registers d && is_there h.own.registers a && is_there h.own.registers b
names_there h (Sum d r) = is_there h.own.registers d && is_there h.own.registers r
names_there h (Bits d r line) = is_there h.own.registers d && is_there h.own.registers r
names_there h (Lookup d a i line) = is_there h.own.registers d && is_there h.own.registers a && is_there h.own.registers i
names_there h (Declassify d r) = is_there h.own.registers d && is_there h.own.registers r
names_there h (Argument d name line) = is_there h.own.registers d && is_there h.code.names name
names_there h (Publish name r) = is_there h.code.names name && is_there h.own.registers r
names_there h (Assert r line) = is_there h.own.registers r
names_there h (Branch r v target) = is_there h.own.registers r
names_there h (Jump target) = true
names_there h (Call f d arguments line) =
    is_there h.code.functions f && (is_none d || is_there h.own.registers d) && list_all (is_there h.own.registers) arguments
names_there h (Return r) = is_there h.own.registers r
names_there h ReturnNone = true

-- ---- its operands are of the kinds that it wants

-- the operator on words of a byte: the sign that it stands for
abbrev pub word_operator_at : ℕ → OperatorSign
word_operator_at o =
    if o == 0 then word.Add else if o == 1 then word.Subtract else if o == 2 then word.Multiply else if o == 3 then word.Divide
    else if o == 4 then word.Remainder else if o == 5 then word.Equal else if o == 6 then word.NotEqual else if o == 7 then word.Less
    else if o == 8 then word.LessOrEqual else if o == 9 then word.Greater else if o == 10 then word.GreaterOrEqual
    else if o == 11 then word.And else if o == 12 then word.Or else word.Xor

-- numbers with a sign have all operators but those that work bit by bit
abbrev pub has_ints : ℕ → Bool
has_ints o = nat_lt o 14 && is_some (on_ints (word_operator_at o))

-- only some operators have bool operands
abbrev pub has_bools : ℕ → Bool
has_bools o = nat_lt o 14 && is_some (on_bools (word_operator_at o))

-- where it has none, one that no test looks at
abbrev pub bool_operator_at : ℕ → BoolOperator
bool_operator_at o = unwrap_or (on_bools (word_operator_at o)) truth.Xor

-- which operator a byte means on operands of a data type; where they haven't it, one that no test looks at
abbrev pub operator_at : DataType → ℕ → BinaryOperator
operator_at types.Uint64 o = Words (word_operator_at o)
operator_at types.Int64 o = Ints (word_operator_at o)
operator_at types.Bool o = Bools (bool_operator_at o)

-- private numbers have no division, remainder, and, or, xor
abbrev pub is_hidden_sign : OperatorSign → Bool
is_hidden_sign word.Divide = false
is_hidden_sign word.Remainder = false
is_hidden_sign word.And = false
is_hidden_sign word.Or = false
is_hidden_sign word.Xor = false
is_hidden_sign _ = true

abbrev pub may_be_private : BinaryOperator → Bool
may_be_private (Words op) = is_hidden_sign op
may_be_private (Ints op) = is_hidden_sign op
may_be_private (Bools op) = true

-- both private or both public, but in a product
abbrev pub secrecy_fits : BinaryOperator → (left right : Bool) → Bool
secrecy_fits op a b = (same_truth a b || is_product op) && (not (a || b) || may_be_private op)

abbrev pub operator_exists : DataType → ℕ → Bool
operator_exists types.Uint64 o = nat_lt o 14
operator_exists types.Int64 o = has_ints o
operator_exists types.Bool o = has_bools o

-- a private operand makes the result private, an array makes it an array
abbrev pub result_kind : BinaryOperator → Kind → Kind → Kind
result_kind op a b = record { secret = a.secret || b.secret; element = element_made op; array = a.array || b.array }

abbrev pub binary_fits : ℕ → (to left right : Kind) → Bool
binary_fits o d a b =
    same_element a.element b.element && operator_exists a.element o
    && secrecy_fits (operator_at a.element o) a.secret b.secret && same_kind d (result_kind (operator_at a.element o) a b)

-- no number with a sign is written down: it is cast
abbrev pub may_be_literal : DataType → ℕ → Bool
may_be_literal types.Uint64 x = true
may_be_literal types.Int64 x = false
may_be_literal types.Bool x = nat_lt x 2

abbrev pub literal_fits : Kind → ℕ → Bool
literal_fits d x = same_kind d (public_scalar d.element) && may_be_literal d.element x

abbrev pub not_fits : (to source : Kind) → Bool
not_fits d r = same_kind d r && is_truth r.element

abbrev pub cast_fits : (to source : Kind) → Bool
cast_fits d r = same_truth d.secret r.secret && same_truth d.array r.array

abbrev pub classify_fits : (to source : Kind) → Bool
classify_fits d r = not r.secret && same_kind d (private_as r)

abbrev pub fill_fits : (to size value : Kind) → Bool
fill_fits d n x = same_kind n (public_scalar types.Uint64) && not x.array && same_kind d (array_of x)

abbrev pub element_fits : (array index element : Kind) → Bool
element_fits a i x = a.array && same_kind i (public_scalar types.Uint64) && same_kind x (element_of a)

abbrev pub size_fits : (to source : Kind) → Bool
size_fits d r = r.array && same_kind d (public_scalar types.Uint64)

abbrev pub cat_fits : (to left right : Kind) → Bool
cat_fits d a b = d.array && same_kind a d && same_kind b d

abbrev pub sum_fits : (to source : Kind) → Bool
sum_fits d r = r.array && is_number r.element && same_kind d (element_of r)

abbrev pub bits_fit : (to source : Kind) → Bool
bits_fit d r = is_unsigned r.element && same_kind d (bits_of r)

-- both are private; a public one is classified before
abbrev pub lookup_fits : (to array index : Kind) → Bool
lookup_fits d a i = a.secret && a.array && is_number a.element && i.secret && is_unsigned i.element && same_kind d (looked_up_of a i)

abbrev pub is_condition : Kind → Bool
is_condition r = same_kind r (public_scalar types.Bool)

abbrev pub gives_fits : Option Kind → Kind → Bool
gives_fits None k = false
gives_fits (Some wanted) k = same_kind k wanted

abbrev pub gives_none : Option Kind → Bool
gives_none None = true
gives_none (Some k) = false

-- the arguments are of these kinds, one by one
abbrev pub arguments_fit : List Kind → List ℕ → List Kind → Bool
arguments_fit kinds [] [] = true
arguments_fit kinds [] (k ∷ ks) = false
arguments_fit kinds (r ∷ rs) [] = false
arguments_fit kinds (r ∷ rs) (k ∷ ks) = same_kind (kind_at kinds r) k && arguments_fit kinds rs ks

-- a call of a function, whose parameters are registers and of which there are as many arguments; the result may be let go
abbrev pub call_fits : List Kind → Option RawFunction → ℕ → List ℕ → Bool
call_fits kinds None d arguments = false
call_fits kinds (Some f) d arguments =
    nat_le f.parameters (length f.registers) && length arguments == f.parameters && arguments_fit kinds arguments (take f.parameters f.registers)
    && (is_none d || gives_fits f.gives (kind_at kinds d))

abbrev pub operands_fit : Here → Raw → Bool
operands_fit h (Literal d x) = literal_fits (kind_at h.own.registers d) x
operands_fit h (Move d r) = same_kind (kind_at h.own.registers d) (kind_at h.own.registers r)
operands_fit h (Store d r) = same_kind (kind_at h.own.registers d) (kind_at h.own.registers r)
operands_fit h (Binary o d a b line) = binary_fits o (kind_at h.own.registers d) (kind_at h.own.registers a) (kind_at h.own.registers b)
operands_fit h (Not d r) = not_fits (kind_at h.own.registers d) (kind_at h.own.registers r)
operands_fit h (Cast d r) = cast_fits (kind_at h.own.registers d) (kind_at h.own.registers r)
operands_fit h (Classify d r) = classify_fits (kind_at h.own.registers d) (kind_at h.own.registers r)
operands_fit h (Fill d n x line) = fill_fits (kind_at h.own.registers d) (kind_at h.own.registers n) (kind_at h.own.registers x)
operands_fit h (At d a i line) = element_fits (kind_at h.own.registers a) (kind_at h.own.registers i) (kind_at h.own.registers d)
operands_fit h (Put a i x line) = element_fits (kind_at h.own.registers a) (kind_at h.own.registers i) (kind_at h.own.registers x)
operands_fit h (Size d r) = size_fits (kind_at h.own.registers d) (kind_at h.own.registers r)
operands_fit h (Cat d a b line) = cat_fits (kind_at h.own.registers d) (kind_at h.own.registers a) (kind_at h.own.registers b)
operands_fit h (Sum d r) = sum_fits (kind_at h.own.registers d) (kind_at h.own.registers r)
operands_fit h (Bits d r line) = bits_fit (kind_at h.own.registers d) (kind_at h.own.registers r)
operands_fit h (Lookup d a i line) = lookup_fits (kind_at h.own.registers d) (kind_at h.own.registers a) (kind_at h.own.registers i)
operands_fit h (Declassify d r) = same_kind (kind_at h.own.registers d) (public_as (kind_at h.own.registers r))
operands_fit h (Assert r line) = is_condition (kind_at h.own.registers r)
operands_fit h (Branch r v target) = is_condition (kind_at h.own.registers r)
operands_fit h (Call f d arguments line) = call_fits h.own.registers (slice_get h.code.functions f) d arguments
operands_fit h (Return r) = gives_fits h.own.gives (kind_at h.own.registers r)
operands_fit h ReturnNone = gives_none h.own.gives
operands_fit h _ = true

-- ---- its target may be led to

abbrev pub is_return : Raw → Bool
is_return (Return r) = true
is_return ReturnNone = true
is_return _ = false

-- only a branch goes back
abbrev pub target_fits : Here → Raw → Bool
target_fits h (Branch r v target) = nat_lt target (length h.own.body)
target_fits h (Jump target) = nat_lt h.place target && nat_lt target (length h.own.body)
target_fits h _ = true

-- no function is left but by a return
abbrev pub goes_on : Here → Raw → Bool
goes_on h i = is_return i || nat_lt (h.place + 1) (length h.own.body)
