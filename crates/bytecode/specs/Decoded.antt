-- What a text of code is read as, or its first fault.
use Rattle.std.specs.Prelude.{ℕ, zero, suc, ◌-◌, ◌==◌, ◌&&◌, not, nat_lt, List, [], ◌∷◌, length, map, Bool, true, Option, Result, Ok, Err, if◌then◌else◌}
use Rattle.bytecode.specs.declared.kind.Kind.{Kind}
use Rattle.bytecode.specs.Kinds.{is_kind, kind_of, is_return, return_of}
use Rattle.bytecode.specs.Raw.{Raw, Literal, Move, Store, Binary, Not, Cast, Classify, Fill, At, Put, Size, Cat, Sum, Bits, Lookup, Declassify, Argument}
use Rattle.bytecode.specs.Raw.{Publish, Assert, Branch, Jump, Call, Return, ReturnNone, RawFunction, RawCode}
use Rattle.bytecode.specs.Writable.{is_new_name}
use Rattle.bytecode.specs.Versions.{arguments_at, is_tag, version_byte, version_of, Counting, ByHeads, Counted, counting}
use Rattle.bytecode.specs.declared.version.CodeVersion.{CodeVersion}
use Rattle.bytecode.specs.declared.version.CodeVersion.TheVariants.{First, Second}
use Rattle.bytecode.specs.declared.fault.DecodeFault.{DecodeFault}
use Rattle.bytecode.specs.Layouts.{BadTag, BadVersion, Trailing, Layout, Makes, Field, NameField, Read, read, behind}

abbrev pub any : ℕ → Bool
any x = true

abbrev pub short_field : {A : Type 0} → (ℕ → Layout A) → Layout A
short_field = Field BadTag 2 any

abbrev pub line_field : {A : Type 0} → (ℕ → Layout A) → Layout A
line_field = Field BadTag 4 any

-- ---- instructions

abbrev pub pair_layout : (ℕ → ℕ → Raw) → Layout Raw
pair_layout make = short_field (λ d. short_field (λ r. Makes (make d r)))

abbrev pub triple_layout : (ℕ → ℕ → ℕ → ℕ → Raw) → Layout Raw
triple_layout make = short_field (λ a. short_field (λ b. short_field (λ c. line_field (λ line. Makes (make a b c line)))))

-- so many of a layout, one after the other
abbrev pub repeated : {A : Type 0} → Layout A → ℕ → Layout (List A)
repeated layout zero = Makes []
repeated layout (suc n) = behind layout (λ x. behind (repeated layout n) (λ xs. Makes (x ∷ xs)))

abbrev pub short_layout : Layout ℕ
short_layout = Field BadTag 2 any Makes

abbrev pub shorts : {A : Type 0} → ℕ → (List ℕ → Layout A) → Layout A
shorts n = behind (repeated short_layout n)

abbrev pub is_operator : ℕ → Bool
is_operator o = nat_lt o 14

abbrev pub is_truth : ℕ → Bool
is_truth v = nat_lt v 2

-- the number of arguments of a call of this function
abbrev pub argument_count : Counting → ℕ → Layout ℕ
argument_count (ByHeads parameters) f = Makes (arguments_at parameters f)
argument_count Counted f = short_layout

-- the operands after a tag
abbrev pub operands : Counting → ℕ → Layout Raw
operands rule tag =
    if tag == 0x01 then short_field (λ d. Field BadTag 8 any (λ x. Makes (Literal d x)))
    else if tag == 0x02 then pair_layout Move
    else if tag == 0x03 then pair_layout Store
    else if tag == 0x04 then Field BadTag 1 is_operator (λ o. triple_layout (Binary o))
    else if tag == 0x05 then pair_layout Not
    else if tag == 0x06 then pair_layout Cast
    else if tag == 0x07 then pair_layout Classify
    else if tag == 0x08 then triple_layout Fill
    else if tag == 0x09 then triple_layout At
    else if tag == 0x0a then triple_layout Put
    else if tag == 0x0b then pair_layout Size
    else if tag == 0x0c then triple_layout Cat
    else if tag == 0x0d then pair_layout Sum
    else if tag == 0x0e then short_field (λ d. short_field (λ r. line_field (λ line. Makes (Bits d r line))))
    else if tag == 0x0f then pair_layout Declassify
    else if tag == 0x10 then short_field (λ d. short_field (λ name. line_field (λ line. Makes (Argument d name line))))
    else if tag == 0x11 then pair_layout Publish
    else if tag == 0x12 then short_field (λ r. line_field (λ line. Makes (Assert r line)))
    else if tag == 0x13 then short_field (λ r. Field BadTag 1 is_truth (λ v. short_field (λ target. Makes (Branch r v target))))
    else if tag == 0x14 then short_field (λ target. Makes (Jump target))
    else if tag == 0x16 then short_field (λ f. short_field (λ d. behind (argument_count rule f) (λ n. shorts n (λ xs. line_field (λ line. Makes (Call f d xs line))))))
    else if tag == 0x17 then short_field (λ r. Makes (Return r))
    else if tag == 0x18 then Makes ReturnNone
    else triple_layout Lookup

abbrev pub instruction_layout : Counting → Layout Raw
instruction_layout rule = Field BadTag 1 (is_tag (version_of rule)) (operands rule)

abbrev pub body_layout : Counting → ℕ → Layout (List Raw)
body_layout rule = repeated (instruction_layout rule)

-- ---- what stands before the bodies

-- what is told of a function before all bodies
pub record Head : Type 0 where
  pub parameters : ℕ
  pub gives : Option Kind
  pub registers : List Kind
  pub instructions : ℕ

abbrev pub kind_layout : CodeVersion → Layout Kind
kind_layout version = Field BadTag 1 (is_kind version) (λ b. Makes (kind_of b))

abbrev pub kinds : {A : Type 0} → CodeVersion → ℕ → (List Kind → Layout A) → Layout A
kinds version n = behind (repeated (kind_layout version) n)

abbrev pub head_layout : CodeVersion → Layout Head
head_layout version =
    short_field (λ p. Field BadTag 1 (is_return version) (λ b. short_field (λ n. kinds version n (λ ks. short_field (λ count.
    Makes (record { parameters = p; gives = return_of b; registers = ks; instructions = count }))))))

abbrev pub heads_layout : CodeVersion → ℕ → Layout (List Head)
heads_layout version = repeated (head_layout version)

abbrev pub names_layout : List (List ℕ) → ℕ → Layout (List (List ℕ))
names_layout earlier zero = Makes []
names_layout earlier (suc n) = NameField (is_new_name earlier) (λ name. behind (names_layout (name ∷ earlier) n) (λ names. Makes (name ∷ names)))

-- ---- functions and code

abbrev pub function_of : Head → List Raw → RawFunction
function_of h is = record { parameters = h.parameters; gives = h.gives; registers = h.registers; body = is }

abbrev pub bodies_layout : Counting → List Head → Layout (List RawFunction)
bodies_layout rule [] = Makes []
bodies_layout rule (h ∷ hs) = behind (body_layout rule h.instructions) (λ is. behind (bodies_layout rule hs) (λ fs. Makes (function_of h is ∷ fs)))

abbrev pub functions_layout : CodeVersion → ℕ → Layout (List RawFunction)
functions_layout version n = behind (heads_layout version n) (λ hs. bodies_layout (counting version (map (λ h. h.parameters) hs)) hs)

abbrev pub is_some_count : ℕ → Bool
is_some_count n = nat_lt 0 n

-- `SC3P`, the version, the names, the functions' heads, their bodies
abbrev pub code_layout : CodeVersion → Layout RawCode
code_layout version =
    Field BadTag 1 (λ b. b == 83) (λ s. Field BadTag 1 (λ b. b == 67) (λ c. Field BadTag 1 (λ b. b == 51) (λ t. Field BadTag 1 (λ b. b == 80) (λ p.
    Field BadVersion 1 (λ b. b == version_byte version) (λ v. short_field (λ names. behind (names_layout [] names) (λ ns.
    Field BadTag 2 is_some_count (λ functions. behind (functions_layout version functions) (λ fs. Makes (record { names = ns; functions = fs }))))))))))

-- ---- a whole text

-- the text, of so many bytes, has to end after what was read
abbrev pub ended : {A : Type 0} → ℕ → A → List ℕ → Result A DecodeFault
ended size a [] = Ok a
ended size a (b ∷ left) = Err (record { kind = Trailing; place = size - length (b ∷ left) })

abbrev pub whole : {A : Type 0} → ℕ → Read A → Result A DecodeFault
whole size (Ok x) = ended size x.0 x.1
whole size (Err e) = Err (record { kind = e.0; place = size - length e.1 })

abbrev pub decoded_by : CodeVersion → List ℕ → Result RawCode DecodeFault
decoded_by version text = whole (length text) (read (code_layout version) text)

-- by the rules of today's version
abbrev pub decoded : List ℕ → Result RawCode DecodeFault
decoded = decoded_by Second

-- by those of the first version
abbrev pub decoded_v1 : List ℕ → Result RawCode DecodeFault
decoded_v1 = decoded_by First
