-- Each number of raw code has room in its bytes, where the steps are right and few.
use Rattle.std.proofs.Common.{◌≡◌, ℕ, zero, suc, ◌+◌, ◌<◌, ◌≤◌, ◌^◌, List, [], ◌∷◌, ◌++◌, length, map, take, Option, Some, None, Bool, true, false}
use Rattle.std.proofs.Common.{refl, sym, ap, ◌∙◌, subst, arith, inl}
use Rattle.std.specs.Prelude.{slice_get, IsTrue, nat_le, ◌&&◌, if◌then◌else◌}
use Rattle.std.specs.List.{AllByRecursion as Each, flat_map, list_all}
use Rattle.std.proofs.lemmas.Bool.{and_parts, ltb-true, leb-true}
use Rattle.std.proofs.lemmas.Bool.Decides.{nat_tests}
use Rattle.std.proofs.lemmas.List.{length-map, length-take}
use Rattle.std.proofs.Math.Nat.{min-le_right}
use Rattle.std.proofs.lemmas.Option.{slice_get_within}
use Rattle.sc_text.specs.Lists.{Among}
use Rattle.sc_text.specs.Name.{is_name, is_name_byte, IsName}
use Rattle.program_trees.specs.declared.expression.DataType.{DataType}
use Rattle.program_trees.specs.declared.expression.DataType.TheVariants.{Uint64, Int64}
use Rattle.program_trees.specs.declared.expression.DataType.TheVariants as datatype
use Rattle.program_trees.specs.declared.operators.OperatorSign.{OperatorSign}
use Rattle.program_trees.specs.declared.operators.OperatorSign.TheVariants as sign
use Rattle.program_trees.specs.declared.operators.BinaryOperator.{BinaryOperator}
use Rattle.program_trees.specs.Operators.{sign_of}
use Rattle.bytecode.specs.declared.kind.Kind.{Kind}
use Rattle.bytecode.specs.InMemory.{operator_byte}
use Rattle.bytecode.specs.Kinds.{element_bit, kind_byte, return_byte}
use Rattle.bytecode.specs.Raw.{RawFunction}
use Rattle.bytecode.specs.Written.{short, byte, source_line, instruction_numbers, head_numbers, body_numbers, name_numbers}
use Rattle.bytecode.specs.Writable.{Fits, IsProper, IsWritable}
use Rattle.verified_code.specs.Steps.{Step, Function, Literal, Move, Store, Binary, Not, Cast, Classify, Fill, At, Put, Size, Cat, Sum, Bits, Lookup}
use Rattle.verified_code.specs.Steps.{Declassify, Argument, Publish, Assert, Branch, Jump, Call, Return, ReturnNone}
use Rattle.code_model.specs.Kinded.{HasKind, ResultFits, IsIn}
use Rattle.code_model.specs.Words.{truth_word}
use Rattle.lowered_code.specs.Instructions.{nowhere, operator_number, register_or_nowhere, place_among, instruction, raw_function, step_names}
use Rattle.lowered_code.specs.Instructions.{function_names, names_of, raw_code_of}
use Rattle.lowered_code.specs.Right.{AreOf, IsRight, AreRight}
use Rattle.lowered_code.proofs.Names.{name_found, named}
use Rattle.lowered_code.proofs.Passing.{mapped, unmapped}
use Rattle.written_code.specs.Says.{StepSays}
use Rattle.written_code.specs.Laws.{is_word}
use Rattle.written_code.specs.WrittenSources.{is_line}
use Rattle.written_code.specs.WritingLaws.{HasRoom, IsWritableWhereRight}
use Rattle.written_code.proofs.Names.{each_joined, each_of, each_name, code_names, few_names}

-- ---- NUMBERS

line_fits : (n : ℕ) → IsTrue (is_line n) → n < 256 ^ 4
line_fits n h = let l = ltb-true n (2 ^ 32) h in omega (arith, l)

word_fits : (n : ℕ) → IsTrue (is_word n) → n < 256 ^ 8
word_fits n h = let l = ltb-true n (2 ^ 64) h in omega (arith, l)

sign_low : (op : OperatorSign) → operator_byte op < 14
sign_low sign.Add = omega arith
sign_low sign.Subtract = omega arith
sign_low sign.Multiply = omega arith
sign_low sign.Divide = omega arith
sign_low sign.Remainder = omega arith
sign_low sign.Equal = omega arith
sign_low sign.NotEqual = omega arith
sign_low sign.Less = omega arith
sign_low sign.LessOrEqual = omega arith
sign_low sign.Greater = omega arith
sign_low sign.GreaterOrEqual = omega arith
sign_low sign.And = omega arith
sign_low sign.Or = omega arith
sign_low sign.Xor = omega arith

operator_low : (op : BinaryOperator) → operator_number op < 14
operator_low op = sign_low (sign_of op)

bit_low : (b : Bool) → truth_word b < 2
bit_low true = omega arith
bit_low false = omega arith

kind_low : (s : Bool) (e : DataType) (a : Bool) → (if s then 1 else 0) + element_bit e + (if a then 4 else 0) < 14
kind_low true Uint64 true = omega arith
kind_low true Uint64 false = omega arith
kind_low true Int64 true = omega arith
kind_low true Int64 false = omega arith
kind_low true datatype.Bool true = omega arith
kind_low true datatype.Bool false = omega arith
kind_low false Uint64 true = omega arith
kind_low false Uint64 false = omega arith
kind_low false Int64 true = omega arith
kind_low false Int64 false = omega arith
kind_low false datatype.Bool true = omega arith
kind_low false datatype.Bool false = omega arith

kind_fits : (k : Kind) → kind_byte k < 256 ^ 1
kind_fits k = let l = kind_low k.secret k.element k.array in omega (arith, l)

return_fits : (g : Option Kind) → return_byte g < 256 ^ 1
return_fits None = omega arith
return_fits (Some k) = kind_fits k

-- ---- NAMES

name_byte_low : (b : ℕ) → is_name_byte b ≡ true → b < 128
name_byte_low b h = grind (arith, nat_tests)

bytes_fit : (name : List ℕ) → list_all is_name_byte name ≡ true → Each Fits (map byte name)
bytes_fit [] h = tt
bytes_fit (b ∷ name) h =
    let parts = and_parts (is_name_byte b) (list_all is_name_byte name) h in
    let low = name_byte_low b parts.0 in
    (omega (arith, low), bytes_fit name parts.1)

name_fits : (name : List ℕ) → IsName name → Each Fits (name_numbers name)
unfolding is_name
name_fits name h =
    let all = and_parts (nat_le 1 (length name) && nat_le (length name) 64) (list_all is_name_byte name) h in
    let long = and_parts (nat_le 1 (length name)) (nat_le (length name) 64) all.0 in
    let low = leb-true (length name) 64 long.1 in
    (omega (arith, low), bytes_fit name all.1)

names_fit : (names : List (List ℕ)) → Each IsName names → Each Fits (flat_map name_numbers names)
names_fit [] h = tt
names_fit (name ∷ names) h = each_joined Fits (name_numbers name) (flat_map name_numbers names) (name_fits name h.0) (names_fit names h.1)

-- ---- INSTRUCTIONS

module _ (c : List Function) (names : List (List ℕ)) (ks : List Kind) (gives : Option Kind) (count : ℕ) (few_functions : length c < 2 ^ 16)
    (few : length ks ≤ nowhere) (short_code : count < 2 ^ 16) where
  register : (r : ℕ) (k : Kind) → HasKind ks r k → r < 256 ^ 2
  register r k h = let l = slice_get_within ks r k h in omega (arith, l, few)

  target_fits : (target : ℕ) → target < count → target < 256 ^ 2
  target_fits target h = omega (arith, h, short_code)

  result_fits : (d : Option ℕ) (g : Option Kind) → ResultFits ks d g → register_or_nowhere d < 256 ^ 2
  result_fits None g h = omega arith
  result_fits (Some d) g h = register d h.0 h.2

  as_many : (rs : List ℕ) (wanted : List Kind) → AreOf ks rs wanted → length rs ≡ length wanted
  as_many [] [] h = refl
  as_many [] (k ∷ wanted) h = absurd h
  as_many (r ∷ rs) [] h = absurd h
  as_many (r ∷ rs) (k ∷ wanted) h = ap suc (as_many rs wanted h.1)

  -- there are no more of them than the called function has registers
  number_fits : (rs : List ℕ) (f : Function) → AreOf ks rs (take f.parameters f.kinds) → length f.kinds ≤ nowhere → length rs < 256 ^ 2
  number_fits rs f h few_there =
      let same = as_many rs (take f.parameters f.kinds) h in
      let taken = length-take f.parameters f.kinds in
      let cut = min-le_right f.parameters (length f.kinds) in
      omega (arith, same, taken, cut, few_there)

  arguments_fit : (rs : List ℕ) (wanted : List Kind) → AreOf ks rs wanted → Each Fits (map short rs)
  arguments_fit [] wanted h = tt
  arguments_fit (r ∷ rs) [] h = absurd h
  arguments_fit (r ∷ rs) (k ∷ wanted) h = (register r k h.0, arguments_fit rs wanted h.1)

  function_fits : (g : ℕ) (h : Function) → slice_get c g ≡ Some h → g < 256 ^ 2
  function_fits g h e = let l = slice_get_within c g h e in omega (arith, l, few_functions)

  abbrev Placed : List (List ℕ) → Type 0
  Placed texts = (text : List ℕ) → Among text texts → place_among text names < 256 ^ 2

  abbrev FewRegisters : Type 0
  FewRegisters = (f : Function) → IsIn c f → length f.kinds ≤ nowhere

  instruction_fits : (i : Step) → IsRight c ks gives count i → FewRegisters → StepSays is_word is_line is_name i → Placed (step_names i)
      → Each Fits (instruction_numbers (instruction names i))
  instruction_fits (Literal d e n) h m s p = (omega arith, (register d _ h.0, (word_fits n s, tt)))
  instruction_fits (Move d r) h m s p = (omega arith, (register d _ h.2, (register r _ h.1, tt)))
  instruction_fits (Store d r) h m s p = (omega arith, (register d _ h.2, (register r _ h.1, tt)))
  instruction_fits (Binary line op ds d a b) h m s p =
      let low = operator_low op in
      (omega arith, (omega (arith, low), (register d _ h.6, (register a _ h.2, (register b _ h.3, (line_fits line s, tt))))))
  instruction_fits (Not d r) h m s p = (omega arith, (register d _ h.3, (register r _ h.2, tt)))
  instruction_fits (Cast x d r) h m s p = (omega arith, (register d _ h.3, (register r _ h.2, tt)))
  instruction_fits (Classify d r) h m s p = (omega arith, (register d _ h.3, (register r _ h.2, tt)))
  instruction_fits (Fill line d n x) h m s p = (omega arith, (register d _ h.4, (register n _ h.2, (register x _ h.3, (line_fits line s, tt)))))
  instruction_fits (At line d a i) h m s p = (omega arith, (register d _ h.4, (register a _ h.2, (register i _ h.3, (line_fits line s, tt)))))
  instruction_fits (Put line a i x) h m s p = (omega arith, (register a _ h.2, (register i _ h.3, (register x _ h.4, (line_fits line s, tt)))))
  instruction_fits (Size d r) h m s p = (omega arith, (register d _ h.3, (register r _ h.2, tt)))
  instruction_fits (Cat line d a b) h m s p = (omega arith, (register d _ h.4, (register a _ h.2, (register b _ h.3, (line_fits line s, tt)))))
  instruction_fits (Sum d r) h m s p = (omega arith, (register d _ h.4, (register r _ h.3, tt)))
  instruction_fits (Bits line d r) h m s p = (omega arith, (register d _ h.3, (register r _ h.2, (line_fits line s, tt))))
  instruction_fits (Lookup line d a i) h m s p = (omega arith, (register d _ h.5, (register a _ h.3, (register i _ h.4, (line_fits line s, tt)))))
  instruction_fits (Declassify d r) h m s p = (omega arith, (register d _ h.4, (register r _ h.3, tt)))
  instruction_fits (Argument line k text d) h m s p = (omega arith, (register d _ h, (p text (inl refl), (line_fits line s.0, tt))))
  instruction_fits (Publish text r) h m s p = (omega arith, (p text (inl refl), (register r _ h.1, tt)))
  instruction_fits (Assert line r) h m s p = (omega arith, (register r _ h, (line_fits line s, tt)))
  instruction_fits (Branch r b target) h m s p =
      let low = bit_low b in
      (omega arith, (register r _ h.0, (omega (arith, low), (target_fits target h.1, tt))))
  instruction_fits (Jump target) h m s p = (omega arith, (target_fits target h, tt))
  instruction_fits (Call line g d arguments) h m s p = (
    omega arith,
    (
      function_fits g h.0 h.1,
      (
        result_fits d h.0.gives h.3,
        (
          number_fits arguments h.0 h.2 (m h.0 (g, h.1)),
          each_joined Fits (map short arguments) (source_line line ∷ []) (arguments_fit arguments (take h.0.parameters h.0.kinds) h.2)
              (line_fits line s, tt),
        ),
      ),
    ),
  )
  instruction_fits (Return r) h m s p = (omega arith, (register r _ h.2, tt))
  instruction_fits ReturnNone h m s p = (omega arith, tt)

-- an operator and a branch's value are within their ranges
instruction_proper : (names : List (List ℕ)) (i : Step) → IsProper (instruction names i)
instruction_proper names (Literal d e n) = tt
instruction_proper names (Move d r) = tt
instruction_proper names (Store d r) = tt
instruction_proper names (Binary line op ds d a b) = operator_low op
instruction_proper names (Not d r) = tt
instruction_proper names (Cast x d r) = tt
instruction_proper names (Classify d r) = tt
instruction_proper names (Fill line d n x) = tt
instruction_proper names (At line d a i) = tt
instruction_proper names (Put line a i x) = tt
instruction_proper names (Size d r) = tt
instruction_proper names (Cat line d a b) = tt
instruction_proper names (Sum d r) = tt
instruction_proper names (Bits line d r) = tt
instruction_proper names (Lookup line d a i) = tt
instruction_proper names (Declassify d r) = tt
instruction_proper names (Argument line k text d) = tt
instruction_proper names (Publish text r) = tt
instruction_proper names (Assert line r) = tt
instruction_proper names (Branch r b target) = bit_low b
instruction_proper names (Jump target) = tt
instruction_proper names (Call line g d arguments) = tt
instruction_proper names (Return r) = tt
instruction_proper names ReturnNone = tt

-- ---- FUNCTIONS AND CODE

kinds_fit : (ks : List Kind) → Each Fits (map (λ kind. byte (kind_byte kind)) ks)
kinds_fit [] = tt
kinds_fit (k ∷ ks) = (kind_fits k, kinds_fit ks)

each_at : {A : Type 0} (P : A → Type 0) (xs : List A) → ((k : ℕ) (x : A) → slice_get xs k ≡ Some x → P x) → Each P xs
each_at P [] h = tt
each_at P (x ∷ xs) h = (h zero x refl, each_at P xs (λ k y e. h (suc k) y e))

module _ (c : List Function) (right : AreRight c) (room : HasRoom c) where
  abbrev names : List (List ℕ)
  names = names_of c

  few_places : length names < 2 ^ 16
  few_places =
      let all = room.names in
      let few = few_names c in
      omega (arith, all, few)

  name_placed : (g : ℕ) (f : Function) (place : ℕ) (i : Step) → slice_get c g ≡ Some f → slice_get f.steps place ≡ Some i → (text : List ℕ)
      → Among text (step_names i)
      → place_among text names < 256 ^ 2
  name_placed g f place i there e text m =
      let found = name_found text names (named c g f place i there e text m) in
      let within = slice_get_within names (place_among text names) text found in
      let few = few_places in
      omega (arith, within, few)

  head_fits : (g : ℕ) (f : Function) → slice_get c g ≡ Some f → Each Fits (head_numbers (raw_function names f))
  head_fits g f there =
      let own = right.functions f (g, there) in
      let few = own.registers in
      let parameters = own.parameters in
      let many = length-map f.steps (instruction names) in
      let steps = room.steps f (g, there) in (
        omega (arith, few, parameters),
        (
          return_fits f.gives,
          (
            omega (arith, few),
            each_joined Fits (map (λ kind. byte (kind_byte kind)) f.kinds) (short (length (map (instruction names) f.steps)) ∷ []) (kinds_fit f.kinds)
                (omega (arith, many, steps), tt),
          ),
        ),
      )

  body_fits : (g : ℕ) (f : Function) → slice_get c g ≡ Some f → Each Fits (body_numbers (raw_function names f))
  body_fits g f there =
      let own = right.functions f (g, there) in
      each_of Fits instruction_numbers (map (instruction names) f.steps) (λ k x e.
      let y = unmapped (instruction names) f.steps k x e in
      subst (λ z. Each Fits (instruction_numbers z)) y.2
      (instruction_fits c names f.kinds f.gives (length f.steps) room.functions own.registers (room.steps f (g, there)) y.0 (own.steps k y.0 y.1)
      (λ h at. (right.functions h at).registers)
      (room.says f (g, there) k y.0 y.1) (name_placed g f k y.0 there y.1)))

  of_functions : (P : RawFunction → Type 0) → ((g : ℕ) (f : Function) → slice_get c g ≡ Some f → P (raw_function names f)) → (g : ℕ) (x : RawFunction)
      → slice_get (map (raw_function names) c) g ≡ Some x
      → P x
  of_functions P h g x e = let y = unmapped (raw_function names) c g x e in subst P y.2 (h g y.0 y.1)

  all_named : Each IsName (flat_map function_names c)
  all_named =
      each_of IsName function_names c (λ g f there. each_of IsName step_names f.steps (λ k i e. named_so i (room.says f (g, there) k i e)))
    where
      named_so : (i : Step) → StepSays is_word is_line is_name i → Each IsName (step_names i)
      named_so (Literal d e n) s = tt
      named_so (Move d r) s = tt
      named_so (Store d r) s = tt
      named_so (Binary line op ds d a b) s = tt
      named_so (Not d r) s = tt
      named_so (Cast x d r) s = tt
      named_so (Classify d r) s = tt
      named_so (Fill line d n x) s = tt
      named_so (At line d a i) s = tt
      named_so (Put line a i x) s = tt
      named_so (Size d r) s = tt
      named_so (Cat line d a b) s = tt
      named_so (Sum d r) s = tt
      named_so (Bits line d r) s = tt
      named_so (Lookup line d a i) s = tt
      named_so (Declassify d r) s = tt
      named_so (Argument line k text d) s = (s.1, tt)
      named_so (Publish text r) s = (s, tt)
      named_so (Assert line r) s = tt
      named_so (Branch r b target) s = tt
      named_so (Jump target) s = tt
      named_so (Call line g d arguments) s = tt
      named_so (Return r) s = tt
      named_so ReturnNone s = tt

  pub writable : IsWritable (raw_code_of c)
  writable =
      let fs = map (raw_function names) c in
      let new = code_names c all_named in
      let some = slice_get_within c zero right.main right.begins in
      let many = length-map c (raw_function names) in
      let few_functions = room.functions in
      let few = few_places in
      let heads = each_of Fits head_numbers fs (of_functions (λ x. Each Fits (head_numbers x)) head_fits) in
      let bodies = each_of Fits body_numbers fs (of_functions (λ x. Each Fits (body_numbers x)) body_fits) in
      let both = each_joined Fits (flat_map head_numbers fs) (flat_map body_numbers fs) heads bodies in
      let named = each_joined Fits (flat_map name_numbers names) (short (length fs) ∷ (flat_map head_numbers fs ++ flat_map body_numbers fs))
      (names_fit names (each_name [] names new)) (omega (arith, many, few_functions), both) in
      record {
        fits = (omega arith, (omega arith, (omega arith, (omega arith, (omega arith, (omega (arith, few), named))))));
        names = new;
        some_function = omega (arith, some, many);
        instructions = each_at _ fs (of_functions (λ x. Each IsProper x.body) (λ g f there.
            each_at _ (map (instruction names) f.steps) (λ k x e.
            let y = unmapped (instruction names) f.steps k x e in
            subst IsProper y.2 (instruction_proper names y.0))));
      }

pub writable_where_right : (c : List Function) → IsWritableWhereRight c
writable_where_right c right room = writable c right room
