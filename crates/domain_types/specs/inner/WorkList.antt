-- Cited by private functions alone: no contract of another crate rests on it.
-- The work list of the checker: the instances that it visits, one after another, and what it finds there.
use Rattle.std.specs.Prelude.{ℕ, ◌≡◌, ◌+◌, Bool, nat_eq, if◌then◌else◌, List, [], ◌∷◌, ◌++◌, Option, Some, None}
use Rattle.std.specs.List.{list_any, slice_get}
use Rattle.program_trees.specs.declared.statement.Identifier.{Identifier}
use Rattle.program_trees.specs.Programs.{FunctionTree}
use Rattle.domain_types.specs.declared.fault.TypeFault.{TypeFault}
use Rattle.domain_types.specs.declared.value_type.Protection.{Protection}
use Rattle.declarations.specs.Declarations.{Declared}
use Rattle.domain_types.specs.ExpressionTypes.{within}
use Rattle.domain_types.specs.FunctionTypes.{function_faults, domain_variables_faults}
use Rattle.sc_text.specs.Lists.{Among}
use Rattle.domain_types.specs.Reached.{Call, function_calls, Instance}
use Rattle.domain_types.specs.Types.{is_without}
use Rattle.domain_types.specs.Instances.{is_listed, IsEachOnce}

-- WHAT IS LISTED

-- after one more instance, which is not listed twice
abbrev pub added : List Instance → Instance → List Instance
added is i = if is_listed i is then is else is ++ i ∷ []

-- after a call of this function: a call that is refused lists nothing
abbrev pub with_binding : List Instance → ℕ → Option (List Protection) → List Instance
with_binding is k None = is
with_binding is k (Some ds) = added is (record { function = k; binding = ds })

abbrev pub with_calls : List Instance → List Call → List Instance
with_calls is [] = is
with_calls is (c ∷ cs) = with_calls (with_binding is c.function c.binding) cs

-- after the plain functions among these, which are numbered from n on
abbrev pub with_plain : List Instance → ℕ → List FunctionTree → List Instance
with_plain is n [] = is
with_plain is n (f ∷ fs) =
    with_plain (if is_without f.variables then added is (record { function = n; binding = [] }) else is) (n + 1) fs

-- the list begins with the plain functions
abbrev pub plain_instances : Declared → List Instance
plain_instances d = with_plain [] 0 d.functions

-- WHAT IS FOUND

-- what a function of the program has, if it is there
abbrev pub of_function : {A : Type 0} → Option FunctionTree → (FunctionTree → List A) → List A
of_function None has = []
of_function (Some f) has = has f

abbrev pub instance_faults : Declared → Instance → List TypeFault
instance_faults d i = of_function (slice_get d.functions i.function) (λ f. function_faults (within d f i.binding) f)

abbrev pub instance_calls : Declared → Instance → List Call
instance_calls d i = of_function (slice_get d.functions i.function) (λ f. function_calls (within d f i.binding) f)

-- of each in order
abbrev pub gathered : {A B : Type 0} → (A → List B) → List A → List B
gathered has [] = []
gathered has (x ∷ xs) = has x ++ gathered has xs

abbrev pub is_called : ℕ → List Call → Bool
is_called k cs = list_any (λ c. nat_eq c.function k) cs

-- the heads of the functions that the test picks, numbered from n on
abbrev pub heads_faults : Declared → (protections : List Identifier) → (ℕ → Bool) → ℕ → List FunctionTree → List TypeFault
heads_faults d ps test n [] = []
heads_faults d ps test n (f ∷ fs) =
    (if test n then domain_variables_faults d ps f.parameters [] f.variables else []) ++ heads_faults d ps test (n + 1) fs

-- WHAT IS REACHED

-- the least set with these instances that is closed under calls
pub data IsReached (d : Declared) (start : List Instance) : Instance → Type 0 where
  begins : (i : Instance) → Among i start → IsReached d start i
  follows : (i : Instance) (k : ℕ) (ds : List Protection) → IsReached d start i
      → Among (record { function = k; binding = Some ds }) (instance_calls d i) → IsReached d start (record { function = k; binding = ds })

-- a list that began with `start`, with each instance once, of which `done` are visited: each call there is followed
pub record AreVisited (d : Declared) (start done is : List Instance) : Type 0 where
  pub starts : (i : Instance) → Among i start → Among i is
  pub reached : (i : Instance) → Among i is → IsReached d start i
  pub once : IsEachOnce is
  pub followed : (c : Call) (ds : List Protection) → Among c (gathered (instance_calls d) done) → c.binding ≡ Some ds
      → Among (record { function = c.function; binding = ds }) is
