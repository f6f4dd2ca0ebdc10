-- Programs, what their calls bind, and the instances that they reach, worked out by hand from the rules.
use Rattle.std.specs.Prelude.{ℕ, ◌≡◌, false, List, [], ◌∷◌, ◌++◌, codes, refl}
use Rattle.std.specs.List.{flat_map}
use Rattle.program_trees.specs.declared.expression.DataType.TheVariants.{Uint64}
use Rattle.program_trees.specs.declared.kinds.SlotDomain.{SlotDomain}
use Rattle.program_trees.specs.declared.kinds.SlotDomain.TheVariants as slot
use Rattle.program_trees.specs.declared.kinds.Slot.{Slot}
use Rattle.program_trees.specs.declared.typed_function.Returned.{Returned}
use Rattle.program_trees.specs.declared.typed_function.Returned.TheVariants.{Nothing, Value}
use Rattle.program_trees.specs.declared.operators.OperatorSign.TheVariants.{Add}
use Rattle.program_trees.specs.declared.operators.BinaryOperator.TheVariants.{Words}
use Rattle.program_trees.specs.declared.operators.Operands.TheVariants.{Scalars}
use Rattle.program_trees.specs.TypedTree.{TypedTree, lookup_node, word_node, slot_node, call_node, size_node, element_node, binary_node, declassify_node, typed_trees_of}
use Rattle.program_trees.specs.TypedStatements.{TypedStatementTree, loop_statement, do_statement, fill_statement, evaluate_statement, typed_statements_of}
use Rattle.program_trees.specs.TypedPrograms.{TypedFunctionTree, TypedProgramTree}
use Rattle.program_trees.specs.Lists.{Among}
use Rattle.std.proofs.Common.{inl, inr, subst}
use Rattle.reached_instances.specs.declared.instance.BoundDomain.{BoundDomain}
use Rattle.reached_instances.specs.declared.instance.BoundDomain.TheVariants.{Public, Private}
use Rattle.reached_instances.specs.Domains.{binding_of, Setting, domain}
use Rattle.reached_instances.specs.Instances.{Instance, firsts}
use Rattle.reached_instances.specs.Calls.{called_by, main_of}
use Rattle.reached_instances.specs.Reached.{IsReached, begins, follows}

-- PROGRAMS

abbrev word : SlotDomain → Slot
word d = record { domain = d; shape = record { element = Uint64; array = false } }

-- a function with these parameters and no other slots
abbrev function_of : (variables parameters : ℕ) → List Slot → Returned → List TypedStatementTree → TypedFunctionTree
function_of variables parameters slots given body =
    record {
      name = codes "f";
      variables = variables;
      parameters = parameters;
      slots = slots;
      given = given;
      body = typed_statements_of body;
      size = 2;
    }

-- `void main() { uint64 x; p uint64 a; .. }`: slot 0 is public, slot 1 private
abbrev main_with : List TypedStatementTree → TypedFunctionTree
main_with body = function_of 0 0 (word slot.Public ∷ word (slot.Private 0) ∷ []) Nothing body

-- `template <domain D> D uint64 f(D uint64 x) { .. }`
abbrev template_with : List TypedStatementTree → TypedFunctionTree
template_with body = function_of 1 1 (word (slot.Variable 0) ∷ []) (Value (word (slot.Variable 0))) body

-- `template <domain D, domain E> void f(D uint64 x, E uint64 y, E uint64 z) { .. }`
abbrev two_variables_with : List TypedStatementTree → TypedFunctionTree
two_variables_with body =
    function_of 2 3 (word (slot.Variable 0) ∷ word (slot.Variable 1) ∷ word (slot.Variable 1) ∷ []) Nothing body

abbrev program : List TypedFunctionTree → TypedProgramTree
program fs = record { functions = fs }

abbrev calling : ℕ → List TypedTree → TypedTree
calling k es = call_node 2 k (typed_trees_of es)

abbrev calls_one : ℕ → TypedTree → TypedStatementTree
calls_one k e = evaluate_statement (calling k (e ∷ []))

abbrev instance_of : ℕ → List BoundDomain → Instance
instance_of k b = record { function = k; binding = b }

-- what has to be the list again
abbrev following : TypedProgramTree → List Instance → List Instance
following p is = firsts (main_of p ++ flat_map (called_by p) is)

-- WHAT IS BOUND

bound_to_public : binding_of (template_with []) (Public ∷ []) ≡ Public ∷ []
bound_to_public = refl

bound_to_private : binding_of (template_with []) (Private 3 ∷ []) ≡ Private 3 ∷ []
bound_to_private = refl

-- one private argument among public ones decides, wherever it stands; the other variable is not touched
one_private_decides : binding_of (two_variables_with []) (Public ∷ Public ∷ Private 3 ∷ []) ≡ Public ∷ Private 3 ∷ []
one_private_decides = refl

first_of_two : binding_of (two_variables_with []) (Private 1 ∷ Private 3 ∷ Public ∷ []) ≡ Private 1 ∷ Private 3 ∷ []
first_of_two = refl

-- an argument at a parameter that is public, or in a domain, binds nothing
other_parameters : binding_of (function_of 1 3 (word slot.Public ∷ word (slot.Private 2) ∷ word (slot.Variable 0) ∷ []) Nothing [])
    (Public ∷ Private 2 ∷ Public ∷ []) ≡ Public ∷ []
other_parameters = refl

-- WHO MAY SEE

-- slot 0 public, slot 1 in the domain 0, slot 2 in what is bound to the domain 5; function 0 is a template that gives back its argument
abbrev here : Setting
here =
    record {
      functions = template_with [] ∷ [];
      slots = word slot.Public ∷ word (slot.Private 0) ∷ word (slot.Variable 0) ∷ [];
      binding = Private 5 ∷ [];
    }

bound_slot : domain here (slot_node 2) ≡ Private 5
bound_slot = refl

right_is_private : domain here (binary_node 2 (Words Add) Scalars (slot_node 0) (slot_node 1)) ≡ Private 0
right_is_private = refl

left_is_private : domain here (binary_node 2 (Words Add) Scalars (slot_node 1) (word_node 4)) ≡ Private 0
left_is_private = refl

both_are_public : domain here (binary_node 2 (Words Add) Scalars (slot_node 0) (declassify_node (slot_node 1))) ≡ Public
both_are_public = refl

sizes_are_public : domain here (size_node (slot_node 1)) ≡ Public
sizes_are_public = refl

of_the_array : domain here (element_node 2 (slot_node 1) (slot_node 0)) ≡ Private 0
of_the_array = refl

-- one of the two private operands of a look-up is enough
of_the_looked_at : domain here (lookup_node 2 (slot_node 1) (slot_node 0)) ≡ Private 0
of_the_looked_at = refl

of_the_index : domain here (lookup_node 2 (slot_node 0) (slot_node 1)) ≡ Private 0
of_the_index = refl

-- a call gives back what its own argument binds, and not what is bound here
given_by_call : domain here (calling 0 (slot_node 1 ∷ [])) ≡ Private 0
given_by_call = refl

given_public_by_call : domain here (calling 0 (calling 0 (slot_node 0 ∷ []) ∷ [])) ≡ Public
given_public_by_call = refl

-- WHAT IS REACHED

-- main calls nothing
alone : following (program (main_with [] ∷ template_with [] ∷ [])) (instance_of 0 [] ∷ []) ≡ instance_of 0 [] ∷ []
alone = refl

-- f(1); f(a); f(2);
abbrev twice_bound : TypedProgramTree
twice_bound = program (main_with (calls_one 1 (word_node 1) ∷ calls_one 1 (slot_node 1) ∷ calls_one 1 (word_node 2) ∷ []) ∷ template_with [] ∷ [])

abbrev twice_bound_list : List Instance
twice_bound_list = instance_of 0 [] ∷ instance_of 1 (Public ∷ []) ∷ instance_of 1 (Private 0 ∷ []) ∷ []

each_binding_once : following twice_bound twice_bound_list ≡ twice_bound_list
each_binding_once = refl

-- g(f(a), 1, f(2)); arguments are read before the call
abbrev arguments_first_list : List Instance
arguments_first_list = instance_of 0 [] ∷ instance_of 2 (Private 0 ∷ []) ∷ instance_of 2 (Public ∷ []) ∷ instance_of 1 (Private 0 ∷ Public ∷ []) ∷ []

arguments_first : following (program
    (main_with (evaluate_statement (calling 1 (calling 2 (slot_node 1 ∷ []) ∷ word_node 1 ∷ calling 2 (word_node 2 ∷ []) ∷ [])) ∷ [])
    ∷ two_variables_with [] ∷ template_with [] ∷ [])) arguments_first_list ≡ arguments_first_list
arguments_first = refl

-- main: f(a); f(1); and f: g(x); g under what f is bound to, after all that main calls
abbrev under_own_variable_list : List Instance
under_own_variable_list = instance_of 0 [] ∷ instance_of 1 (Private 0 ∷ []) ∷ instance_of 1 (Public ∷ []) ∷ instance_of 2 (Private 0 ∷ [])
    ∷ instance_of 2 (Public ∷ []) ∷ []

under_own_variable : following
    (program (main_with (calls_one 1 (slot_node 1) ∷ calls_one 1 (word_node 1) ∷ []) ∷ template_with (calls_one 2 (slot_node 0) ∷ [])
    ∷ template_with [] ∷ [])) under_own_variable_list ≡ under_own_variable_list
under_own_variable = refl

-- main: f(a, 1, 1); and f: f(y, x, x); two bindings that call one another
abbrev swapping_list : List Instance
swapping_list = instance_of 0 [] ∷ instance_of 1 (Private 0 ∷ Public ∷ []) ∷ instance_of 1 (Public ∷ Private 0 ∷ []) ∷ []

swapping : following (program
    (main_with (evaluate_statement (calling 1 (slot_node 1 ∷ word_node 1 ∷ word_node 1 ∷ [])) ∷ [])
    ∷ two_variables_with (evaluate_statement (calling 1 (slot_node 1 ∷ slot_node 0 ∷ slot_node 0 ∷ [])) ∷ []) ∷ [])) swapping_list ≡ swapping_list
swapping = refl

-- for (; f(x) ..; g(x)) h(x); then do h(x); while (g(x)); and a fill of size g(x) with f(x)
in_reading_order : called_by
    (program (main_with (loop_statement (calling 1 (slot_node 0 ∷ [])) (calls_one 2 (slot_node 0)) (calls_one 3 (slot_node 0))
    ∷ do_statement (calls_one 3 (slot_node 0)) (calling 2 (slot_node 0 ∷ []))
    ∷ fill_statement 2 0 (calling 2 (slot_node 0 ∷ [])) (calling 1 (slot_node 0 ∷ [])) ∷ []) ∷ template_with [] ∷ template_with [] ∷ template_with []
    ∷ [])) (instance_of 0 []) ≡ instance_of 3 (Public ∷ []) ∷ instance_of 2 (Public ∷ []) ∷ instance_of 1 (Public ∷ []) ∷ instance_of 3 (Public ∷ [])
    ∷ instance_of 2 (Public ∷ []) ∷ instance_of 2 (Public ∷ []) ∷ instance_of 1 (Public ∷ []) ∷ []
in_reading_order = refl

-- a function that nothing but itself calls may stand in a list that goes on so, but it is not reached
abbrev calls_itself : TypedProgramTree
calls_itself = program (main_with [] ∷ template_with (calls_one 1 (slot_node 0) ∷ []) ∷ [])

abbrev with_unreached : List Instance
with_unreached = instance_of 0 [] ∷ instance_of 1 (Public ∷ []) ∷ []

unreached_goes_on : following calls_itself with_unreached ≡ with_unreached
unreached_goes_on = refl

only_main_is_reached : (i : Instance) → IsReached calls_itself i → i ≡ instance_of 0 []
only_main_is_reached i (begins j (inl e)) = e
only_main_is_reached i (begins j (inr m)) = absurd m
only_main_is_reached i (follows j k r m) =
    absurd (subst (λ z. Among k (called_by calls_itself z)) (only_main_is_reached j r) m)
