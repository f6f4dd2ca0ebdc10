-- Programs of the language and their faults, worked out by hand from the rules.
use Rattle.std.specs.Prelude.{ℕ, ◌≡◌, ◌+◌, Bool, true, false, List, [], ◌∷◌, ◌++◌, Option, Some, None, codes, refl}
use Rattle.sc_text.specs.declared.span.Span.{Span}
use Rattle.program_trees.specs.declared.expression.DataType.{DataType}
use Rattle.program_trees.specs.declared.expression.DataType.TheVariants as datatype
use Rattle.program_trees.specs.declared.expression.Operator.TheVariants.{Add, Multiply, Divide, Equal, Less, And}
use Rattle.program_trees.specs.declared.statement.Domain.TheVariants as domain
use Rattle.program_trees.specs.declared.statement.Identifier.{Identifier}
use Rattle.program_trees.specs.declared.statement.DeclaredType.{DeclaredType}
use Rattle.program_trees.specs.declared.function.ResultType.TheVariants as returned
use Rattle.program_trees.specs.Tree.{Tree, Trees, number, truth, variable, call, index, binary, declassify, argument, publish}
use Rattle.program_trees.specs.Tree as Tree'
use Rattle.program_trees.specs.Statements.{StatementTree, block, branch, returns, assertion, declaration, evaluation, statements_of}
use Rattle.program_trees.specs.Programs.{FunctionTree, ItemTree, imports, domain as domains_item, defines, ProgramTree}
use Rattle.domain_types.specs.declared.fault.TypeProblem.{TypeProblem}
use Rattle.domain_types.specs.declared.fault.TypeProblem.TheVariants.{UnknownName, Twice, TypeMismatch, PrivateCondition, PrivateIndex, PrivateSize}
use Rattle.domain_types.specs.declared.fault.TypeProblem.TheVariants.{PrivateToPublic, PrivateDivision, PrivateAssert, MissingReturn}
use Rattle.domain_types.specs.declared.fault.TypeFault.{TypeFault}
use Rattle.domain_types.specs.declared.value_type.Protection.TheVariants.{Public, Private}
use Rattle.declarations.specs.Declarations.{declared_by}
use Rattle.domain_types.specs.ExpressionTypes.{within, operator_faults, operator_type, index_faults, index_type, built_in_faults, built_in_result}
use Rattle.domain_types.specs.ExpressionTypes.{defined_faults, call_faults, call_type}
use Rattle.domain_types.specs.StatementTypes.{sized_faults}
use Rattle.domain_types.specs.FunctionTypes.{function_faults}
use Rattle.domain_types.specs.Reached.{function_calls}
use Rattle.domain_types.specs.ProgramTypes.{declaring_faults}
use Rattle.domain_types.specs.inner.LeastFault.{least}

-- a place: line and column
abbrev at : ℕ → ℕ → Span
at l c = record { line = l; column = c }

abbrev named : Span → List ℕ → Identifier
named p x = record { place = p; text = x }

abbrev p_type : Span → DataType → Bool → DeclaredType
p_type p element array = record { place = p; domain = domain.Named (named p (codes "p")); element = element; array = array }

abbrev public_type : Span → DataType → Bool → DeclaredType
public_type p element array = record { place = p; domain = domain.Public; element = element; array = array }

abbrev input : ℕ → List ℕ → StatementTree
input c x =
    declaration
    (record {
      declared = p_type (at 2 c) datatype.Uint64 false;
      variable = named (at 2 (c + 9)) x;
      size = None;
      value = Some (argument (at 2 (c + 13)) x);
    })

-- line 1 is `import stdlib; import shared3p; domain p shared3p; void main() {`, line 2 these statements, line 3 `}`
abbrev main_with : List StatementTree → FunctionTree
main_with ss =
    record {
      variables = [];
      returned = returned.Void;
      function = named (at 1 55) (codes "main");
      parameters = [];
      body = record { place = at 1 62; statements = statements_of ss };
    }

abbrev program_with : List ItemTree → List StatementTree → ProgramTree
program_with more ss =
    record {
      items = (imports (named (at 1 8) (codes "stdlib")) ∷ imports (named (at 1 23) (codes "shared3p"))
          ∷ domains_item (named (at 1 40) (codes "p")) (named (at 1 42) (codes "shared3p")) ∷ defines (main_with ss) ∷ []) ++ more;
      end = at 3 2;
    }

abbrev faults_of : List StatementTree → List TypeFault
faults_of ss = declaring_faults (program_with [] ss) ++ function_faults (within (declared_by (program_with [] ss)) (main_with ss) []) (main_with ss)

abbrev told : List StatementTree → Option TypeFault
told ss = least None (faults_of ss)

abbrev fault : ℕ → TypeProblem → Option TypeFault
fault c problem = Some (record { place = at 2 c; problem = problem })

abbrev a_at : ℕ → Tree
a_at c = variable (at 2 c) (codes "a")

-- p uint64 a = argument("a"); if (a < a) { }
private_condition : told (input 1 (codes "a") ∷ branch (at 2 29) (binary (at 2 33) Less (a_at 33) (a_at 37)) (block (at 2 40) (statements_of []))
    ∷ []) ≡ fault 33 PrivateCondition
unfolding operator_faults operator_type
private_condition = refl

-- p uint64 a = argument("a"); publish("q", a / a);
private_division : told (input 1 (codes "a") ∷ evaluation (publish (at 2 29) (codes "q") (binary (at 2 42) Divide (a_at 42) (a_at 46))) ∷ [])
    ≡ fault 42 PrivateDivision
unfolding operator_faults operator_type
private_division = refl

abbrev a_array : ℕ → (size value : Option Tree) → StatementTree
a_array c size value =
    declaration
    (record {
      declared = public_type (at 2 c) datatype.Uint64 true;
      variable = named (at 2 (c + 11)) (codes "b");
      size = size;
      value = value;
    })

-- p uint64 a = argument("a"); uint64[[1]] b (a);
private_size : told (input 1 (codes "a") ∷ a_array 29 (Some (a_at 44)) None ∷ []) ≡ fault 44 PrivateSize
unfolding sized_faults
private_size = refl

-- p uint64 a = argument("a"); uint64[[1]] b (2); publish("x", b[a]);
private_index : told (input 1 (codes "a") ∷ a_array 29 (Some (number (at 2 44) 2)) None
    ∷ evaluation (publish (at 2 48) (codes "x") (index (at 2 61) (variable (at 2 61) (codes "b")) (a_at 63))) ∷ []) ≡ fault 63 PrivateIndex
unfolding sized_faults index_faults index_type
private_index = refl

-- p uint64 a = argument("a"); assert(a == a);
private_assertion : told (input 1 (codes "a") ∷ assertion (at 2 29) (binary (at 2 36) Equal (a_at 36) (a_at 41)) ∷ []) ≡ fault 36 PrivateAssert
unfolding operator_faults operator_type
private_assertion = refl

-- p uint64 a = argument("a"); uint64 c = a;
private_to_public : told (input 1 (codes "a")
    ∷ declaration (record {
      declared = public_type (at 2 29) datatype.Uint64 false;
      variable = named (at 2 36) (codes "c");
      size = None;
      value =
          Some (a_at 40);
    }) ∷ []) ≡ fault 40 PrivateToPublic
private_to_public = refl

-- p uint64 a = argument("a"); p uint64 b = argument("b"); publish("c", declassify(a * b)); has no fault
product : faults_of (input 1 (codes "a") ∷ input 29 (codes "b")
    ∷ evaluation (publish (at 2 57) (codes "c") (declassify (at 2 70) (binary (at 2 81) Multiply (a_at 81) (variable (at 2 85) (codes "b"))))) ∷ []) ≡ []
unfolding operator_faults operator_type
product = refl

-- line 2 begins with `p int64 a = argument("a"); `
abbrev int_input : StatementTree
int_input =
    declaration
    (record {
      declared = p_type (at 2 1) datatype.Int64 false;
      variable = named (at 2 9) (codes "a");
      size = None;
      value = Some (argument (at 2 13) (codes "a"));
    })

-- p int64 a = argument("a"); publish("q", a / a);
private_signed_division : told (int_input ∷ evaluation (publish (at 2 28) (codes "q") (binary (at 2 41) Divide (a_at 41) (a_at 45))) ∷ [])
    ≡ fault 41 PrivateDivision
unfolding operator_faults operator_type
private_signed_division = refl

-- p int64 a = argument("a"); publish("q", a / 1); the wrong type is told before the division
two_types_of_numbers : told (int_input ∷ evaluation (publish (at 2 28) (codes "q") (binary (at 2 41) Divide (a_at 41) (number (at 2 45) 1))) ∷ [])
    ≡ fault 41 TypeMismatch
unfolding operator_faults operator_type
two_types_of_numbers = refl

-- p int64 a = argument("a"); publish("q", a & a); int64 has no operator on bits
bits_of_signed : told (int_input ∷ evaluation (publish (at 2 28) (codes "q") (binary (at 2 41) And (a_at 41) (a_at 45))) ∷ []) ≡ fault 41 TypeMismatch
unfolding operator_faults operator_type
bits_of_signed = refl

-- p int64 a = argument("a"); publish("r", a < a); has no fault
signed_order : faults_of (int_input ∷ evaluation (publish (at 2 28) (codes "r") (binary (at 2 41) Less (a_at 41) (a_at 45))) ∷ []) ≡ []
unfolding operator_faults operator_type
signed_order = refl

abbrev lookup_at : (place array : ℕ) → List ℕ → Tree → Tree
lookup_at c d x i = call (at 2 c) (codes "lookup") (Tree'.also (variable (at 2 d) x) (Tree'.also i Tree'.none))

-- p int64[[1]] a = argument("a"); publish("v", lookup(a, 0)); has no fault
looked_up_at_a_public_index : faults_of (declaration (record {
  declared = p_type (at 2 1) datatype.Int64 true;
  variable = named (at 2 14) (codes "a");
  size = None;
  value =
      Some (argument (at 2 18) (codes "a"));
}) ∷ evaluation (publish (at 2 33) (codes "v") (lookup_at 46 53 (codes "a") (number (at 2 56) 0))) ∷ []) ≡ []
unfolding call_faults call_type built_in_faults built_in_result
looked_up_at_a_public_index = refl

-- uint64[[1]] b (2); publish("v", lookup(b, 0));
nothing_private : told (a_array 1 (Some (number (at 2 16) 2)) None
    ∷ evaluation (publish (at 2 20) (codes "v") (lookup_at 33 40 (codes "b") (number (at 2 43) 0))) ∷ []) ≡ fault 33 TypeMismatch
unfolding sized_faults call_faults call_type built_in_faults built_in_result
nothing_private = refl

-- a name that is declared again and an initialiser of an unknown name: uint64 x; uint64 x = y;
twice : told (declaration (record {
  declared = public_type (at 2 1) datatype.Uint64 false;
  variable = named (at 2 8) (codes "x");
  size = None;
  value =
      None;
}) ∷ declaration (record {
  declared = public_type (at 2 11) datatype.Uint64 false;
  variable = named (at 2 18) (codes "x");
  size =
      None;
  value = Some (variable (at 2 22) (codes "y"));
}) ∷ []) ≡ fault 18 Twice
twice = refl

-- an unknown function of an unknown name: g(y); and a void call as an operand: 1 + main();
unknown_function : told (evaluation (call (at 2 1) (codes "g") (Tree'.also (variable (at 2 3) (codes "y")) Tree'.none)) ∷ []) ≡ fault 1 UnknownName
unfolding call_faults call_type
unknown_function = refl

void_operand : told (evaluation (binary (at 2 1) Add (number (at 2 1) 1) (call (at 2 5) (codes "main") Tree'.none)) ∷ []) ≡ fault 5 TypeMismatch
unfolding call_faults call_type defined_faults operator_faults operator_type
void_operand = refl

-- uint64 f() { if (true) { return 1; } }
abbrev one_way : FunctionTree
one_way =
    record {
      variables = [];
      returned = returned.Value (public_type (at 1 1) datatype.Uint64 false);
      function = named (at 1 8) (codes "f");
      parameters = [];
      body = record {
        place = at 1 12;
        statements =
            statements_of (branch (at 1 14) (truth (at 1 18) true) (block (at 1 24) (statements_of (returns (at 1 26) (Some (number (at 1 33) 1)) ∷ []))) ∷ []);
      };
    }

-- uint64 lookup() { .. }, beside the import of `shared3p` and without it
abbrev lookup_again : FunctionTree
lookup_again = record one_way { function = named (at 4 8) (codes "lookup") }

lookup_is_brought : declaring_faults (program_with (defines lookup_again ∷ []) []) ≡ record { place = at 4 8; problem = Twice } ∷ []
lookup_is_brought = refl

lookup_is_free : declaring_faults (record { items = defines (main_with []) ∷ defines lookup_again ∷ []; end = at 5 1 }) ≡ []
lookup_is_free = refl

missing_return : function_faults (within (declared_by (program_with (defines one_way ∷ []) [])) one_way []) one_way
    ≡ record { place = at 1 8; problem = MissingReturn } ∷ []
missing_return = refl

-- line 4: template <domain D> D uint64 f(D uint64 x, D uint64 y) { return x + y; }
abbrev d_type : Span → DeclaredType
d_type p = record { place = p; domain = domain.Named (named p (codes "D")); element = datatype.Uint64; array = false }

abbrev sum_template : FunctionTree
sum_template =
    record {
      variables = record { variable = named (at 4 18) (codes "D"); kind = None } ∷ [];
      returned = returned.Value (d_type (at 4 21));
      function = named (at 4 30) (codes "f");
      parameters = record { declared = d_type (at 4 32); variable = named (at 4 41) (codes "x") }
          ∷ record { declared = d_type (at 4 44); variable = named (at 4 53) (codes "y") } ∷ [];
      body = record {
        place = at 4 56;
        statements =
            statements_of (returns (at 4 58) (Some (binary (at 4 65) Add (variable (at 4 65) (codes "x")) (variable (at 4 69) (codes "y")))) ∷ []);
      };
    }

abbrev f_call : ℕ → Tree → Tree → StatementTree
f_call c a b = evaluation (call (at 2 c) (codes "f") (Tree'.also a (Tree'.also b Tree'.none)))

-- p uint64 a = argument("a"); f(1, 2); f(a, 2); the template is reached once for public operands and once for those of p
abbrev two_bindings : List StatementTree
two_bindings = input 1 (codes "a") ∷ f_call 29 (number (at 2 31) 1) (number (at 2 34) 2) ∷ f_call 38 (a_at 40) (number (at 2 43) 2) ∷ []

reached_twice : function_calls (within (declared_by (program_with (defines sum_template ∷ []) two_bindings)) (main_with two_bindings) [])
    (main_with two_bindings) ≡ record { function = 1; binding = Some (Public ∷ []) } ∷ record { function = 1; binding = Some (Private 0 ∷ []) } ∷ []
unfolding call_faults call_type defined_faults
reached_twice = refl

private_instance : function_faults (within (declared_by (program_with (defines sum_template ∷ []) two_bindings)) sum_template (Private 0 ∷ []))
    sum_template ≡ []
unfolding operator_faults operator_type
private_instance = refl
