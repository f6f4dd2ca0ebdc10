-- Programs of the language and their typed trees, worked out by hand from the rules.
use Rattle.std.specs.Prelude.{ℕ, ◌≡◌, Bool, true, false, List, [], ◌∷◌, Option, Some, None, codes, map, refl}
use Rattle.sc_text.specs.declared.span.Span.{Span}
use Rattle.program_trees.specs.declared.expression.DataType.{DataType}
use Rattle.program_trees.specs.declared.expression.DataType.TheVariants as datatype
use Rattle.program_trees.specs.declared.expression.Operator.TheVariants.{Add, Multiply, AndAlso}
use Rattle.program_trees.specs.declared.statement.Domain.{Domain}
use Rattle.program_trees.specs.declared.statement.Domain.TheVariants as domain
use Rattle.program_trees.specs.declared.statement.Identifier.{Identifier}
use Rattle.program_trees.specs.declared.statement.DeclaredType.{DeclaredType}
use Rattle.program_trees.specs.declared.function.ResultType.TheVariants as result
use Rattle.program_trees.specs.Tree.{Tree, number, truth, variable, call, binary, declassify, argument, publish, trees_of}
use Rattle.program_trees.specs.Statements.{StatementTree, block, returns, declaration, assignment, evaluation, statements_of}
use Rattle.program_trees.specs.Programs.{FunctionTree, imports, domain as domains_item, defines, ProgramTree}
use Rattle.program_trees.specs.declared.kinds.SlotDomain.TheVariants.{Public, Private, Variable}
use Rattle.program_trees.specs.declared.kinds.SlotDomain.{SlotDomain}
use Rattle.program_trees.specs.declared.kinds.Slot.{Slot}
use Rattle.program_trees.specs.declared.typed_function.Returned.TheVariants.{Nothing, Value}
use Rattle.program_trees.specs.declared.operators.OperatorSign.TheVariants as word
use Rattle.program_trees.specs.declared.operators.BoolOperator.TheVariants as bool
use Rattle.program_trees.specs.declared.operators.BinaryOperator.TheVariants.{Words, Bools}
use Rattle.program_trees.specs.declared.operators.Operands.TheVariants.{Scalars, ArrayAndScalar}
use Rattle.program_trees.specs.declared.operators.Connective.TheVariants as connective
use Rattle.program_trees.specs.TypedTree.{word_node, truth_node, slot_node, call_node, binary_node, cut_node, declassify_node, typed_trees_of}
use Rattle.program_trees.specs.TypedStatements.{TypedStatementTree, block_statement, return_statement, default_statement, store_statement, input_statement}
use Rattle.program_trees.specs.TypedStatements.{publish_statement, evaluate_statement, typed_statements_of}
use Rattle.program_trees.specs.TypedPrograms.{TypedFunctionTree, TypedProgramTree}
use Rattle.name_resolution.specs.Functions.{typed_of}

abbrev at : ℕ → Span
at l = record { line = l; column = 1 }

abbrev named : List ℕ → Identifier
named x = record { place = at 2; text = x }

abbrev scalar_in : Domain → DataType → DeclaredType
scalar_in d element = record { place = at 2; domain = d; element = element; array = false }

abbrev in_p : Domain
in_p = domain.Named (named (codes "p"))

abbrev in_d : Domain
in_d = domain.Named (named (codes "D"))

abbrev declares : DeclaredType → List ℕ → Option Tree → StatementTree
declares t x value = declaration (record { declared = t; variable = named x; size = None; value = value })

abbrev read : List ℕ → Tree
read x = variable (at 2) x

-- `void main() { .. }`
abbrev main_with : List StatementTree → FunctionTree
main_with ss =
    record {
      variables = [];
      returned = result.Void;
      function = named (codes "main");
      parameters = [];
      body = record { place = at 1; statements = statements_of ss };
    }

-- `import shared3p; domain p shared3p;` and these functions
abbrev program_of : List FunctionTree → ProgramTree
program_of fs =
    record { items = imports (named (codes "shared3p")) ∷ domains_item (named (codes "p")) (named (codes "shared3p")) ∷ map defines fs; end = at 3 }

abbrev slot : SlotDomain → DataType → Bool → Slot
slot d element array = record { domain = d; shape = record { element = element; array = array } }

abbrev typed_main : List Slot → List TypedStatementTree → ℕ → TypedFunctionTree
typed_main slots body size =
    record { name = codes "main"; variables = 0; parameters = 0; slots = slots; given = Nothing; body = typed_statements_of body; size = size }

abbrev program : List TypedFunctionTree → Option TypedProgramTree
program fs = Some (record { functions = fs })

-- p uint64 a = argument("a"); publish("c", declassify(a * a));
product : typed_of (program_of
    (main_with (declares (scalar_in in_p datatype.Uint64) (codes "a") (Some (argument (at 2) (codes "a")))
    ∷ evaluation (publish (at 2) (codes "c") (declassify (at 2) (binary (at 2) Multiply (read (codes "a")) (read (codes "a"))))) ∷ []) ∷ []))
    ≡ program (typed_main (slot (Private 0) datatype.Uint64 false ∷ [])
    (input_statement 2 0 (codes "a")
    ∷ publish_statement (codes "c") (declassify_node (binary_node 2 (Words word.Multiply) Scalars (slot_node 0) (slot_node 0))) ∷ []) 10 ∷ [])
product = refl

-- uint64 x; { bool x = true; publish("i", x && x); } x = x + x;
hiding : typed_of (program_of
    (main_with (declares (scalar_in domain.Public datatype.Uint64) (codes "x") None
    ∷ block (at 2) (statements_of
    (declares (scalar_in domain.Public datatype.Bool) (codes "x") (Some (truth (at 2) true))
    ∷ evaluation (publish (at 2) (codes "i") (binary (at 2) AndAlso (read (codes "x")) (read (codes "x")))) ∷ []))
    ∷ assignment (record {
      target = record { variable = named (codes "x"); index = None };
      value =
          binary (at 2) Add (read (codes "x")) (read (codes "x"));
    }) ∷ []) ∷ []))
    ≡ program (typed_main (slot Public datatype.Uint64 false ∷ slot Public datatype.Bool false ∷ [])
    (default_statement 0 ∷ block_statement
    (typed_statements_of (store_statement 1 (truth_node true) ∷ publish_statement (codes "i") (cut_node connective.AndAlso (slot_node 1) (slot_node 1)) ∷ []))
    ∷ store_statement 0 (binary_node 2 (Words word.Add) Scalars (slot_node 0) (slot_node 0)) ∷ []) 16 ∷ [])
hiding = refl

-- bool[[1]] b; b && true: between an array and a scalar nothing is cut short
both_read : typed_of (program_of
    (main_with (declares (record { place = at 2; domain = domain.Public; element = datatype.Bool; array = true }) (codes "b") None
    ∷ evaluation (binary (at 2) AndAlso (read (codes "b")) (truth (at 2) true)) ∷ []) ∷ []))
    ≡ program (typed_main (slot Public datatype.Bool true ∷ [])
    (default_statement 0 ∷ evaluate_statement (binary_node 2 (Bools bool.And) ArrayAndScalar (slot_node 0) (truth_node true)) ∷ []) 7 ∷ [])
both_read = refl

-- template <domain D> D uint64 f(D uint64 x) { return x; }
abbrev template : List ℕ → FunctionTree
template f =
    record {
      variables = record { variable = named (codes "D"); kind = None } ∷ [];
      returned = result.Value (scalar_in in_d datatype.Uint64);
      function = named f;
      parameters = record { declared = scalar_in in_d datatype.Uint64; variable = named (codes "x") } ∷ [];
      body = record { place = at 2; statements = statements_of (returns (at 2) (Some (read (codes "x"))) ∷ []) };
    }

abbrev typed_template : List ℕ → TypedFunctionTree
typed_template f =
    record {
      name = f;
      variables = 1;
      parameters = 1;
      slots = slot (Variable 0) datatype.Uint64 false ∷ [];
      given = Value (slot (Variable 0) datatype.Uint64 false);
      body = typed_statements_of (return_statement (Some (slot_node 0)) ∷ []);
      size = 5;
    }

abbrev calls : List ℕ → Tree → Tree
calls f e = call (at 2) f (trees_of (e ∷ []))

-- g(f(1)); f(2); with g before f in the text, and h that nothing calls: f is called first, and each stands there once
first_called : typed_of (program_of
    (template (codes "g") ∷ template (codes "f") ∷ template (codes "h")
    ∷ main_with (evaluation (calls (codes "g") (calls (codes "f") (number (at 2) 1))) ∷ evaluation (calls (codes "f") (number (at 2) 2)) ∷ []) ∷ []))
    ≡ program (typed_main []
    (evaluate_statement (call_node 2 2 (typed_trees_of (call_node 2 1 (typed_trees_of (word_node 1 ∷ [])) ∷ [])))
    ∷ evaluate_statement (call_node 2 1 (typed_trees_of (word_node 2 ∷ []))) ∷ []) 9 ∷ typed_template (codes "f") ∷ typed_template (codes "g") ∷ [])
first_called = refl

-- x; where nothing declares x
unknown : typed_of (program_of (main_with (evaluation (read (codes "x")) ∷ []) ∷ [])) ≡ None
unknown = refl
