-- The trees of the program of the workloads, worked out by hand from its text.
use Rattle.std.specs.Prelude.{ℕ, ◌+◌, true, List, [], ◌∷◌, Some, None, codes}
use Rattle.sc_text.specs.declared.span.Span.{Span}
use Rattle.program_trees.specs.declared.expression.DataType.TheVariants.{Uint64}
use Rattle.program_trees.specs.declared.expression.DataType.TheVariants as datatype
use Rattle.program_trees.specs.declared.expression.Operator.{Operator}
use Rattle.program_trees.specs.declared.expression.Operator.TheVariants as operators
use Rattle.program_trees.specs.declared.statement.Identifier.{Identifier}
use Rattle.program_trees.specs.declared.statement.DeclaredType.{DeclaredType}
use Rattle.program_trees.specs.declared.statement.Domain.TheVariants as domains
use Rattle.program_trees.specs.declared.function.ResultType.TheVariants as results
use Rattle.program_trees.specs.Tree.{Tree, variable, call, parentheses, cast, binary, declassify, argument, publish, trees_of}
use Rattle.program_trees.specs.Statements.{StatementTree, declaration, evaluation, statements_of}
use Rattle.program_trees.specs.Programs.{FunctionTree, ProgramTree, imports, domain, defines}
use Rattle.program_trees.specs.declared.kinds.SlotDomain.TheVariants.{Private}
use Rattle.program_trees.specs.declared.kinds.Slot.{Slot}
use Rattle.program_trees.specs.declared.typed_function.Returned.TheVariants.{Nothing}
use Rattle.program_trees.specs.declared.operators.OperatorSign.{OperatorSign}
use Rattle.program_trees.specs.declared.operators.OperatorSign.TheVariants as words
use Rattle.program_trees.specs.declared.operators.BinaryOperator.TheVariants.{Words}
use Rattle.program_trees.specs.declared.operators.Operands.TheVariants.{Arrays}
use Rattle.program_trees.specs.Operators.{cast_between}
use Rattle.program_trees.specs.TypedTree.{TypedTree, slot_node, sum_node, cast_node, binary_node, declassify_node}
use Rattle.program_trees.specs.TypedStatements.{TypedStatementTree, input_statement, publish_statement, typed_statements_of}
use Rattle.program_trees.specs.TypedPrograms.{TypedFunctionTree, TypedProgramTree}

-- ---- the tree

-- a place: line and column
abbrev pub at : ℕ → ℕ → Span
at line column = record { line = line; column = column }

abbrev pub named : Span → List ℕ → Identifier
named place text = record { place = place; text = text }

-- the type of the arrays, in line 2
abbrev pub array_type : (column : ℕ) → DeclaredType
array_type column = record { place = at 2 column; domain = domains.Named (named (at 2 column) (codes "p")); element = Uint64; array = true }

-- an array with its input, in line 2
abbrev pub array_from_input : (column : ℕ) → List ℕ → StatementTree
array_from_input column x =
    declaration
    (record {
      declared = array_type column;
      variable = named (at 2 (column + 14)) x;
      size = None;
      value = Some (argument (at 2 (column + 18)) x);
    })

-- the sum of an array is opened and published, in line 3
abbrev pub sum_published : (column opened summed : ℕ) → List ℕ → Tree → StatementTree
sum_published column opened summed x e =
    evaluation (publish (at 3 column) x (declassify (at 3 opened) (call (at 3 summed) (codes "sum") (trees_of (e ∷ [])))))

-- the two arrays with an operator between them, in line 3
abbrev pub a_and_b : (column : ℕ) → Operator → Tree
a_and_b column op = binary (at 3 column) op (variable (at 3 column) (codes "a")) (variable (at 3 (column + 4)) (codes "b"))

abbrev pub statements : List StatementTree
statements =
    array_from_input 15 (codes "a")
    ∷ array_from_input 48 (codes "b")
    ∷ sum_published 1 16 27 (codes "dot") (a_and_b 31 operators.Multiply)
    ∷ sum_published 41 57 68 (codes "less") (cast (at 3 72) Uint64 (parentheses (at 3 80) (a_and_b 81 operators.Less)))
    ∷ []

abbrev pub main_tree : FunctionTree
main_tree =
    record {
      variables = [];
      returned = results.Void;
      function = named (at 2 6) (codes "main");
      parameters = [];
      body = record { place = at 2 13; statements = statements_of statements };
    }

abbrev pub load_tree : ProgramTree
load_tree =
    record {
      items =
          imports (named (at 1 8) (codes "stdlib"))
          ∷ imports (named (at 1 23) (codes "shared3p"))
          ∷ domain (named (at 1 40) (codes "p")) (named (at 1 42) (codes "shared3p"))
          ∷ defines main_tree
          ∷ [];
      end = at 4 1;
    }

-- ---- the typed tree

abbrev pub array_slot : Slot
array_slot = record { domain = Private 0; shape = record { element = Uint64; array = true } }

-- the two arrays with an operator between them
abbrev pub both_slots : OperatorSign → TypedTree
both_slots op = binary_node 3 (Words op) Arrays (slot_node 0) (slot_node 1)

abbrev pub publishes_sum : List ℕ → TypedTree → TypedStatementTree
publishes_sum x e = publish_statement x (declassify_node (sum_node e))

abbrev pub main_typed : TypedFunctionTree
main_typed =
    record {
      name = codes "main";
      variables = 0;
      parameters = 0;
      slots = array_slot ∷ array_slot ∷ [];
      given = Nothing;
      body =
          typed_statements_of
          (input_statement 2 0 (codes "a")
          ∷ input_statement 2 1 (codes "b")
          ∷ publishes_sum (codes "dot") (both_slots words.Multiply)
          ∷ publishes_sum (codes "less") (cast_node (cast_between datatype.Bool Uint64) (both_slots words.Less))
          ∷ []);
      size = 22;
    }

unfoldable pub load_typed : TypedProgramTree
load_typed = record { functions = main_typed ∷ [] }
