-- Typed functions and programs as values: the same trees without pointers.
use Rattle.std.specs.Prelude.{ℕ, List, map}
use Rattle.program_trees.specs.declared.kinds.Slot.{Slot}
use Rattle.program_trees.specs.declared.typed_function.Returned.{Returned}
use Rattle.program_trees.specs.declared.typed_function.TypedFunction.{TypedFunction}
use Rattle.program_trees.specs.declared.typed_function.TypedProgram.{TypedProgram}
use Rattle.program_trees.specs.TypedStatements.{TypedStatementTrees, typed_statement, typed_statements_of}

pub record TypedFunctionTree : Type 0 where
  pub name : List ℕ
  pub variables : ℕ
  pub parameters : ℕ
  pub slots : List Slot
  pub given : Returned
  pub body : TypedStatementTrees
  pub size : ℕ

pub record TypedProgramTree : Type 0 where
  pub functions : List TypedFunctionTree

abbrev pub typed_function_tree : TypedFunction → TypedFunctionTree
typed_function_tree f =
    record {
      name = f.name;
      variables = f.variables;
      parameters = f.parameters;
      slots = f.slots.items;
      given = f.given;
      body = typed_statements_of (map typed_statement f.body.items);
      size = f.size;
    }

abbrev pub typed_program_tree : TypedProgram → TypedProgramTree
typed_program_tree p = record { functions = map typed_function_tree p.functions.items }
