-- Cited by private functions alone: no contract of another crate rests on it.
-- What the structs of the resolution stand for.
use Rattle.std.specs.Prelude.{List, Box, Vec, map}
use Rattle.std.specs.declared.alloc.Global.{Global}
use denote.Ref.{Bor}
use Rattle.program_trees.specs.declared.statement.DeclaredType.{DeclaredType}
use Rattle.program_trees.specs.Programs.{FunctionTree}
use Rattle.declarations.specs.Views.{tree_at}
use Rattle.name_resolution.specs.declared.values.Valued.{Valued}
use Rattle.name_resolution.specs.declared.values.OperandMade.{OperandMade}
use Rattle.name_resolution.specs.declared.values.CallMade.{CallMade}
use Rattle.name_resolution.specs.declared.found.CalledFunctions.{CalledFunctions}
use Rattle.name_resolution.specs.declared.place.FunctionScope.{FunctionScope}
use Rattle.program_trees.specs.declared.kinds.Slot.{Slot}
use Rattle.program_trees.specs.declared.typed_statement.TypedStatement.{TypedStatement}
use Rattle.program_trees.specs.declared.typed_function.TypedFunction.{TypedFunction}
use Rattle.program_trees.specs.TypedTree.{typed_tree}
use Rattle.program_trees.specs.TypedStatements.{TypedStatementTree, TypedStatementTrees, typed_statement, typed_statements_of}
use Rattle.program_trees.specs.TypedPrograms.{TypedFunctionTree, typed_function_tree}
use Rattle.name_resolution.specs.Scopes as scopes
use Rattle.name_resolution.specs.Values.{TypedValue, TypedCall}

abbrev pub valued : Valued → TypedValue
valued v = record { tree = typed_tree v.tree; shape = v.shape }

abbrev pub operand_seen : OperandMade → TypedValue
operand_seen o = record { tree = typed_tree o.tree.value; shape = o.shape }

abbrev pub pair_seen : OperandMade × OperandMade → TypedValue × TypedValue
pair_seen p = (operand_seen p.0, operand_seen p.1)

abbrev pub values_seen : Vec Valued Global → List TypedValue
values_seen vs = map valued vs.items

abbrev pub call_seen : CallMade → TypedCall
call_seen c = record { tree = typed_tree c.tree; gives = c.gives }

abbrev pub type_at : Bor DeclaredType → DeclaredType
type_at t = t.now

abbrev pub place_seen : FunctionScope → scopes.FunctionScope
place_seen s = record { scope = s.variables; slots = map type_at s.slots.items }

abbrev pub found_seen : CalledFunctions → List FunctionTree
found_seen f = map tree_at f.functions.items

abbrev pub typed_statement_in : Box TypedStatement Global → TypedStatementTree
typed_statement_in c = typed_statement c.value

abbrev pub typed_statements_seen : Vec TypedStatement Global → TypedStatementTrees
typed_statements_seen cs = typed_statements_of (map typed_statement cs.items)

-- what is made of a piece, with the place after it
abbrev pub with_place : {A B : Type 0} → (A → B) → scopes.FunctionScope → A → B × scopes.FunctionScope
with_place view s a = (view a, s)

abbrev pub slots_seen : Vec Slot Global → List Slot
slots_seen ss = ss.items

abbrev pub functions_seen : Vec TypedFunction Global → List TypedFunctionTree
functions_seen fs = map typed_function_tree fs.items
