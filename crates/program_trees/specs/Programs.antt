-- Functions and programs as values: the same trees without pointers.
use Rattle.std.specs.Prelude.{List, map}
use Rattle.sc_text.specs.declared.span.Span.{Span}
use Rattle.program_trees.specs.declared.statement.Identifier.{Identifier}
use Rattle.program_trees.specs.declared.function.DomainVariable.{DomainVariable}
use Rattle.program_trees.specs.declared.function.Parameter.{Parameter}
use Rattle.program_trees.specs.declared.function.ResultType.{ResultType}
use Rattle.program_trees.specs.declared.function.Block.{Block}
use Rattle.program_trees.specs.declared.function.Function.{Function}
use Rattle.program_trees.specs.declared.program.Item.{Item}
use Rattle.program_trees.specs.declared.program.Item.TheVariants as Item'
use Rattle.program_trees.specs.declared.program.Program.{Program}
use Rattle.program_trees.specs.Statements.{StatementTrees, statement, statements_of}

pub record BlockTree : Type 0 where
  pub place : Span
  pub statements : StatementTrees

pub record FunctionTree : Type 0 where
  pub variables : List DomainVariable
  pub returned : ResultType
  pub function : Identifier
  pub parameters : List Parameter
  pub body : BlockTree

pub data ItemTree : Type 0 where
  imports : Identifier → ItemTree
  kind : Identifier → ItemTree
  domain : (declared kind_named : Identifier) → ItemTree
  defines : FunctionTree → ItemTree

pub record ProgramTree : Type 0 where
  pub items : List ItemTree
  pub end : Span

abbrev pub block_tree : Block → BlockTree
block_tree b = record { place = b.place; statements = statements_of (map statement b.statements.items) }

abbrev pub function_tree : Function → FunctionTree
function_tree f =
    record {
      variables = f.variables.items;
      returned = f.result;
      function = f.function;
      parameters = f.parameters.items;
      body = block_tree f.body;
    }

abbrev pub item_tree : Item → ItemTree
item_tree (Item'.Import x) = imports x
item_tree (Item'.Kind x) = kind x
item_tree (Item'.Domain x k) = domain x k
item_tree (Item'.Function f) = defines (function_tree f)

abbrev pub program_tree : Program → ProgramTree
program_tree p = record { items = map item_tree p.items.items; end = p.end }
