-- What the declarations in memory stand for.
use Rattle.std.specs.Prelude.{map}
use denote.Ref.{Bor}
use Rattle.program_trees.specs.declared.function.Function.{Function}
use Rattle.program_trees.specs.Programs.{FunctionTree, function_tree}
use Rattle.declarations.specs.declared.declarations.Declarations.{Declarations}
use Rattle.declarations.specs.declared.declarations.Called.{Called}
use Rattle.declarations.specs.declared.declarations.Called.TheVariants.{BuiltIn, Defined}
use Rattle.declarations.specs.Declarations.{Declared, Callee, built_in, defined}

abbrev pub tree_at : Bor Function → FunctionTree
tree_at f = function_tree f.now

abbrev pub declared : Declarations → Declared
declared d =
    record {
      stdlib = d.stdlib;
      shared3p = d.shared3p;
      kind_declared = d.kind_declared;
      domains = d.domains;
      functions = map tree_at d.functions.items;
    }

abbrev pub callee_of : Called → Callee
callee_of (BuiltIn b) = built_in b
callee_of (Defined k f) = defined k (tree_at f)
