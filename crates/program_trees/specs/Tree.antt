-- What a tree in memory is as a value: the same tree without pointers.
use Rattle.std.specs.Prelude.{ℕ, Bool, List, [], ◌∷◌}
use Rattle.sc_text.specs.declared.span.Span.{Span}
use Rattle.program_trees.specs.declared.expression.DataType.{DataType}
use Rattle.program_trees.specs.declared.expression.Operator.{Operator}
use Rattle.program_trees.specs.declared.expression.Expression.{Expression}
use Rattle.program_trees.specs.declared.expression.Expression.TheOpen.{Expression-F, Number, Truth, Variable, Call, Index, Parentheses, Not, Cast}
use Rattle.program_trees.specs.declared.expression.Expression.TheOpen.{Binary, Declassify, Argument, Publish}
use Rattle.program_trees.specs.declared.expression.Expression.TheFolds.{fold-Expression}

mutual
  pub data Tree : Type 0 where
    number : (place : Span) → (word : ℕ) → Tree
    truth : (place : Span) → Bool → Tree
    variable : (place : Span) → (text : List ℕ) → Tree
    call : (place : Span) → (text : List ℕ) → Trees → Tree
    index : (place : Span) → (array position : Tree) → Tree
    parentheses : (place : Span) → Tree → Tree
    negation : (place : Span) → Tree → Tree
    cast : (place : Span) → DataType → Tree → Tree
    binary : (place : Span) → Operator → (left right : Tree) → Tree
    declassify : (place : Span) → Tree → Tree
    argument : (place : Span) → (text : List ℕ) → Tree
    publish : (place : Span) → (text : List ℕ) → Tree → Tree

  pub data Trees : Type 0 where
    none : Trees
    also : Tree → Trees → Trees

-- the trees of a list, as the tree of a call holds them
abbrev pub trees_of : List Tree → Trees
trees_of [] = none
trees_of (t ∷ ts) = also t (trees_of ts)

-- one node, with the trees of its children in their places
abbrev pub layer : Expression-F Tree → Tree
layer (Number place word) = number place word
layer (Truth place b) = truth place b
layer (Variable place text) = variable place text
layer (Call place text es) = call place text (trees_of es.items)
layer (Index place a i) = index place a.value i.value
layer (Parentheses place e) = parentheses place e.value
layer (Not place e) = negation place e.value
layer (Cast place t e) = cast place t e.value
layer (Binary place op a b) = binary place op a.value b.value
layer (Declassify place e) = declassify place e.value
layer (Argument place text) = argument place text
layer (Publish place text e) = publish place text e.value

abbrev pub expression : Expression → Tree
expression = fold-Expression Tree layer
