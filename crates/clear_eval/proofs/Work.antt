-- What is left to do falls with each call.
use Rattle.std.proofs.Common.{◌≡◌, ℕ, zero, suc, ◌+◌, ◌<◌, ◌≤◌, List, [], ◌∷◌, arith}
use Rattle.std.specs.Prelude.{map, sum, Some}
use Rattle.std.specs.List.{slice_get}
use Rattle.program_trees.specs.declared.typed_expression.TypedExpression.{TypedExpression}
use Rattle.program_trees.specs.declared.typed_statement.TypedStatement.{TypedStatement}
use Rattle.program_trees.specs.TypedTree.{typed_tree}
use Rattle.program_trees.specs.TypedStatements.{typed_statement}
use Rattle.program_trees.specs.TypedPrograms.{TypedFunctionTree}
use Rattle.std.proofs.lemmas.List.Sums.{sum_by-cons}
use Rattle.clear_eval.specs.declared.place.Around.{Around}
use Rattle.clear_eval.specs.inner.Measures.{weight, statement_weight, body_weight, work}
use Rattle.clear_eval.specs.inner.Views.{functions_around}

abbrev pub weight_of : TypedExpression → ℕ
weight_of e = weight (typed_tree e)

abbrev pub weight_of_statement : TypedStatement → ℕ
weight_of_statement s = statement_weight (typed_statement s)

-- what is left to do where something of this weight stands
abbrev pub work_around : Around → ℕ → ℕ
work_around around n = work (functions_around around.at) around.at.depth n

pub work_less : (fs : List TypedFunctionTree) (depth n m : ℕ) → n < m → work fs depth n < work fs depth m
unfolding work
work_less fs depth n m h = grind arith

pub falls : (around : Around) (n m : ℕ) → n < m → work_around around n < work_around around m
falls around n m h = work_less (functions_around around.at) around.at.depth n m h

one_more : (g : TypedFunctionTree) (fs : List TypedFunctionTree) → sum (map body_weight (g ∷ fs)) ≡ body_weight g + sum (map body_weight fs)
one_more g fs = sum_by-cons (λ (x : ℕ). x) (body_weight g) (map body_weight fs)

one_of : (fs : List TypedFunctionTree) (k : ℕ) (f : TypedFunctionTree) → slice_get fs k ≡ Some f → body_weight f ≤ sum (map body_weight fs)
one_of [] k f h = cc
one_of (g ∷ fs) zero f h = let same : body_weight g ≡ body_weight f = cc in let more = one_more g fs in omega arith
one_of (g ∷ fs) (suc k) f h = let least = one_of fs k f h in let more = one_more g fs in omega arith

-- the weight of a body is within what a call has more
pub body_within : (fs : List TypedFunctionTree) (k : ℕ) (f : TypedFunctionTree) → slice_get fs k ≡ Some f → body_weight f < sum (map body_weight fs) + 2
body_within fs k f h = let least = one_of fs k f h in omega arith

pub work_body : (fs : List TypedFunctionTree) (depth n : ℕ) → n < sum (map body_weight fs) + 2 → work fs depth n < work fs (depth + 1) 0
unfolding work
work_body fs depth n h = grind arith
