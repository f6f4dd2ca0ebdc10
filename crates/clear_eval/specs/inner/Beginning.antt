-- Cited by private functions alone: no contract of another crate rests on it.
-- The body of a function that is about to run.
use Rattle.std.specs.Prelude.{◌≡◌, ◌+◌, ◌<◌, List, map, sum}
use Rattle.std.specs.List.{slice_get}
use Rattle.program_trees.specs.TypedStatements.{typed_statement, typed_statements_of}
use Rattle.program_trees.specs.TypedPrograms.{typed_function_tree}
use Rattle.language_model.specs.Effects.{World, Stage, carry, done}
use Rattle.language_model.specs.Values.{Value}
use Rattle.language_model.specs.Evaluation.{Calls, execute_all, result_of, body_of}
use Rattle.clear_eval.specs.declared.beginning.Begun.{Begun}
use Rattle.clear_eval.specs.declared.beginning.Callee.{Callee}
use Rattle.clear_eval.specs.inner.Views.{frame_seen, place_seen}
use Rattle.clear_eval.specs.inner.Measures.{statements_weight, body_weight}
use Rattle.clear_eval.specs.inner.Standing.{AreSoundStatements}

pub record IsBegun (callee : Callee) (xs : List Value) (b : Begun) : Type 0 where
  pub around : b.at.here.functions.now ≡ callee.functions.now
  pub depth : b.at.depth ≡ callee.depth
  pub executes : (w : World) (calls : Calls) (s : Stage) →
      body_of w calls (map typed_function_tree callee.functions.now) (slice_get (map typed_function_tree callee.functions.now) callee.number)
      callee.binding.now xs s
      ≡ carry (execute_all w calls (place_seen b.at) (typed_statements_of (map typed_statement b.body.now.items)) (frame_seen b.frame.items) s)
      (λ g. done (result_of g))
  pub sound : AreSoundStatements b.at b.frame.items b.body.now.items
  pub lighter : statements_weight (typed_statements_of (map typed_statement b.body.now.items))
      < sum (map body_weight (map typed_function_tree callee.functions.now)) + 2
