-- The code of a typed function under a binding, and of a program.
use Rattle.std.specs.Prelude.{ℕ, ◌+◌, ◌*◌, List, [], ◌∷◌, ◌++◌, length, map, Option, Some, None, option_to_list, if◌then◌else◌}
use Rattle.std.specs.List.{slice_get}
use Rattle.program_trees.specs.declared.typed_function.Returned.{Returned}
use Rattle.program_trees.specs.declared.typed_function.Returned.TheVariants as given
use Rattle.program_trees.specs.TypedPrograms.{TypedFunctionTree, TypedProgramTree}
use Rattle.reached_instances.specs.declared.instance.BoundDomain.{BoundDomain}
use Rattle.reached_instances.specs.Instances.{Instance, same_instance}
use Rattle.blind_evaluation.specs.Evaluation.{place_in}
use Rattle.bytecode.specs.declared.kind.Kind.{Kind}
use Rattle.verified_code.specs.Steps.{Step, Return, ReturnNone, Function}
pub use Rattle.code_model.specs.Machine.{nothing_code}
use Rattle.code_model.specs.Kinds.{slot_kind, rows_kinds}
use Rattle.code_model.specs.Expressions.{Numbers}
use Rattle.code_model.specs.Statements.{defaults_behind, first_free, statements_depth, statements_code}

abbrev pub given_kind : List BoundDomain → Returned → Option Kind
given_kind b given.Nothing = None
given_kind b (given.Value s) = Some (slot_kind b s)

-- a body that falls off its end gives nothing back. Where something is wanted it never does: its last step would return a register of
-- this kind that no step writes, which is the last one
abbrev pub last_kinds : List BoundDomain → Returned → List Kind
last_kinds b g = option_to_list (given_kind b g)

abbrev pub last_step : Returned → (r : ℕ) → Step
last_step given.Nothing r = ReturnNone
last_step (given.Value s) r = Return r

module _ (number : Numbers) (fs : List TypedFunctionTree) where
  -- where the body ends
  abbrev pub body_end : TypedFunctionTree → List BoundDomain → ℕ
  body_end f b = length (statements_code number (place_in fs f b) (first_free f.slots) 0 0 0 f.body)

  -- its slots are the first registers; a break outside of a loop would lead after the body
  abbrev pub function_code : TypedFunctionTree → List BoundDomain → Function
  function_code f b =
      record {
        parameters = f.parameters;
        gives = given_kind b f.given;
        kinds = map (slot_kind b) f.slots ++ (defaults_behind f.slots ++ (rows_kinds (statements_depth f.body) ++ last_kinds b f.given));
        steps = statements_code number (place_in fs f b) (first_free f.slots) (body_end f b) (body_end f b) 0 f.body
            ++ last_step f.given (first_free f.slots + 12 * statements_depth f.body) ∷ [];
      }

-- ---- PROGRAMS

-- the place of an instance in a list
abbrev pub place_of : Instance → List Instance → ℕ
place_of i [] = 0
place_of i (j ∷ js) = if same_instance i j then 0 else place_of i js + 1

abbrev pub numbers_in : List Instance → Numbers
numbers_in is k b = place_of (record { function = k; binding = b }) is

-- where the function isn't there, which is so for no reached instance, its code is empty
abbrev pub code_of_found : Numbers → List TypedFunctionTree → List BoundDomain → Option TypedFunctionTree → Function
code_of_found number fs b None = nothing_code
code_of_found number fs b (Some f) = function_code number fs f b

abbrev pub instance_code : List TypedFunctionTree → Numbers → Instance → Function
instance_code fs number i = code_of_found number fs i.binding (slice_get fs i.function)

-- a function for each instance of the list, in its order
abbrev pub code_of : TypedProgramTree → List Instance → List Function
code_of p is = map (instance_code p.functions (numbers_in is)) is
