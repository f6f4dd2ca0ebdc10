-- A function's code has at most as many instructions and registers as its weight.
use Rattle.std.proofs.Common.{◌≡◌, ℕ, ◌+◌, ◌*◌, ◌<◌, ◌≤◌, List, [], ◌∷◌, length, map, Option, Some, None, refl, subst, arith}
use Rattle.std.specs.Prelude.{slice_get}
use Rattle.std.specs.Option.{option_map_or}
use Rattle.std.proofs.lemmas.List.{length-map}
use Rattle.program_trees.specs.Programs.{FunctionTree, ProgramTree}
use Rattle.domain_types.specs.Declarations.{Declared}
use Rattle.program_trees.specs.TypedPrograms.{TypedFunctionTree, TypedProgramTree}
use Rattle.name_resolution.specs.Sizes.{function_nodes, counted}
use Rattle.name_resolution.specs.Functions.{typed_function, typed_of}
use Rattle.reached_instances.specs.declared.instance.BoundDomain.{BoundDomain}
use Rattle.reached_instances.specs.Instances.{Instance}
use Rattle.reached_instances.specs.Limits.{sizes}
use Rattle.code_model.specs.Expressions.{Numbers}
use Rattle.code_model.specs.Statements.{statements_depth}
use Rattle.code_model.proofs.Widths.{statements_width, statements_deep}
use Rattle.code_model.specs.Programs.{function_code, numbers_in, code_of_found, instance_code, code_of}
use Rattle.lowered_code.specs.Instructions.{instruction, raw_function, names_of}
use Rattle.written_code.proofs.Calling.{known_in}
use Rattle.lowered_code.proofs.RegistersOfPrograms.{function_sized, written_at, own_registers, uncounted}
use Rattle.written_code.specs.WritingLaws.{IsWithinWeight, AreWithinWeight, IsWithinWeightWhereTyped}
use Rattle.written_code.proofs.Counts.{counts}
use Rattle.written_code.proofs.Counting.{AllAtMost, statements_counted}
use Rattle.written_code.proofs.Lengths.{two, function_short}
use Rattle.written_code.proofs.Making.{body_made}

-- ---- FUNCTIONS

-- so much is told of a typed function of this size
pub record IsModest (size : ℕ) (t : TypedFunctionTree) : Type 0 where
  pub steps : two (statements_width t.body) + two (counts t.body) + 1 ≤ 6 * size
  pub typed_statements : counts t.body + 2 ≤ size
  pub registers : 12 * statements_depth t.body + length t.slots + 7 ≤ 16 * size

pub function_modest : (d : Declared) (f : FunctionTree) (t : TypedFunctionTree) → typed_function d f ≡ Some t → t.size < 4294967295 → IsModest t.size t
function_modest d f t e full =
    let sized = function_sized d f t e in
    let size = sized.size in
    let registers = sized.registers in
    let own : counted (function_nodes f) < 4294967295 = subst (λ n. n < 4294967295) size full in
    let same = uncounted (function_nodes f) own in
    let deep = statements_deep t.body in
    let many = body_made (AllAtMost _) d f t (statements_counted d f.body.statements) e in
    record {
      steps = omega (arith, size, same, registers, many);
      typed_statements = omega (arith, size, same, many);
      registers = omega (arith, size, same, registers, deep);
    }

function_within : (number : Numbers) (fs : List TypedFunctionTree) (names : List (List ℕ)) (f : TypedFunctionTree) (b : List BoundDomain)
    → IsModest f.size f → IsWithinWeight f.size (raw_function names (function_code number fs f b))
function_within number fs names f b h =
    let short = function_short number fs f b in
    let most = short.steps in
    let own = own_registers number fs f b in
    let many = length-map (function_code number fs f b).steps (instruction names) in
    let steps = h.steps in
    let registers = h.registers in
    record { instructions = omega (arith, most, many, steps); registers = omega (arith, own, registers) }

-- ---- PROGRAMS

module _ (source : ProgramTree) (p : TypedProgramTree) (resolved : typed_of source ≡ Some p) (is : List Instance) (names : List (List ℕ)) where
  found_within : (i : Instance) (o : Option TypedFunctionTree) → slice_get p.functions i.function ≡ o → option_map_or (λ f. f.size) o 0 < 4294967295
      → IsWithinWeight (option_map_or (λ f. f.size) o 0) (raw_function names (code_of_found (numbers_in is) p.functions i.binding o))
  found_within i None there full = record { instructions = omega arith; registers = omega arith }
  found_within i (Some t) there full =
      let w = written_at source p resolved i.function t there in
      function_within (numbers_in is) p.functions names t i.binding (function_modest (known_in source) w.0 t w.1 full)

  instances_within : (js : List Instance) → AreWithinWeight (sizes p js) (map (raw_function names) (map (instance_code p.functions (numbers_in is)) js))
  instances_within [] = tt
  instances_within (j ∷ js) =
      (λ full. found_within j (slice_get p.functions j.function) refl (omega (arith, full)), instances_within js)

pub within_weight : (source : ProgramTree) → IsWithinWeightWhereTyped source
within_weight source p resolved is = instances_within source p resolved is (names_of (code_of p is)) is
