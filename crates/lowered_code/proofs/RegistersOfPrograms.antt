-- The functions of a program within its limits have few registers.
use Rattle.std.proofs.Common.{◌≡◌, ℕ, zero, suc, ◌+◌, ◌*◌, ◌<◌, ◌≤◌, List, [], ◌∷◌, ◌++◌, length, map, Option, Some, None, Bool, true, false, refl, sym, ap}
use Rattle.std.proofs.Common.{◌∙◌}
use Rattle.std.proofs.Common.{subst, arith, length-append}
use Rattle.std.specs.Prelude.{slice_get, nat_le}
use Rattle.std.proofs.lemmas.Bool.{leb-true, leb-false}
use Rattle.std.proofs.lemmas.List.{length-map}
use Rattle.std.proofs.Math.Nat.{min-eq_left, min-eq_right}
use Rattle.program_trees.specs.declared.function.Parameter.{Parameter}
use Rattle.program_trees.specs.Programs.{FunctionTree, ProgramTree}
use Rattle.domain_types.specs.Declarations.{Declared, declared_by}
use Rattle.program_trees.specs.declared.kinds.Slot.{Slot}
use Rattle.program_trees.specs.declared.typed_function.Returned.{Returned}
use Rattle.program_trees.specs.declared.typed_function.Returned.TheVariants.{Nothing, Value}
use Rattle.program_trees.specs.TypedPrograms.{TypedFunctionTree, TypedProgramTree}
use Rattle.name_resolution.specs.Values.{and_more}
use Rattle.name_resolution.specs.Functions.{slots_written, given_back, with_parameters, function_made, function_from, function_behind, typed_function}
use Rattle.name_resolution.specs.Functions.{typed_functions, program_of, typed_of}
use Rattle.name_resolution.specs.Order.{reached}
use Rattle.name_resolution.specs.Bodies.{resolved_all}
use Rattle.name_resolution.specs.Scopes.{FunctionScope, no_place, declaring}
use Rattle.name_resolution.specs.Sizes.{statements_nodes, function_nodes, counted, size_of}
use Rattle.name_resolution.proofs.SoundValues.{mapped, both_there, then_there, some_is}
use Rattle.reached_instances.specs.declared.instance.BoundDomain.{BoundDomain}
use Rattle.reached_instances.specs.Instances.{Instance}
use Rattle.verified_code.specs.Steps.{Function}
use Rattle.code_model.specs.Kinds.{slot_kind, rows_kinds}
use Rattle.code_model.specs.Expressions.{Numbers}
use Rattle.code_model.specs.Statements.{defaults_behind, statements_depth}
use Rattle.code_model.specs.Programs.{last_kinds, function_code, numbers_in, code_of_found, instance_code, code_of}
use Rattle.code_model.specs.Instructions.{nowhere}
use Rattle.code_model.proofs.Passing.{unmapped}
use Rattle.well_typed.proofs.Calling.{known_in}
use Rattle.well_typed.proofs.SlotsWritten.{slots_count}
use Rattle.lowered_code.specs.Laws.{AreSmall, HasNumberedRegisters}
use Rattle.lowered_code.proofs.Standing.{found_among}
use Rattle.code_model.proofs.Widths.{statements_width, rows_length, statements_deep}
use Rattle.lowered_code.proofs.RegistersOfBodies.{statements_take}

-- ---- FUNCTIONS

parameter_slots : (ps : List Parameter) (s : FunctionScope) → length (with_parameters ps s).slots ≡ length ps + length s.slots
parameter_slots [] s = omega arith
parameter_slots (p ∷ ps) s =
    let rest = parameter_slots ps (declaring p.variable p.declared s) in
    let more = length-append s.slots (p.declared ∷ []) in
    omega (arith, rest, more)

-- registers of the body and slots, beside the nodes of the function as it is written
pub record IsSized (f : FunctionTree) (t : TypedFunctionTree) : Type 0 where
  pub registers : statements_width t.body + length t.slots ≤ statements_nodes f.body.statements + statements_nodes f.body.statements + length f.parameters
  pub size : t.size ≡ size_of f

pub function_sized : (d : Declared) (f : FunctionTree) (t : TypedFunctionTree) → typed_function d f ≡ Some t → IsSized f t
function_sized d f t e =
    let start = with_parameters f.parameters no_place in
    let r = then_there (function_behind d f) (resolved_all d f.body.statements start) t e in
    let m = both_there (function_from f r.part.0) (slots_written d f.variables r.part.1.slots) (given_back d f.variables f.returned) t r.is in
    let takes = (statements_take d f.body.statements).from start r.part.0 r.part.1 r.there in
    let many = slots_count d f.variables r.part.1.slots m.left m.left_there in
    let first = parameter_slots f.parameters no_place in
    let fine : statements_width r.part.0 + length m.left
    ≤ statements_nodes f.body.statements + statements_nodes f.body.statements + length f.parameters = omega (arith, takes, many, first) in
    subst (IsSized f) (some_is (function_made f r.part.0 m.left m.right) t m.is) (record { registers = fine; size = refl })

-- the function that a typed one is of
typed_at : (d : Declared) (fs : List FunctionTree) (ts : List TypedFunctionTree) → typed_functions d fs ≡ Some ts → (k : ℕ) (t : TypedFunctionTree)
    → slice_get ts k ≡ Some t → (f : FunctionTree) × (typed_function d f ≡ Some t)
typed_at d [] ts e k t there = let n : [] ≡ ts = cc in nothing k (ap (λ z. slice_get z k) n ∙ there)
  where
    nothing : (k : ℕ) → slice_get [] k ≡ Some t → (f : FunctionTree) × (typed_function d f ≡ Some t)
    nothing k h = cc
typed_at d (f ∷ fs) ts e k t there =
    let m = both_there and_more (typed_function d f) (typed_functions d fs) ts e in
    let same : m.left ∷ m.right ≡ ts = some_is (m.left ∷ m.right) ts m.is in
    go m.left m.right m.left_there m.right_there k (ap (λ z. slice_get z k) same ∙ there) (λ us g j there. typed_at d fs us g j t there)
  where
    go : (u : TypedFunctionTree) (us : List TypedFunctionTree) → typed_function d f ≡ Some u → typed_functions d fs ≡ Some us → (k : ℕ)
        → slice_get (u ∷ us) k ≡ Some t
        → ((us : List TypedFunctionTree) → typed_functions d fs ≡ Some us → (j : ℕ) → slice_get us j ≡ Some t
        → (f : FunctionTree) × (typed_function d f ≡ Some t))
        → (f : FunctionTree) × (typed_function d f ≡ Some t)
    go u us g h zero there rest = (f, g ∙ there)
    go u us g h (suc j) there rest = rest us h j there

-- likewise in a program
pub written_at : (source : ProgramTree) (p : TypedProgramTree) → typed_of source ≡ Some p → (k : ℕ) (t : TypedFunctionTree)
    → slice_get p.functions k ≡ Some t → (f : FunctionTree) × (typed_function (known_in source) f ≡ Some t)
written_at source p resolved k t e =
    let m = mapped program_of (typed_functions (known_in source) (reached (declared_by source))) p resolved in
    let same : p.functions ≡ m.part = sym (ap (λ (z : TypedProgramTree). z.functions) m.is) in
    typed_at (known_in source) (reached (declared_by source)) m.part m.there k t (sym (ap (λ z. slice_get z k) same) ∙ e)

-- ---- REGISTERS

few_defaults : (ss : List Slot) → length (defaults_behind ss) ≤ 6
few_defaults [] = omega arith
few_defaults (s ∷ ss) = omega arith

one_last : (b : List BoundDomain) (g : Returned) → length (last_kinds b g) ≤ 1
one_last b Nothing = omega arith
one_last b (Value s) = omega arith

pub own_registers : (number : Numbers) (fs : List TypedFunctionTree) (f : TypedFunctionTree) (b : List BoundDomain) → length (function_code number fs f b).kinds
    ≤ 12 * statements_depth f.body + length f.slots + 7
own_registers number fs f b =
    let slots = map (slot_kind b) f.slots in
    let body = rows_kinds (statements_depth f.body) in
    let last = last_kinds b f.given in
    let n1 = length-append slots (defaults_behind f.slots ++ (body ++ last)) in
    let n2 = length-append (defaults_behind f.slots) (body ++ last) in
    let n3 = length-append body last in
    let m1 = length-map f.slots (slot_kind b) in
    let m2 = few_defaults f.slots in
    let m3 = rows_length (statements_depth f.body) in
    let m4 = one_last b f.given in
    omega (arith, n1, n2, n3, m1, m2, m3, m4)

-- a smaller number than the largest is counted in full
pub uncounted : (n : ℕ) → counted n < 4294967295 → counted n ≡ n
uncounted n h = go (nat_le n 4294967295) refl
  where
    go : (b : Bool) → nat_le n 4294967295 ≡ b → counted n ≡ n
    go true e = min-eq_left (leb-true n 4294967295 e)
    go false e = absurd (let l = leb-false n 4294967295 e in large l)
      where
        large : 4294967296 ≤ n → ⊥
        large l = let same = min-eq_right (let k : 4294967295 ≤ n = omega (arith, l) in k) in omega (arith, same, h)

sized_few : (f : FunctionTree) (t : TypedFunctionTree) → IsSized f t → t.size ≤ 4095 → 12 * statements_depth t.body + length t.slots + 7 ≤ nowhere
sized_few f t s h =
    let size = s.size in
    let own : counted (function_nodes f) ≤ 4095 = subst (λ n. n ≤ 4095) size h in
    let same = uncounted (function_nodes f) (omega (arith, own)) in
    let registers = s.registers in
    let deep = statements_deep t.body in
    omega (arith, own, same, registers, deep)

pub small_numbered : (source : ProgramTree) (p : TypedProgramTree) → typed_of source ≡ Some p → (is : List Instance) → AreSmall p is
    → HasNumberedRegisters (code_of p is)
small_numbered source p resolved is small f there =
    let x = unmapped (instance_code p.functions (numbers_in is)) is there.0 f there.1 in
    subst (λ (g : Function). length g.kinds ≤ nowhere) x.2 (go x.0 (slice_get p.functions x.0.function) refl (small x.0 (found_among is there.0 x.0 x.1)))
  where
    go : (i : Instance) (o : Option TypedFunctionTree) → slice_get p.functions i.function ≡ o
        → ((t : TypedFunctionTree) → slice_get p.functions i.function ≡ Some t → t.size ≤ 4095)
        → length (code_of_found (numbers_in is) p.functions i.binding o).kinds ≤ nowhere
    go i None e h = omega arith
    go i (Some t) e h =
        let w = written_at source p resolved i.function t e in
        let few = sized_few w.0 t (function_sized (known_in source) w.0 t w.1) (h t e) in
        let own = own_registers (numbers_in is) p.functions t i.binding in
        omega (arith, few, own)
