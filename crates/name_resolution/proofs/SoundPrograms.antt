-- The typed tree of a program names only what is there.
use Rattle.std.proofs.Common.{◌≡◌, ◌+◌, ◌≤◌, List, [], ◌∷◌, length, refl, sym, ap, ◌∙◌, subst, Some, arith}
use Rattle.std.specs.Prelude.{map}
use Rattle.std.proofs.lemmas.List.{length-append}
use Rattle.program_trees.specs.declared.statement.DeclaredType.{DeclaredType}
use Rattle.program_trees.specs.declared.function.DomainVariable.{DomainVariable}
use Rattle.program_trees.specs.declared.function.Parameter.{Parameter}
use Rattle.program_trees.specs.Programs.{FunctionTree, ProgramTree}
use Rattle.declarations.specs.Declarations.{Declared, declared_by}
use Rattle.program_trees.specs.declared.kinds.Slot.{Slot}
use Rattle.name_resolution.specs.Scopes.{FunctionScope, no_place, declaring}
use Rattle.name_resolution.specs.Bodies.{resolved_all}
use Rattle.program_trees.specs.TypedPrograms.{TypedFunctionTree, TypedProgramTree}
use Rattle.name_resolution.specs.Order.{reached}
use Rattle.name_resolution.specs.Values.{and_more}
use Rattle.name_resolution.specs.Functions.{slot_written, slots_written, given_back, with_parameters, function_from, function_made}
use Rattle.name_resolution.specs.Functions.{function_behind, typed_function, typed_functions, with_functions, program_of, typed_of}
use Rattle.program_trees.specs.Sound.{parameters_of, IsSoundFunction, AreSoundFunctions, IsSound}
use Rattle.name_resolution.proofs.SoundValues.{mapped, both_there, then_there, some_is, arity, arities}
use Rattle.name_resolution.proofs.SoundBodies.{IsPlace, declaring_place, resolved_all_yields}

slots_count : (d : Declared) (vs : List DomainVariable) (ts : List DeclaredType) (ss : List Slot) → slots_written d vs ts ≡ Some ss → length ss ≡ length ts
slots_count d vs [] ss e = ap length (sym (some_is [] ss e))
slots_count d vs (t ∷ ts) ss e =
    let m = both_there and_more (slot_written d vs t) (slots_written d vs ts) ss e in
    let rest = slots_count d vs ts m.right m.right_there in
    let all = ap length (some_is (m.left ∷ m.right) ss m.is) in
    omega arith

-- the parameters take the first slots
parameters_place : (ps : List Parameter) (s : FunctionScope) → IsPlace s → IsPlace (with_parameters ps s)
parameters_place [] s is = is
parameters_place (p ∷ ps) s is = parameters_place ps (declaring p.variable p.declared s) (declaring_place p.variable p.declared s is)

parameters_count : (ps : List Parameter) (s : FunctionScope) → length (with_parameters ps s).slots ≡ length s.slots + length ps
parameters_count [] s = omega arith
parameters_count (p ∷ ps) s =
    let more = length-append s.slots (p.declared ∷ []) in
    let rest = parameters_count ps (declaring p.variable p.declared s) in
    omega arith

pub sound_function : (d : Declared) (f : FunctionTree) (t : TypedFunctionTree) → typed_function d f ≡ Some t
    → IsSoundFunction (arities d) t × (t.parameters ≡ arity f)
sound_function d f t e =
    let start = with_parameters f.parameters no_place in
    let r = then_there (function_behind d f) (resolved_all d f.body.statements start) t e in
    let at = r.part.1 in
    let ends = (resolved_all_yields d f.body.statements).from start r.part.0 at
    (parameters_place f.parameters no_place (record { block = tt; outer = tt })) r.there in
    let m = both_there (function_from f r.part.0) (slots_written d f.variables at.slots) (given_back d f.variables f.returned) t r.is in
    let count = slots_count d f.variables at.slots m.left m.left_there in
    let first = parameters_count f.parameters no_place in
    let long : length start.slots ≤ length at.slots = ends.longer in
    subst (λ (z : TypedFunctionTree). IsSoundFunction (arities d) z × (z.parameters ≡ arity f)) (some_is (function_made f r.part.0 m.left m.right) t m.is)
    (record { parameters = omega arith; body = ends.made (length m.left) (omega arith) }, refl)

sound_functions : (d : Declared) (fs : List FunctionTree) (ts : List TypedFunctionTree) → typed_functions d fs ≡ Some ts
    → AreSoundFunctions (arities d) ts × (map parameters_of ts ≡ map arity fs)
sound_functions d [] ts e = subst (λ (z : List TypedFunctionTree). AreSoundFunctions (arities d) z × (map parameters_of z ≡ [])) (some_is [] ts e) (tt, refl)
sound_functions d (f ∷ fs) ts e =
    let m = both_there and_more (typed_function d f) (typed_functions d fs) ts e in
    let one = sound_function d f m.left m.left_there in
    let rest = sound_functions d fs m.right m.right_there in
    subst (λ (z : List TypedFunctionTree). AreSoundFunctions (arities d) z × (map parameters_of z ≡ map arity (f ∷ fs))) (some_is (m.left ∷ m.right) ts m.is)
    ((one.0, rest.0), ap (λ k. k ∷ map parameters_of m.right) one.1 ∙ ap (λ l. arity f ∷ l) rest.1)

-- each slot that the typed tree of a program names is one of its function, and each call is of a function of the program, with as
-- many arguments as that has parameters
pub typed_of_sound : (p : ProgramTree) (t : TypedProgramTree) → typed_of p ≡ Some t → IsSound t
typed_of_sound p t e =
    let d = with_functions (declared_by p) (reached (declared_by p)) in
    let m = mapped program_of (typed_functions d (reached (declared_by p))) t e in
    let all = sound_functions d (reached (declared_by p)) m.part m.there in
    subst IsSound m.is (subst (λ ps. AreSoundFunctions ps m.part) (sym all.1) all.0)
