-- A function that the checker checked with some domains is well typed under the binding of just these.
use Rattle.std.proofs.Common.{◌≡◌, ℕ, zero, suc, ◌≤◌, List, [], ◌∷◌, length, refl, sym, ap, ◌∙◌, subst, Some, Bool, false, arith}
use Rattle.std.specs.Prelude.{map}
use Rattle.std.specs.List.{slice_get}
use Rattle.std.proofs.lemmas.Option.{same_Some}
use Rattle.std.proofs.lemmas.List.{length-map, length-append}
use Rattle.program_trees.specs.declared.statement.DeclaredType.{DeclaredType}
use Rattle.program_trees.specs.declared.function.Parameter.{Parameter}
use Rattle.program_trees.specs.declared.function.ResultType.{ResultType}
use Rattle.program_trees.specs.declared.function.ResultType.TheVariants as result
use Rattle.program_trees.specs.Programs.{FunctionTree, ProgramTree}
use Rattle.domain_types.specs.Declarations.{declared_by, functions_of}
use Rattle.domain_types.specs.Scopes as checked
use Rattle.domain_types.specs.FunctionTypes as head
use Rattle.domain_types.specs.StatementTypes as checker
use Rattle.domain_types.specs.Typing.{GivesResult, IsTypedFunction, IsTypedProgram}
use Rattle.domain_types.specs.ExpressionTypes.{within}
use Rattle.program_trees.specs.declared.typed_function.Returned.{Returned}
use Rattle.program_trees.specs.declared.typed_function.Returned.TheVariants as given
use Rattle.program_trees.specs.TypedStatements.{TypedStatementTrees}
use Rattle.name_resolution.specs.Scopes.{FunctionScope, no_place, declaring}
use Rattle.program_trees.specs.TypedPrograms.{TypedFunctionTree, TypedProgramTree}
use Rattle.name_resolution.specs.Functions.{slot_written, slots_written, given_back, with_parameters, typed_function, typed_functions}
use Rattle.name_resolution.specs.Order as order
use Rattle.name_resolution.proofs.SoundValues.{mapped, some_is}
use Rattle.reached_instances.specs.Instances.{Instance}
use Rattle.reached_instances.specs.Calls.{typed_statements_calls, function_calls, called_by}
use Rattle.program_typing.proofs.ReachedFunctions.{reached_agree}
use Rattle.well_typed.specs.Sources.{MayStandAll, AreWellWritten, IsWellWritten}
use Rattle.well_typed.specs.Statements.{AreWellTypedStatements, one_returns}
use Rattle.well_typed.specs.Programs.{GivesBack, IsWellTypedInstance}
use Rattle.well_typed.specs.Laws.{bound_domain, IsCheckedInstance}
use Rattle.well_typed.proofs.Bindings.{declared_type}
use Rattle.well_typed.proofs.SlotsWritten.{slots_count}
use Rattle.well_typed.proofs.Heads.{Begins, begins_itself, begins_further, IsMade, is_made, is_head, parameter_slots, function_at}
use Rattle.well_typed.proofs.Typed.{AreChecked}
use Rattle.well_typed.proofs.Calling.{known_in, Frame, setting, here}
use Rattle.well_typed.proofs.Values.{Same}
use Rattle.well_typed.proofs.Statements.{GoodStatements, Walked, new_variable, good_statements}

-- PARAMETERS

same_parameters : (p : ProgramTree) (z : Frame p) (g : Returned) (final : List DeclaredType)
    → slots_written (known_in p) z.function.variables final ≡ Some z.slots → (ps : List Parameter) (s : checked.Scope) (b : FunctionScope)
    → Same (here z) s b.scope → Begins (with_parameters ps b).slots final → Same (here z) (head.with_parameters (setting z) ps s) (with_parameters ps b).scope
same_parameters p z g final w [] s b m l = m
same_parameters p z g final w (q ∷ ps) s b m l =
    let next = declaring q.variable q.declared b in
    let grown : Begins next.slots (with_parameters ps next).slots = (map declared_type ps, parameter_slots ps next) in
    let there = begins_further next.slots (with_parameters ps next).slots final grown l in
    same_parameters p z g final w ps (head.with_parameter (setting z) q s) next
    (record { block = (new_variable p z g final w q.variable.text b q.declared there, m.block); outer = m.outer }) l

-- RESULTS

gives_back : (p : ProgramTree) (z : Frame p) (r : ResultType) (g : Returned) (body : TypedStatementTrees) (b : Bool)
    → given_back (known_in p) z.function.variables r ≡ Some g → one_returns body ≡ b → b ≡ checker.one_returns z.function.body.statements
    → GivesResult (setting z) z.function r → GivesBack g body
gives_back p z result.Void g body b e f q h = subst (λ x. GivesBack x body) (some_is given.Nothing g e) tt
gives_back p z (result.Value t) g body b e f q h =
    let m = mapped given.Value (slot_written (known_in p) z.function.variables t) g e in
    subst (λ x. GivesBack x body) m.is (f ∙ q ∙ h.1)

-- WORDS

written_at : (fs : List FunctionTree) (n : ℕ) (f : FunctionTree) → AreWellWritten fs → slice_get fs n ≡ Some f → MayStandAll false f.body.statements
written_at [] n f h e = cc
written_at (g ∷ gs) zero f h e = subst (λ (x : FunctionTree). MayStandAll false x.body.statements) (same_Some g f e) h.0
written_at (g ∷ gs) (suc n) f h e = written_at gs n f h.1 e

-- THE WHOLE FUNCTION

-- it is well typed, and the checker checked what it calls
pub record GoodInstance (p : ProgramTree) (t : TypedProgramTree) (i : Instance) : Type 0 where
  pub typed : IsWellTypedInstance t i
  pub called : AreChecked p (called_by t i)

pub good_instance : (p : ProgramTree) (functions : List TypedFunctionTree) → IsTypedProgram p → IsWellWritten p
    → typed_functions (known_in p) (order.reached (declared_by p)) ≡ Some functions → (i : Instance) → IsCheckedInstance p i
    → GoodInstance p (record { functions = functions }) i
good_instance p functions accepted well made_all i c =
    record {
      typed = record {
        called = u.0;
        there = u.1;
        bound = ap length c.binding ∙ length-map c.domains bound_domain ∙ c.count ∙ sym made.variables;
        parameters = enough;
        body = subst (λ b. AreWellTypedStatements (record { functions = functions; slots = u.0.slots; binding = b }) u.0.given false u.0.body)
            (sym c.binding) body.typed;
        returns = gives_back p z c.function.returned u.0.given u.0.body (checker.one_returns c.function.body.statements) made.given body.returns_so
            refl typed.result;
      };
      called = subst (λ o. AreChecked p (function_calls functions i.binding o)) (sym u.1)
          (subst (λ b. AreChecked p (typed_statements_calls (record { functions = functions; slots = u.0.slots; binding = b }) u.0.body))
          (sym c.binding) body.called);
    }
  where
    u : (t : TypedFunctionTree) × (slice_get functions i.function ≡ Some t) × (typed_function (known_in p) c.function ≡ Some t)
    u = function_at (known_in p) (order.reached (declared_by p)) functions i.function c.function made_all c.named

    made : IsMade (known_in p) c.function u.0
    made = is_made (known_in p) c.function u.0 u.2

    z : Frame p
    z = record {
      accepted = accepted;
      functions = functions;
      made = made_all;
      number = c.number;
      domains = c.domains;
      function = c.function;
      checked = c.checked;
      there = c.there;
      count = c.count;
      slots = u.0.slots;
    }

    typed : IsTypedFunction (within (declared_by p) c.function c.domains) c.function
    typed = accepted.functions (record { function = c.number; binding = c.domains }) c.function c.checked c.there

    start : FunctionScope
    start = with_parameters c.function.parameters no_place

    scope : checked.Scope
    scope = head.with_parameters (setting z) c.function.parameters checked.nothing_known

    walked : Walked (here z) made.final.slots scope (checker.after_all (setting z) scope c.function.body.statements)
        (GoodStatements p (here z) u.0.given false (checker.one_returns c.function.body.statements)) start u.0.body made.final
    walked =
        (good_statements p z u.0.given made.final.slots made.slots false scope c.function.body.statements made.given
        (reached_agree (declared_by p) i.function c.function c.named) (λ k n. n)
        (written_at (functions_of p.items) c.number c.function well c.there) typed.body).from start u.0.body made.final made.body

    body : GoodStatements p (here z) u.0.given false (checker.one_returns c.function.body.statements) u.0.body
    body =
        let nothing : Same (here z) checked.nothing_known no_place.scope = record { block = tt; outer = tt } in
        (walked.good (same_parameters p z u.0.given made.final.slots made.slots c.function.parameters checked.nothing_known no_place nothing
        walked.grows) (begins_itself made.final.slots)).1

    enough : u.0.parameters ≤ length u.0.slots
    enough =
        let first = is_head (known_in p) c.function u.0 made in
        let count = slots_count (known_in p) c.function.variables (map declared_type c.function.parameters) first.first first.written
        ∙ length-map c.function.parameters declared_type in
        let all = ap length first.slots ∙ length-append first.first first.more in
        let own = made.parameters in
        omega arith
