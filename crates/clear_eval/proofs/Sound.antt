-- Functions of sound programs.
use Rattle.std.proofs.Common.{◌≡◌, ℕ, zero, suc, ◌≤◌, List, [], ◌∷◌, length, refl, sym, subst}
use Rattle.std.specs.Prelude.{map, Some}
use Rattle.std.specs.List.{slice_get}
use Rattle.program_trees.specs.declared.typed_expression.TypedExpression.{TypedExpression}
use Rattle.program_trees.specs.declared.typed_function.TypedFunction.{TypedFunction}
use Rattle.program_trees.specs.declared.typed_statement.TypedStatement.{TypedStatement}
use Rattle.program_trees.specs.TypedTree.{typed_tree}
use Rattle.program_trees.specs.TypedStatements.{TypedStatementTree, typed_statement, typed_statements_of}
use Rattle.program_trees.specs.TypedPrograms.{typed_function_tree}
use Rattle.program_trees.specs.Sound.{parameters_of, AreSoundFunctions, IsSoundTree, IsSoundStatementTree, AreSoundStatementTrees}
use Rattle.value_steps.specs.declared.value.Value.{Value}
use Rattle.clear_eval.specs.declared.place.StatementContext.{StatementContext}
use Rattle.clear_eval.specs.inner.Standing.{HasRoomFor, AreSoundAmong, IsSoundIn, IsSoundStatement, parameters_around}

room_among : (ps : List ℕ) (fs : List TypedFunction) (k n : ℕ) → AreSoundFunctions ps (map typed_function_tree fs)
    → slice_get (map parameters_of (map typed_function_tree fs)) k ≡ Some n → HasRoomFor fs k n
room_among ps [] k n a h = cc
room_among ps (f ∷ fs) zero n a h =
    let same : f.parameters ≡ n = cc in
    record { function = f; there = refl; slots = subst (λ m. m ≤ length f.slots.items) same a.0.parameters }
room_among ps (f ∷ fs) (suc k) n a h =
    let r = room_among ps fs k n a.1 h in
    record { function = r.function; there = r.there; slots = r.slots }

-- where a call names a function with as many parameters as it has arguments
pub room_for : (fs : List TypedFunction) (k n : ℕ) → AreSoundAmong (map typed_function_tree fs)
    → slice_get (map parameters_of (map typed_function_tree fs)) k ≡ Some n → HasRoomFor fs k n
room_for fs k n a h = room_among (map parameters_of (map typed_function_tree fs)) fs k n a h

body_among : (ps : List ℕ) (fs : List TypedFunction) (k : ℕ) (f : TypedFunction) → AreSoundFunctions ps (map typed_function_tree fs)
    → slice_get fs k ≡ Some f → AreSoundStatementTrees (length f.slots.items) ps (typed_statements_of (map typed_statement f.body.items))
body_among ps [] k f a h = cc
body_among ps (g ∷ fs) zero f a h =
    let same : g ≡ f = cc in
    subst (λ (x : TypedFunction). AreSoundStatementTrees (length x.slots.items) ps (typed_statements_of (map typed_statement x.body.items))) same a.0.body
body_among ps (g ∷ fs) (suc k) f a h = body_among ps fs k f a.1 h

pub body_sound : (fs : List TypedFunction) (k : ℕ) (f : TypedFunction) → AreSoundAmong (map typed_function_tree fs) → slice_get fs k ≡ Some f
    → AreSoundStatementTrees (length f.slots.items) (map parameters_of (map typed_function_tree fs)) (typed_statements_of (map typed_statement f.body.items))
body_sound fs k f a h = body_among (map parameters_of (map typed_function_tree fs)) fs k f a h

-- what names only what is there goes on doing so in a frame with as many slots
pub still_sound : (at : StatementContext) (vs us : List Value) (e : TypedExpression) → length us ≡ length vs → IsSoundIn at vs e → IsSoundIn at us e
still_sound at vs us e same h = subst (λ n. IsSoundTree n (parameters_around at) (typed_tree e)) (sym same) h

pub still_sound_statement : (at : StatementContext) (vs us : List Value) (s : TypedStatement) → length us ≡ length vs → IsSoundStatement at vs s
    → IsSoundStatement at us s
still_sound_statement at vs us s same h = subst (λ n. IsSoundStatementTree n (parameters_around at) (typed_statement s)) (sym same) h

pub sound_statements : (at : StatementContext) (vs : List Value) (s : TypedStatement) (c : TypedStatementTree) → typed_statement s ≡ c
    → IsSoundStatement at vs s
    → IsSoundStatementTree (length vs) (parameters_around at) c
sound_statements at vs s c is h = subst (IsSoundStatementTree (length vs) (parameters_around at)) is h
