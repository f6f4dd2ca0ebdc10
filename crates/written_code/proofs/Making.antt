-- What is made of a piece of a function, at whatever place.
use Rattle.std.proofs.Common.{◌≡◌, Option, Some, None, refl, ap, subst}
use Rattle.std.specs.Prelude.{option_map}
use Rattle.program_trees.specs.Programs.{FunctionTree}
use Rattle.domain_types.specs.Declarations.{Declared}
use Rattle.program_trees.specs.TypedStatements.{TypedStatementTrees}
use Rattle.program_trees.specs.TypedPrograms.{TypedFunctionTree}
use Rattle.name_resolution.specs.Scopes.{FunctionScope, no_place, entering, behind_block}
use Rattle.name_resolution.specs.Resolving.{Resolving, ◌>>=◌, carry, done, reading, closed, in_block}
use Rattle.name_resolution.specs.Bodies.{resolved_all}
use Rattle.name_resolution.specs.Functions.{slots_written, given_back, with_parameters, function_made, function_from, function_behind, typed_function}
use Rattle.name_resolution.proofs.SoundValues.{both_there, then_there, some_is}

pub record Makes {A : Type 0} (P : A → Type 0) (m : Resolving A) : Type 0 where
  pub from : (s : FunctionScope) (a : A) (q : FunctionScope) → m s ≡ Some (a, q) → P a

abbrev pair_of : {A : Type 0} → A → FunctionScope → A × FunctionScope
pair_of a p = (a, p)

made_as : {A : Type 0} (P : A → Type 0) (a b : A) (p q : FunctionScope) → Some (pair_of a p) ≡ Some (pair_of b q) → P a → P b
made_as P a b p q e h =
    let same : pair_of a p ≡ pair_of b q = cc in
    subst P (ap (λ z. z.0) same) h

pub makes_done : {A : Type 0} (P : A → Type 0) (a : A) → P a → Makes P (done a)
makes_done P a h = record { from = λ s b q e. made_as P a b s q e h }

pub makes_bind : {A B : Type 0} (P : A → Type 0) (Q : B → Type 0) (m : Resolving A) (f : A → Resolving B) → Makes P m → ((a : A) → P a → Makes Q (f a))
    → Makes Q (m >>= f)
makes_bind {A = A} {B = B} P Q m f h g = record { from = λ s b q e. go s b q (m s) refl e }
  where
    go : (s : FunctionScope) (b : B) (q : FunctionScope) (o : Option (A × FunctionScope)) → m s ≡ o → carry o f ≡ Some (b, q) → Q b
    go s b q None t e = cc
    go s b q (Some r) t e = (g r.0 (h.from s r.0 r.1 t)).from r.1 b q e

pub makes_reading : {A : Type 0} (P : A → Type 0) (f : FunctionScope → Option A) → ((s : FunctionScope) (a : A) → f s ≡ Some a → P a) → Makes P (reading f)
makes_reading {A = A} P f h = record { from = λ s b q e. go s b q (f s) refl e }
  where
    go : (s : FunctionScope) (b : A) (q : FunctionScope) (o : Option A) → f s ≡ o → option_map (λ a. pair_of a s) o ≡ Some (b, q) → P b
    go s b q None t e = cc
    go s b q (Some a) t e = made_as P a b s q e (h s a t)

pub makes_block : {A : Type 0} (P : A → Type 0) (m : Resolving A) → Makes P m → Makes P (in_block m)
makes_block {A = A} P m h = record { from = λ s b q e. go s b q (m (entering s)) refl e }
  where
    go : (s : FunctionScope) (b : A) (q : FunctionScope) (o : Option (A × FunctionScope)) → m (entering s) ≡ o → closed s o ≡ Some (b, q) → P b
    go s b q None t e = cc
    go s b q (Some r) t e = made_as P r.0 b (behind_block s r.1) q e (h.from (entering s) r.0 r.1 t)

-- where nothing is asked of it
abbrev pub Anything : {A : Type 0} → A → Type 0
Anything a = Unit {0}

pub anything : {A : Type 0} (m : Resolving A) → Makes Anything m
anything m = record { from = λ s a q e. tt }

-- so it is of the body of a typed function
pub body_made : (P : TypedStatementTrees → Type 0) (d : Declared) (f : FunctionTree) (t : TypedFunctionTree) → Makes P (resolved_all d f.body.statements)
    → typed_function d f ≡ Some t → P t.body
body_made P d f t h e =
    let start = with_parameters f.parameters no_place in
    let r = then_there (function_behind d f) (resolved_all d f.body.statements start) t e in
    let m = both_there (function_from f r.part.0) (slots_written d f.variables r.part.1.slots) (given_back d f.variables f.returned) t r.is in
    subst (λ (z : TypedFunctionTree). P z.body) (some_is (function_made f r.part.0 m.left m.right) t m.is) (h.from start r.part.0 r.part.1 r.there)
