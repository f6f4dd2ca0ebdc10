-- What is made of a list where nothing is made of one of its parts.
use Rattle.std.proofs.Common.{◌≡◌, ◌<◌, ℕ, zero, suc, List, [], ◌∷◌, ◌++◌, length, take, drop, get_or, refl, sym, ap, ◌∙◌, Option, Some, None, arith}
use Rattle.std.specs.Prelude.{Result, Err, map}
use Rattle.std.specs.Result.{IsErrAnd}
use Rattle.std.proofs.lemmas.Result.{err_from_is_err_and}
use denote.Ref.{Bor}
use Rattle.program_trees.specs.declared.expression.Expression.{Expression}
use Rattle.program_trees.specs.declared.statement.Statement.{Statement}
use Rattle.program_trees.specs.declared.statement.DeclaredType.{DeclaredType}
use Rattle.program_trees.specs.declared.function.DomainVariable.{DomainVariable}
use Rattle.program_trees.specs.declared.function.Function.{Function}
use Rattle.program_trees.specs.Tree.{expression, trees_of}
use Rattle.program_trees.specs.Statements.{StatementTree, statement, statements_of}
use Rattle.declarations.specs.Declarations.{Declared}
use Rattle.declarations.specs.Views.{tree_at}
use Rattle.name_resolution.specs.declared.resolve_err.ResolveErr.{ResolveErr}
use Rattle.name_resolution.specs.declared.resolve_err.ResolveErr.TheVariants.{Unresolved, Memory}
use Rattle.name_resolution.specs.Answer.{Answers}
use Rattle.program_trees.specs.TypedStatements.{TypedStatementTree, TypedStatementTrees, none, also}
use Rattle.name_resolution.specs.Scopes.{Scope, FunctionScope}
use Rattle.name_resolution.specs.Values.{of_both, and_more, value, values}
use Rattle.name_resolution.specs.Resolving.{carry, done}
use Rattle.name_resolution.specs.Bodies.{resolved, resolved_all}
use Rattle.name_resolution.specs.Functions.{slot_written, slots_written, typed_function, typed_functions}
use Rattle.name_resolution.specs.inner.Views.{type_at}
use Rattle.name_resolution.proofs.Sequences.{place_made}

-- a list by its element of this number
pub parted : {A B : Type 0} (f : A → B) (xs : List A) (i : ℕ) (x : A) → i < length xs → x ≡ get_or xs i x
    → map f xs ≡ map f (take i xs) ++ f x ∷ map f (drop (suc i) xs)
parted f [] i x within e = absurd (omega arith)
parted f (y ∷ ys) zero x within e = ap (λ z. f z ∷ map f ys) (sym e)
parted f (y ∷ ys) (suc i) x within e = ap (λ l. f y ∷ l) (parted f ys i x (omega arith) e)

-- an error of a part is one of the whole
pub passed_on : {A B C D : Type 0} (part : A → B) (whole : C → D) (e : ResolveErr) (o : Option B) (p : Option D) (r : Result C ResolveErr)
    → IsErrAnd r (λ y. y ≡ e) → (o ≡ None → p ≡ None) → Answers part (Err e) o → Answers whole r p
passed_on part whole e o p r exit h a = let is = err_from_is_err_and r exit in rw (is.1, is.2) (told e a)
  where
    told : (y : ResolveErr) → Answers part (Err y) o → Answers whole (Err y) p
    told Unresolved b = h b
    told Memory b = tt

none_behind : {A B C : Type 0} (puts : A → B → Option C) (o : Option A) → of_both puts o None ≡ None
none_behind puts None = refl
none_behind puts (Some a) = refl

all-none : {A B : Type 0} (one : A → Option B) (all : List A → Option (List B)) (puts : B → List B → Option (List B)) →
    ((a : A) (l : List A) → all (a ∷ l) ≡ of_both puts (one a) (all l)) →
    (l : List A) (a : A) (m : List A) → one a ≡ None → all (l ++ a ∷ m) ≡ None
all-none one all puts more [] a m e = more a m ∙ ap (λ o. of_both puts o (all m)) e
all-none one all puts more (x ∷ xs) a m e =
    more x (xs ++ a ∷ m) ∙ ap (of_both puts (one x)) (all-none one all puts more xs a m e) ∙ none_behind puts (one x)

pub values_none : (d : Declared) (s : Scope) (xs : List Expression) (i : ℕ) (x : Expression) → i < length xs → x ≡ get_or xs i x
    → value d s (expression x) ≡ None → values d s (trees_of (map expression xs)) ≡ None
values_none d s xs i x within is e =
    ap (λ l. values d s (trees_of l)) (parted expression xs i x within is)
    ∙ all-none (value d s) (λ ts. values d s (trees_of ts)) and_more (λ t ts. refl) (map expression (take i xs)) (expression x)
    (map expression (drop (suc i) xs)) e

pub slots_none : (d : Declared) (vs : List DomainVariable) (xs : List (Bor DeclaredType)) (i : ℕ) (x : Bor DeclaredType) → i < length xs
    → x ≡ get_or xs i x → slot_written d vs (type_at x) ≡ None → slots_written d vs (map type_at xs) ≡ None
slots_none d vs xs i x within is e =
    ap (slots_written d vs) (parted type_at xs i x within is)
    ∙ all-none (slot_written d vs) (slots_written d vs) and_more (λ t ts. refl) (map type_at (take i xs)) (type_at x) (map type_at (drop (suc i) xs)) e

pub functions_none : (d : Declared) (xs : List (Bor Function)) (i : ℕ) (x : Bor Function) → i < length xs → x ≡ get_or xs i x
    → typed_function d (tree_at x) ≡ None → typed_functions d (map tree_at xs) ≡ None
functions_none d xs i x within is e =
    ap (typed_functions d) (parted tree_at xs i x within is)
    ∙ all-none (typed_function d) (typed_functions d) and_more (λ f fs. refl) (map tree_at (take i xs)) (tree_at x) (map tree_at (drop (suc i) xs)) e

-- statements of which those before this one are made
behind_made : (d : Declared) (ts : List StatementTree) (t : StatementTree) (us : List StatementTree) (s r : FunctionScope) (cs : TypedStatementTrees)
    → resolved_all d (statements_of ts) s ≡ Some (cs, r) → resolved d t r ≡ None → resolved_all d (statements_of (ts ++ t ∷ us)) s ≡ None
behind_made d [] t us s r cs e f =
    let same : place_made none s ≡ place_made cs r = cc in
    ap behind (ap (λ z. resolved d t z.1) same ∙ f)
  where
    behind : Option (TypedStatementTree × FunctionScope) → Option (TypedStatementTrees × FunctionScope)
    behind o = carry o (λ x p. carry (resolved_all d (statements_of us) p) (λ xs. done (also x xs)))
behind_made d (v ∷ vs) t us s r cs e f = go (resolved d v s) (λ p ys so. behind_made d vs t us p r ys so f) e
  where
    rest : TypedStatementTree → Option (TypedStatementTrees × FunctionScope) → Option (TypedStatementTrees × FunctionScope)
    rest x o = carry o (λ xs. done (also x xs))

    inside : (x : TypedStatementTree) (p : FunctionScope) (o : Option (TypedStatementTrees × FunctionScope)) → resolved_all d (statements_of vs) p ≡ o
        → ((ys : TypedStatementTrees) → resolved_all d (statements_of vs) p ≡ Some (ys, r) → resolved_all d (statements_of (vs ++ t ∷ us)) p ≡ None)
        → rest x o ≡ Some (cs, r) → rest x (resolved_all d (statements_of (vs ++ t ∷ us)) p) ≡ None
    inside x p None h stops g = cc
    inside x p (Some z) h stops g =
        let same : place_made (also x z.0) z.1 ≡ place_made cs r = cc in
        let so = h ∙ ap (λ q. Some (place_made z.0 q)) (ap (λ w. w.1) same) in
        ap (rest x) (stops z.0 so)

    go : (o : Option (TypedStatementTree × FunctionScope))
        → ((p : FunctionScope) (ys : TypedStatementTrees) → resolved_all d (statements_of vs) p ≡ Some (ys, r)
        → resolved_all d (statements_of (vs ++ t ∷ us)) p ≡ None) → carry o (λ x p. rest x (resolved_all d (statements_of vs) p)) ≡ Some (cs, r)
        → carry o (λ x p. rest x (resolved_all d (statements_of (vs ++ t ∷ us)) p)) ≡ None
    go None stops g = refl
    go (Some z) stops g = inside z.0 z.1 (resolved_all d (statements_of vs) z.1) refl (stops z.1) g

pub statements_none : (d : Declared) (xs : List Statement) (i : ℕ) (x : Statement) (s r : FunctionScope) (cs : TypedStatementTrees) → i < length xs
    → x ≡ get_or xs i x → resolved_all d (statements_of (map statement (take i xs))) s ≡ Some (cs, r) → resolved d (statement x) r ≡ None
    → resolved_all d (statements_of (map statement xs)) s ≡ None
statements_none d xs i x s r cs within is before e =
    ap (λ l. resolved_all d (statements_of l) s) (parted statement xs i x within is)
    ∙ behind_made d (map statement (take i xs)) (statement x) (map statement (drop (suc i) xs)) s r cs before e
