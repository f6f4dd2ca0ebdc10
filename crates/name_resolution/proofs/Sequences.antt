-- Statements one after another.
use Rattle.std.proofs.Common.{◌≡◌, List, [], ◌∷◌, ◌++◌, refl, ap, ◌∙◌, Option, Some, None}
use Rattle.program_trees.specs.Statements.{StatementTree, statements_of}
use Rattle.declarations.specs.Declarations.{Declared}
use Rattle.program_trees.specs.TypedStatements.{TypedStatementTree, TypedStatementTrees, none, also, typed_statements_of}
use Rattle.name_resolution.specs.Scopes.{FunctionScope}
use Rattle.name_resolution.specs.Resolving.{carry, done}
use Rattle.name_resolution.specs.Bodies.{resolved, resolved_all}

abbrev pub place_made : {A : Type 0} → A → FunctionScope → A × FunctionScope
place_made a s = (a, s)

-- statements with one more after them
pub resolved_all_more : (d : Declared) (ts : List StatementTree) (t : StatementTree) (s r q : FunctionScope) (cs : List TypedStatementTree)
    (c : TypedStatementTree)
    → resolved_all d (statements_of ts) s ≡ Some (typed_statements_of cs, r) → resolved d t r ≡ Some (c, q)
    → resolved_all d (statements_of (ts ++ t ∷ [])) s ≡ Some (typed_statements_of (cs ++ c ∷ []), q)
resolved_all_more d [] t s r q [] c e f =
    let same : place_made none s ≡ place_made none r = cc in
    ap (λ z. then_none (resolved d t z)) (ap (λ z. z.1) same) ∙ ap then_none f
  where
    then_none : Option (TypedStatementTree × FunctionScope) → Option (TypedStatementTrees × FunctionScope)
    then_none o = carry o (λ x. done (also x none))
resolved_all_more d [] t s r q (b ∷ cs) c e f =
    let same : place_made none s ≡ place_made (also b (typed_statements_of cs)) r = cc in
    let first : none ≡ also b (typed_statements_of cs) = ap (λ z. z.0) same in
    cc
resolved_all_more d (u ∷ us) t s r q cs c e f = go (resolved d u s) (λ p ys so. resolved_all_more d us t p r q ys c so f) e
  where
    rest : TypedStatementTree → Option (TypedStatementTrees × FunctionScope) → Option (TypedStatementTrees × FunctionScope)
    rest x o = carry o (λ xs. done (also x xs))

    inside : (x : TypedStatementTree) (p : FunctionScope) (o : Option (TypedStatementTrees × FunctionScope)) → resolved_all d (statements_of us) p ≡ o
        → ((ys : List TypedStatementTree) → resolved_all d (statements_of us) p ≡ Some (typed_statements_of ys, r)
        → resolved_all d (statements_of (us ++ t ∷ [])) p ≡ Some (typed_statements_of (ys ++ c ∷ []), q)) → (ys : List TypedStatementTree)
        → rest x o ≡ Some (typed_statements_of ys, r) → rest x (resolved_all d (statements_of (us ++ t ∷ [])) p) ≡ Some (typed_statements_of (ys ++ c ∷ []), q)
    inside x p None h more ys g = cc
    inside x p (Some z) h more [] g =
        let same : place_made (also x z.0) z.1 ≡ place_made none r = cc in
        let first : also x z.0 ≡ none = ap (λ w. w.0) same in
        cc
    inside x p (Some z) h more (y ∷ ys) g =
        let same : place_made (also x z.0) z.1 ≡ place_made (also y (typed_statements_of ys)) r = cc in
        let first : also x z.0 ≡ also y (typed_statements_of ys) = ap (λ w. w.0) same in
        let here : x ≡ y = cc in
        let there : z.0 ≡ typed_statements_of ys = cc in
        let so = h ∙ ap (λ w. Some (place_made w z.1)) there ∙ ap (λ w. Some (place_made (typed_statements_of ys) w)) (ap (λ w. w.1) same) in
        ap (rest x) (more ys so) ∙ ap (λ w. Some (place_made (also w (typed_statements_of (ys ++ c ∷ []))) q)) here

    go : (o : Option (TypedStatementTree × FunctionScope))
        → ((p : FunctionScope) (ys : List TypedStatementTree) → resolved_all d (statements_of us) p ≡ Some (typed_statements_of ys, r)
        → resolved_all d (statements_of (us ++ t ∷ [])) p ≡ Some (typed_statements_of (ys ++ c ∷ []), q))
        → carry o (λ x p. rest x (resolved_all d (statements_of us) p)) ≡ Some (typed_statements_of cs, r)
        → carry o (λ x p. rest x (resolved_all d (statements_of (us ++ t ∷ [])) p)) ≡ Some (typed_statements_of (cs ++ c ∷ []), q)
    go None more g = cc
    go (Some z) more g = inside z.0 z.1 (resolved_all d (statements_of us) z.1) refl (more z.1) cs g
