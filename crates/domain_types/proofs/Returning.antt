-- Whether one of some statements always returns.
use Rattle.std.proofs.Common.{◌≡◌, ℕ, ◌+◌, ◌<◌, List, [], ◌∷◌, ◌++◌, length, take, get_or, refl, sym, ap, ◌∙◌, Bool, true, false}
use Rattle.std.specs.Prelude.{map, ◌||◌}
use Rattle.std.proofs.lemmas.List.{map-append, take_more}
use Rattle.program_trees.specs.declared.statement.Statement.{Statement}
use Rattle.program_trees.specs.Statements.{StatementTree, statement, statements_of}
use Rattle.domain_types.specs.StatementTypes.{always_returns, one_returns}

one_returns-more : (ts : List StatementTree) (t : StatementTree)
    → one_returns (statements_of (ts ++ t ∷ [])) ≡ one_returns (statements_of ts) || always_returns t
one_returns-more [] t = go (always_returns t)
  where
    go : (b : Bool) → b || false ≡ false || b
    go true = refl
    go false = refl
one_returns-more (u ∷ us) t = ap (λ b. always_returns u || b) (one_returns-more us t) ∙ go (always_returns u)
  where
    go : (b : Bool) → b || (one_returns (statements_of us) || always_returns t) ≡ (b || one_returns (statements_of us)) || always_returns t
    go true = refl
    go false = refl

pub one_more_returns : (xs : List Statement) (i : ℕ) (x : Statement) → i < length xs → x ≡ get_or xs i x
    → one_returns (statements_of (map statement (take (i + 1) xs))) ≡ one_returns (statements_of (map statement (take i xs))) || always_returns (statement x)
one_more_returns xs i x h at =
    ap (λ l. one_returns (statements_of l))
    (ap (map statement) (take_more xs i x h) ∙ map-append statement (take i xs) (get_or xs i x ∷ [])
    ∙ ap (λ z. map statement (take i xs) ++ statement z ∷ []) (sym at))
    ∙ one_returns-more (map statement (take i xs)) (statement x)
