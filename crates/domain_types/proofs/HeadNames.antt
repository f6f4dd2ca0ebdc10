-- A kind or a domain is found by the number of its name.
use Rattle.std.proofs.Common.{◌≡◌, ℕ, suc, ◌+◌, List, [], ◌∷◌, refl, sym, ap, ◌∙◌, Option, Some, None, Bool, true, false, cond, arith}
use Rattle.std.specs.Prelude.{map, bytes_eq, option_map, option_and_then}
use Rattle.std.specs.List.{slice_get, find}
use denote.Ref.{Bor}
use Rattle.program_trees.specs.declared.statement.Identifier.{Identifier}
use Rattle.declarations.specs.Declarations.{number_in}
use Rattle.domain_types.specs.inner.Lent.{identifier_at, text_at}

first_at : (x : List ℕ) (ys : List (Bor Identifier))
    → option_map identifier_at (option_and_then (slice_get ys) (number_in x (map text_at ys)))
    ≡ find (λ (z : Identifier). bytes_eq x z.text) (map identifier_at ys)
first_at x [] = refl
first_at x (y ∷ ys) = go (bytes_eq x (text_at y)) (number_in x (map text_at ys)) (first_at x ys)
  where
    go : (b : Bool) (o : Option ℕ)
        → option_map identifier_at (option_and_then (slice_get ys) o) ≡ find (λ (z : Identifier). bytes_eq x z.text) (map identifier_at ys)
        → option_map identifier_at (option_and_then (slice_get (y ∷ ys)) (cond b (Some 0) (option_map (λ k. k + 1) o)))
        ≡ cond b (Some (identifier_at y)) (find (λ (z : Identifier). bytes_eq x z.text) (map identifier_at ys))
    go true o e = refl
    go false None e = e
    go false (Some k) e = let step : k + 1 ≡ suc k = omega arith in ap (λ n. option_map identifier_at (slice_get (y ∷ ys) n)) step ∙ e

-- zs are the identifiers, and o the number of the name
pub first_found : (x : List ℕ) (ys : List (Bor Identifier)) (o : Option ℕ) (zs : List Identifier) → number_in x (map text_at ys) ≡ o
    → map identifier_at ys ≡ zs → option_map identifier_at (option_and_then (slice_get ys) o) ≡ find (λ (z : Identifier). bytes_eq x z.text) zs
first_found x ys o zs e f =
    ap (λ n. option_map identifier_at (option_and_then (slice_get ys) n)) (sym e) ∙ first_at x ys ∙ ap (find (λ (z : Identifier). bytes_eq x z.text)) f
