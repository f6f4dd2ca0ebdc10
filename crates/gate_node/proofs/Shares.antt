-- Shares that are joined block by block.
use Rattle.std.proofs.Common.{◌≡◌, ℕ, Bool, true, false, ◌&&◌, List, [], ◌∷◌, ◌++◌, refl, ◌∙◌, ap, Some, None, Vec, Global}
use Rattle.proto_core.proofs.Beginnings.{append-none}
use Rattle.blocked_protocol.specs.Blocked.{joined, no_elements}
use Rattle.gate_exchanges.specs.declared.exchange.Exchange.{Exchange}
use Rattle.gate_exchanges.specs.declared.exchange.Exchange.TheVariants.{Product, Splitting, Conversion, Opening, Resharing}
use Rattle.gate_exchanges.specs.Exchanges.{protocol_of, makes_two}
use Rattle.gate_node.specs.Shares.{shares_of, shares_if}

pub none-is : (e : Exchange) → no_elements (protocol_of e) ≡ shares_if (makes_two e) [] []
none-is (Product ring) = refl
none-is (Splitting negated) = refl
none-is Conversion = refl
none-is (Opening ring) = refl
none-is (Resharing ring) = refl

pub ruleset none_is = (none-is)

-- a block of two values, or of one
pub joined-both :
    (two : Bool) (x y : List ℕ) (a b : Vec ℕ Global) →
    joined (shares_if two x y) (shares_of a (Some b)) ≡ shares_if two (x ++ a.items) (y ++ b.items)
joined-both true x y a b = refl
joined-both false x y a b = refl

pub joined-first : (two : Bool) (x y : List ℕ) (a : Vec ℕ Global) → joined (shares_if two x y) (shares_of a None) ≡ shares_if false (x ++ a.items) y
joined-first true x y a = refl
joined-first false x y a = refl

-- nothing is joined
pub joined-none : (two : Bool) (e : Exchange) (x y : List ℕ) → joined (shares_if two x y) (no_elements (protocol_of e)) ≡ shares_if (two && makes_two e) x y
joined-none two e x y = ap (joined (shares_if two x y)) (none-is e) ∙ by_cases two (makes_two e)
  where
    by_cases : (a b : Bool) → joined (shares_if a x y) (shares_if b [] []) ≡ shares_if (a && b) x y
    by_cases true true = ap (λ z. z ∷ (y ++ []) ∷ []) (append-none x) ∙ ap (λ z. x ∷ z ∷ []) (append-none y)
    by_cases true false = ap (λ z. z ∷ []) (append-none x)
    by_cases false true = ap (λ z. z ∷ []) (append-none x)
    by_cases false false = ap (λ z. z ∷ []) (append-none x)

pub ruleset share_steps = (joined-both, joined-first, joined-none)
