-- The sizes of values, and the words that rows of gates take.
use Rattle.std.proofs.Math.Nat.{add-zero, add_assoc}
use Rattle.std.proofs.Common.{◌≡◌, ℕ, zero, suc, ◌+◌, List, [], ◌∷◌, ◌++◌, length, map, refl, ◌∙◌, ap, arith}
use Rattle.gates.specs.declared.gate.Gate.{Gate}
use Rattle.gates.specs.Clear.{Values, value, FitFrom}
use Rattle.gates.specs.Counts.{Miner, size_of, made_by, made_by_all, words_of, words_of_all}

pub size_of-value : (values : Values) (u : ℕ) → size_of (map length values) u ≡ length (value values u)
size_of-value [] u = refl
size_of-value (xs ∷ values) zero = refl
size_of-value (xs ∷ values) (suc u) = size_of-value values u

pub words_of_all-append : (sizes : List ℕ) (miner : Miner) (xs ys : List Gate)
    → words_of_all sizes miner (xs ++ ys) ≡ words_of_all sizes miner xs + words_of_all sizes miner ys
words_of_all-append sizes miner [] ys = omega arith
words_of_all-append sizes miner (gate ∷ xs) ys = ap (λ n. words_of sizes miner gate + n) (words_of_all-append sizes miner xs ys) ∙ omega arith

-- what fits two rows of gates fits each
pub FitFrom-append : (inputs values : Values) (next : ℕ) (xs ys : List Gate) → FitFrom inputs values next (xs ++ ys)
    → FitFrom inputs values next xs × FitFrom inputs values (next + made_by_all xs) ys
FitFrom-append inputs values next [] ys fit = (tt, rw add-zero fit)
FitFrom-append inputs values next (gate ∷ xs) ys fit =
    let rest = FitFrom-append inputs values (next + made_by gate) xs ys fit.2 in
    ((fit.0, fit.1, rest.0), rw add_assoc at rest.1)
