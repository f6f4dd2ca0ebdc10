-- Gates after other gates, and the sizes of what they make.
use Rattle.std.proofs.Common.{◌≡◌, ℕ, ◌+◌, ◌<◌, get_or, List, [], ◌∷◌, ◌++◌, length, drop, refl, sym, ◌∙◌, ap, arith, length-append}
use Rattle.std.proofs.lemmas.List.{get_or_append_left, drop_more}
use Rattle.proto_core.specs.declared.party.Number.{Number}
use Rattle.gates.specs.declared.gate.Gate.{Gate}
use Rattle.gates.specs.Clear.{Values}
use Rattle.gates.specs.Counts.{size_of}
use Rattle.shared_gates.specs.Model.{sizes_made, AllSizesSuit, run_gate, run_gates, sizes_after}

-- the gate at a place, and those after it
pub next-gate :
    (gates : List Gate) (place : ℕ) (gate : Gate) → place < length gates → gate ≡ get_or gates place gate →
    drop place gates ≡ gate ∷ drop (place + 1) gates
next-gate gates place gate below is =
    drop_more gates place gate below ∙ ap (λ (g : Gate). g ∷ drop (place + 1) gates) (sym is)

pub sizes-then : (ds sizes : List ℕ) (xs ys : List Gate) → sizes_after ds sizes (xs ++ ys) ≡ sizes_after ds (sizes_after ds sizes xs) ys
sizes-then ds sizes [] ys = refl
sizes-then ds sizes (gate ∷ xs) ys = sizes-then ds (sizes ++ sizes_made ds sizes gate) xs ys

pub suits-then :
    (ds sizes : List ℕ) (xs ys : List Gate) → AllSizesSuit ds sizes xs → AllSizesSuit ds (sizes_after ds sizes xs) ys →
    AllSizesSuit ds sizes (xs ++ ys)
suits-then ds sizes [] ys suit later = later
suits-then ds sizes (gate ∷ xs) ys suit later = (suit.0, suits-then ds (sizes ++ sizes_made ds sizes gate) xs ys suit.1 later)

pub gates-then :
    (dealt : Number → Values) (ds sizes : List ℕ) (xs ys : List Gate) →
    run_gates dealt ds sizes (xs ++ ys) ≡ run_gates dealt ds sizes xs ++ run_gates dealt ds (sizes_after ds sizes xs) ys
gates-then dealt ds sizes [] ys = refl
gates-then dealt ds sizes (gate ∷ xs) ys =
    ap (λ gates. run_gate dealt ds sizes gate ∷ gates) (gates-then dealt ds (sizes ++ sizes_made ds sizes gate) xs ys)

-- the sizes of the values that stand stay
pub size-stays : (ds sizes : List ℕ) (gates : List Gate) (u : ℕ) → u < length sizes → size_of sizes u ≡ size_of (sizes_after ds sizes gates) u
size-stays ds sizes [] u lt = refl
size-stays ds sizes (gate ∷ gates) u lt =
    let l = length-append sizes (sizes_made ds sizes gate) in
    sym (get_or_append_left sizes (sizes_made ds sizes gate) 0 u lt)
    ∙ size-stays ds (sizes ++ sizes_made ds sizes gate) gates u (omega arith)
