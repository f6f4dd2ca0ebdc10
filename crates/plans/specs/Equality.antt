-- The gates that test words for zero.
use Rattle.std.specs.Prelude.{ℕ, ◌+◌, List, [], ◌∷◌, true}
use Rattle.gates.specs.declared.gate.Gate.{Gate}
use Rattle.gates.specs.declared.gate.Gate.TheVariants.{Split, Xor, Not, Shr, And, Low}

-- the bits of the value `same` are joined, shift by shift; in the end bit 0 stands for all
abbrev pub joining : ℕ → List ℕ → List Gate
joining same [] = Low same ∷ []
joining same (count ∷ counts) =
    let shifted = same + 1 in
    Shr same count ∷ And same shifted ∷ joining (shifted + 1) counts

abbrev pub shifts : List ℕ
shifts = 32 ∷ 16 ∷ 8 ∷ 4 ∷ 2 ∷ 1 ∷ []

-- the word is split into two that differ by it; where all of their bits are the same, it is 0
abbrev pub eq_plan : ℕ → ℕ → List Gate
eq_plan first difference =
    let x = first in
    let y = first + 1 in
    let differing = first + 2 in
    Split difference true ∷ Xor x y ∷ Not differing ∷ joining (differing + 1) shifts
