-- The gates that turn numbers into their bits: a prefix adder over two words that add up to the number.
use Rattle.std.specs.Prelude.{ℕ, ◌+◌, List, [], ◌∷◌, ◌++◌, false}
use Rattle.gates.specs.declared.gate.Gate.{Gate}
use Rattle.gates.specs.declared.gate.Gate.TheVariants.{Split, Xor, And, Shl, Cat, Part}

-- each block of `width` bits is joined with the one below it, generate bits g and propagate bits p at once:
-- (p and g shifted) and (p and p shifted) are one `And` of 2 n words; the new g is number next + 6, the new p number next + 7
abbrev pub carry_step : ℕ → ℕ → ℕ → ℕ → ℕ → List Gate
carry_step n next g p width =
    Cat p p
    ∷ Shl g width
    ∷ Shl p width
    ∷ Cat (next + 1) (next + 2)
    ∷ And next (next + 3)
    ∷ Part (next + 4) 0 n
    ∷ Xor g (next + 5)
    ∷ Part (next + 4) n n
    ∷ []

-- all joins, and at last the sum h without carries with the carry into each bit
abbrev pub carrying : ℕ → ℕ → ℕ → ℕ → ℕ → List ℕ → List Gate
carrying n h next g p [] = Shl g 1 ∷ Xor h next ∷ []
carrying n h next g p (width ∷ widths) = carry_step n next g p width ++ carrying n h (next + 8) (next + 6) (next + 7) widths

abbrev pub widths : List ℕ
widths = 1 ∷ 2 ∷ 4 ∷ 8 ∷ 16 ∷ 32 ∷ []

abbrev pub bits_plan : ℕ → ℕ → ℕ → List Gate
bits_plan first word n =
    let x = first in
    let y = first + 1 in
    let g = first + 2 in
    let h = first + 3 in
    Split word false ∷ And x y ∷ Xor x y ∷ carrying n h (first + 4) g h widths
