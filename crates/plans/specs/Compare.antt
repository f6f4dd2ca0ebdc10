-- The gates that compare numbers: their bits, and then the comparison of blocks of bits that double.
use Rattle.std.specs.Prelude.{ℕ, ◌+◌, ◌*◌, List, [], ◌∷◌, ◌++◌}
use Rattle.gates.specs.declared.gate.Gate.{Gate}
use Rattle.gates.specs.declared.gate.Gate.TheVariants.{Xor, And, Not, Shr, Low, Cat, Part}
use Rattle.plans.specs.BitExtract.{widths, bits_plan}

-- of the bits of all numbers, value first + 54: the first ones a, the second ones b; then b and not a, value first + 58,
-- for each bit that is less in a; and not (a xor b), value first + 60, for each that is the same
abbrev pub order_start : ℕ → ℕ → List Gate
order_start first n =
    let bits = first + 54 in
    let a = first + 55 in
    let b = first + 56 in
    Part bits 0 n ∷ Part bits n n ∷ Not a ∷ And b (first + 57) ∷ Xor a b ∷ Not (first + 59) ∷ []

-- each block of `width` bits is joined with the one above it, less bits g and same bits p at once:
-- (p shifted and g) and (p shifted and p) are one `And` of 2 n words; the new g is number next + 6, the new p number next + 7
abbrev pub order_step : ℕ → ℕ → ℕ → ℕ → ℕ → List Gate
order_step n next g p width =
    Shr p width
    ∷ Shr g width
    ∷ Cat next next
    ∷ Cat g p
    ∷ And (next + 2) (next + 3)
    ∷ Part (next + 4) 0 n
    ∷ Xor (next + 1) (next + 5)
    ∷ Part (next + 4) n n
    ∷ []

-- all joins, and at last bit 0, which stands for the whole word
abbrev pub comparing : ℕ → ℕ → ℕ → ℕ → List ℕ → List Gate
comparing n next g p [] = Low g ∷ []
comparing n next g p (width ∷ widths) = order_step n next g p width ++ comparing n (next + 8) (next + 6) (next + 7) widths

abbrev pub less_plan : ℕ → ℕ → ℕ → ℕ → List Gate
less_plan first u v n =
    Cat u v
    ∷ (bits_plan (first + 1) first (2 * n)
    ++ (order_start first n ++ comparing n (first + 61) (first + 58) (first + 60) widths))
