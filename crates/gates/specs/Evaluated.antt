-- Evaluation: the values of a list of gates, made one after another.
use Rattle.std.specs.Prelude.{ℕ, List, [], ◌∷◌, ◌++◌, Bool, true, false, length, replicate}
use Rattle.proto_core.specs.Rings.{add_ring}
use Rattle.proto_core.specs.Words.{AreWords}
use Rattle.gates.specs.declared.gate.Gate.{Gate}
use Rattle.gates.specs.declared.gate.Gate.TheVariants.{Split}
use Rattle.gates.specs.Clear.{Values, value, clear_value, each_two, Suits}

-- the first of two values that a Split may make where the second are these masks
abbrev pub unmasked : Bool → List ℕ → List ℕ → List ℕ
unmasked false us masks = each_two add_ring.sub us masks
unmasked true us masks = each_two add_ring.add us masks

-- a mask for each word
abbrev pub masks_for : ℕ → List ℕ → List ℕ
masks_for mask us = replicate (length us) mask

-- the values that one gate makes
abbrev pub made : ℕ → Values → Values → Gate → Values
made mask inputs values (Split u negated) = unmasked negated (value values u) (masks_for mask (value values u)) ∷ masks_for mask (value values u) ∷ []
made mask inputs values gate = clear_value inputs values gate ∷ []

-- the values that are there, and after them those of the gates
abbrev pub evaluated : ℕ → Values → Values → List Gate → Values
evaluated mask inputs values [] = values
evaluated mask inputs values (gate ∷ gates) = evaluated mask inputs (values ++ made mask inputs values gate) gates

-- what is split is made of words
abbrev pub SplitsWords : Values → Gate → Type 0
SplitsWords values (Split u negated) = AreWords (value values u)
SplitsWords values gate = Unit {0}

-- each gate suits the values before it
abbrev pub AllSuit : ℕ → Values → Values → List Gate → Type 0
AllSuit mask inputs values [] = Unit {0}
AllSuit mask inputs values (gate ∷ gates) =
    Suits inputs values (length values) gate
    × SplitsWords values gate
    × AllSuit mask inputs (values ++ made mask inputs values gate) gates
