-- Whether a number is among a gate's operands.
use Rattle.std.proofs.Common.{◌≡◌, Bool, true, false, ◌||◌, refl}

pub or-none : (b : Bool) → (b || false) ≡ b
or-none true = refl
or-none false = refl

pub ruleset or_none = (or-none)
