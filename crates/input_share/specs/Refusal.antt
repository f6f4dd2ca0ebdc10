-- When inputs are not dealt.
use Rattle.std.specs.Prelude.{◌≡◌, ◌<◌, ◌≤◌, ℕ}
use Rattle.input_share.specs.declared.dealing.DealErr.{DealErr}
use Rattle.input_share.specs.declared.dealing.DealErr.TheVariants.{TapeShort, Memory}

-- the dealer's tape is short exactly where it has fewer words than are needed, and memory runs short only where it has enough
abbrev pub Refuses : ℕ → ℕ → DealErr → Type 0
Refuses needed had (TapeShort need have) = (had < needed) × (need ≡ needed) × (have ≡ had)
Refuses needed had Memory = needed ≤ had
