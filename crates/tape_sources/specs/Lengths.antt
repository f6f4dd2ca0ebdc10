-- The length of an own tape and the size of its file.
use Rattle.std.specs.Prelude.{◌≡◌, ◌≤◌, ℕ, ◌+◌, ◌*◌}

-- the length is as wanted, within the limit, and the file is sized by it
pub record IsOwnSized (wanted len size : ℕ) : Type 0 where
  pub same : len ≡ wanted
  pub short : wanted ≤ 16777216
  pub exact : size ≡ 8 + 8 * wanted
