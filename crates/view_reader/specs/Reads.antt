-- How the answer of a reader and the definition of what is to be read belong together.
use Rattle.std.specs.Prelude.{◌≡◌, ℕ, Result, Ok, Err}
use Rattle.view_reader.specs.declared.read_err.ReadErr.{ReadErr}
use Rattle.view_reader.specs.declared.read_err.ReadErr.TheVariants.{BadView, Memory}

-- the answer shows the value, or the number of the first wrong line, unless memory ran short
abbrev pub Reads : {X Y : Type 0} → (X → Y) → Result Y ℕ → Result X ReadErr → Type 0
Reads shown wanted (Ok answer) = wanted ≡ Ok (shown answer)
Reads shown wanted (Err (BadView line)) = wanted ≡ Err line
Reads shown wanted (Err Memory) = Unit {0}
