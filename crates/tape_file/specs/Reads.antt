-- How the answer of a reader and the definition of what is to be read belong together.
use Rattle.std.specs.Prelude.{◌≡◌, ℕ, Result, Ok, Err, IsOk}
use Rattle.tape_file.specs.declared.read_err.ReadErr.{ReadErr}
use Rattle.tape_file.specs.declared.read_err.ReadErr.TheVariants.{BadTape, Memory}

-- the answer shows the value, or the place of a fault, that was wanted; memory runs short only for a file without fault
abbrev pub Reads : {X Y : Type 0} → (X → Y) → Result Y ℕ → Result X ReadErr → Type 0
Reads shown wanted (Ok answer) = wanted ≡ Ok (shown answer)
Reads shown wanted (Err (BadTape place)) = wanted ≡ Err place
Reads shown wanted (Err Memory) = IsOk wanted
