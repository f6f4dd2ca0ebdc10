-- How the answer of a reader and the definition of what is to be read belong together.
use Rattle.std.specs.Prelude.{◌≡◌, Result, Ok, Err}
use Rattle.value_file.specs.declared.read_err.ReadErr.{ReadErr}
use Rattle.value_file.specs.declared.read_err.ReadErr.TheVariants.{Syntax, BadField, TooLong, Memory}

-- the answer is what was wanted, unless memory ran short
abbrev pub Reads : {X : Type 0} → Result X ReadErr → Result X ReadErr → Type 0
Reads wanted (Ok value) = wanted ≡ Ok value
Reads wanted (Err Syntax) = wanted ≡ Err Syntax
Reads wanted (Err (BadField entry name)) = wanted ≡ Err (BadField entry name)
Reads wanted (Err (TooLong entry)) = wanted ≡ Err (TooLong entry)
Reads wanted (Err Memory) = Unit {0}
