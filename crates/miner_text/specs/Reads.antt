-- How the answer of the reader and the definition of what is to be read belong together.
use Rattle.std.specs.Prelude.{◌≡◌, ℕ, List, Result, Ok, Err, Vec}
use Rattle.std.specs.declared.alloc.Global.{Global}
use Rattle.miner_text.specs.declared.line.MinerLine.{MinerLine}
use Rattle.miner_text.specs.declared.text_err.TextErr.{TextErr}
use Rattle.miner_text.specs.declared.text_err.TextErr.TheVariants.{BadText, Memory}

-- the lines that are wanted, or the number of the first wrong one, unless memory ran short
abbrev pub Reads : Result (List MinerLine) ℕ → Result (Vec MinerLine Global) TextErr → Type 0
Reads wanted (Ok read) = wanted ≡ Ok read.items
Reads wanted (Err (BadText line)) = wanted ≡ Err line
Reads wanted (Err Memory) = Unit {0}
