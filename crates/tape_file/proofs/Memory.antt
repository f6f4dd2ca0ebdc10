-- A reader that runs out of memory.
use Rattle.std.proofs.Common.{◌≡◌, ℕ, Result, Ok, Err, IsErrAnd, refl}
use Rattle.tape_file.specs.declared.read_err.ReadErr.{ReadErr}
use Rattle.tape_file.specs.declared.read_err.ReadErr.TheVariants.{BadTape, Memory}
use Rattle.tape_file.specs.Reads.{Reads}

-- the answer `Memory` is good for a file without fault
pub Reads-memory : {X Y : Type 0} (shown : X → Y) (wanted : Result Y ℕ) (value : Y) (answer : Result X ReadErr) → wanted ≡ Ok value
    → IsErrAnd answer (λ e. e ≡ Memory) → Reads shown wanted answer
Reads-memory shown wanted value (Ok x) sound e = absurd e
Reads-memory shown wanted value (Err (BadTape place)) sound e = cc
Reads-memory shown wanted value (Err Memory) sound e = rw sound refl
