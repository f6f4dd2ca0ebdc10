-- A refusal that is handed on.
use Rattle.std.proofs.Common.{◌≡◌, Result, Ok, Err, IsErrAnd, subst, sym}
use Rattle.value_file.specs.declared.read_err.ReadErr.{ReadErr}
use Rattle.value_file.specs.declared.read_err.ReadErr.TheVariants.{Syntax, BadField, TooLong, Memory}
use Rattle.value_file.specs.Reads.{Reads}

-- the refusal of a part, where it is that of the whole
Reads-whole : {X Y : Type 0} (part : Result X ReadErr) (whole : Result Y ReadErr) (refusal : ReadErr) → ((r : ReadErr) → part ≡ Err r → whole ≡ Err r)
    → Reads part (Err refusal) → Reads whole (Err refusal)
Reads-whole part whole Syntax up read = up Syntax read
Reads-whole part whole (BadField entry name) up read = up (BadField entry name) read
Reads-whole part whole (TooLong entry) up read = up (TooLong entry) read
Reads-whole part whole Memory up read = tt

-- the answer that hands it on
pub Reads-handed_on : {X Y : Type 0} (part : Result X ReadErr) (whole : Result Y ReadErr) (refusal : ReadErr) (answer : Result Y ReadErr)
    → ((r : ReadErr) → part ≡ Err r → whole ≡ Err r) → Reads part (Err refusal) → IsErrAnd answer (λ e. e ≡ refusal) → Reads whole answer
Reads-handed_on part whole refusal (Ok y) up read handed = absurd handed
Reads-handed_on part whole refusal (Err e) up read handed = subst (λ r. Reads whole (Err r)) (sym handed) (Reads-whole part whole refusal up read)
