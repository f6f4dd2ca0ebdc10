-- What `next` answers, by what stands at the gate.
use Rattle.std.specs.Prelude.{◌≡◌, ◌+◌, ℕ, List, length, true, Option, Some, None}
use Rattle.outside.specs.Causes.{Rose}
use Rattle.proto_core.specs.declared.link.Link.{Link}
use Rattle.kept_disk.specs.Disk.{DiskState}
use Rattle.miner_journal.specs.declared.journal_err.JournalErr.{JournalErr}
use Rattle.miner_journal.specs.declared.journal_err.JournalErr.TheVariants.{DiskFault, Memory, OtherFile, Broken as BrokenAt}
use Rattle.miner_journal.specs.Format.{Broken, Gate, Open, Shut, record_bytes}
use Rattle.miner_journal.specs.Heads.{kept_of}

module _ (gate : Gate) (before after : ℕ) where
  -- the record after the gate, and from then on the next gate; none where it isn't open
  abbrev pub Finds : Option (Link × List ℕ) → Type 0
  Finds None = (gate ≡ Shut) × (after ≡ before)
  Finds (Some found) = ((rest : List ℕ) × (gate ≡ Open (kept_of found) rest)) × (after ≡ before + 1 + length (record_bytes (kept_of found)))

  abbrev pub FindsNot : (old new : DiskState) → JournalErr → Type 0
  FindsNot old new DiskFault = Rose old.faults new.faults
  FindsNot old new Memory = Unit {0}
  FindsNot old new (OtherFile file) = ⊥
  FindsNot old new (BrokenAt place) = (place ≡ before) × (old.told ≡ true → gate ≡ Broken)
