-- A journal that is read to its end.
use Rattle.std.specs.Prelude.{◌≡◌, ℕ, ◌+◌, List, [], ◌∷◌, length, drop, true}
use Rattle.wire.specs.Frames.{AreBytes}
use Rattle.kept_disk.specs.Images.{DiskFile, settled}
use Rattle.kept_frames.specs.Kept.{Kept}
use Rattle.miner_journal.specs.Format.{IsSettled, Open, Shut, at_gate, digests, is_begun, record_bytes}

-- from this place on these records stand one after another, each after an open gate, up to the last place
abbrev pub Leads : (seen : List ℕ) (place : ℕ) → List Kept → (last : ℕ) → Type 0
Leads seen place [] last = last ≡ place
Leads seen place (k ∷ ks) last =
    ((rest : List ℕ) × (at_gate (drop place seen) ≡ Open k rest)) × Leads seen (place + 1 + length (record_bytes k)) ks last

-- a journal that is begun with these digests, all of it on the disk; its records were read up to a gate that isn't open
pub record IsReplayed (sums : List ℕ) (rs : List Kept) (file : DiskFile) (place : ℕ) : Type 0 where
  pub begun : is_begun file.seen ≡ true
  pub signed : digests file.seen ≡ sums
  pub synced : file.now ≡ settled file.seen
  pub leads : Leads file.seen 97 rs place
  pub shut : at_gate (drop place file.seen) ≡ Shut

-- then a message can be kept there
abbrev pub SettlesReplayed : (sums : List ℕ) (rs : List Kept) (file : DiskFile) (place : ℕ) → Type 0
SettlesReplayed sums rs file place = AreBytes file.seen → IsReplayed sums rs file place → IsSettled sums rs file place
