-- What the bytes of a journal stand for: a gate, 96 bytes of digests, and after each open gate a record.
use Rattle.std.specs.Prelude.{◌≡◌, ◌≢◌, ◌⊎◌, ℕ, zero, suc, ◌+◌, ◌==◌, ◌&&◌, nat_le, Bool, true, if◌then◌else◌}
use Rattle.std.specs.Prelude.{List, [], ◌∷◌, ◌++◌, length, take, drop, get_or, Option, Some, None}
use Rattle.proto_core.specs.declared.link.Link.{Link}
use Rattle.proto_core.specs.declared.link.Link.TheVariants.{Link12, Link13, Link21, Link23, Link31, Link32}
use Rattle.served_bytes.specs.Front.{Framed, Whole, Malformed, Truncated}
use Rattle.wire.specs.Frames.{frame_bytes, framed}
use Rattle.kept_frames.specs.Kept.{AllGood, Kept}
use Rattle.kept_disk.specs.Images.{DiskFile, settled}

-- ---- a record

abbrev pub link_number : Link → ℕ
link_number Link12 = 0
link_number Link13 = 1
link_number Link21 = 2
link_number Link23 = 3
link_number Link31 = 4
link_number Link32 = 5

abbrev pub link_at : ℕ → Option Link
link_at n =
    if n == 0 then Some Link12
    else if n == 1 then Some Link13
    else if n == 2 then Some Link21
    else if n == 3 then Some Link23
    else if n == 4 then Some Link31
    else if n == 5 then Some Link32
    else None

-- the bytes after its gate: a byte for the link, four for the count of words, the lowest first, and eight for each word; so those of the message's
-- frame, with the link's number in the place of the first byte
unfoldable pub record_bytes : Kept → List ℕ
record_bytes k = link_number k.link ∷ drop 1 (frame_bytes k.words)

-- the record with which bytes begin, and the bytes after it
abbrev pub of_link : Option Link → Framed → Option (Kept × List ℕ)
of_link None f = None
of_link (Some l) (Whole words rest) = Some (record { link = l; words = words }, rest)
of_link (Some l) (Malformed place) = None
of_link (Some l) Truncated = None

unfoldable pub read_record : List ℕ → Option (Kept × List ℕ)
read_record [] = None
read_record (number ∷ rest) = of_link (link_at number) (framed (1 ∷ rest))

-- ---- a gate

-- what stands at a gate: it isn't open; a record, and the bytes from the next gate on; or an open gate with no record after it, or no gate after that
pub data Gate : Type 0 where
  Shut : Gate
  Open : (kept : Kept) (rest : List ℕ) → Gate
  Broken : Gate

abbrev pub behind_record : Option (Kept × List ℕ) → Gate
behind_record None = Broken
behind_record (Some (kept, [])) = Broken
behind_record (Some (kept, gate ∷ rest)) = Open kept (gate ∷ rest)

abbrev pub at_gate : List ℕ → Gate
at_gate [] = Shut
at_gate (gate ∷ rest) = if gate == 1 then behind_record (read_record rest) else Shut

-- by what stands there
abbrev pub of_gate : {A : Type 0} → (shut : A) → (Kept → List ℕ → A) → (wrong : A) → Gate → A
of_gate shut goes wrong Shut = shut
of_gate shut goes wrong (Open kept rest) = goes kept rest
of_gate shut goes wrong Broken = wrong

-- ---- a file

-- the records up to the first gate that isn't open, or that is broken; none takes fewer bytes than one
abbrev pub records : (fuel : ℕ) → List ℕ → List Kept
records zero bytes = []
records (suc fuel) bytes = of_gate [] (λ kept rest. kept ∷ records fuel rest) [] (at_gate bytes)

-- the place of the first gate that is broken, where all before it are open
abbrev pub broken : (fuel place : ℕ) → List ℕ → Option ℕ
broken zero place bytes = None
broken (suc fuel) place bytes = of_gate None (λ kept rest. broken fuel (place + 1 + length (record_bytes kept)) rest) (Some place) (at_gate bytes)

-- a gate, 96 bytes, and the gate of the first record
abbrev pub is_begun : List ℕ → Bool
is_begun file = nat_le 98 (length file) && (get_or file 0 0 == 1)

abbrev pub digests : List ℕ → List ℕ
digests file = take 96 (drop 1 file)

-- the history of a journal: the records that it has, in order; none where it isn't begun
abbrev pub history : List ℕ → List Kept
history file = if is_begun file then records (length file) (drop 97 file) else []

-- the place of the open gate that has no whole record after it, where there is such a gate
abbrev pub fault : List ℕ → Option ℕ
fault file = if is_begun file then broken (length file) 97 (drop 97 file) else None

-- ---- what a crash may leave

-- it stands for these records, and has no fault; and where it is begun, it is with these digests
pub record StandsFor (sums : List ℕ) (rs : List Kept) (file : List ℕ) : Type 0 where
  pub reads : history file ≡ rs
  pub signed : is_begun file ≡ true → digests file ≡ sums
  pub good : fault file ≡ None

-- these records, with one more or without it
abbrev pub WithOrWithout : (sums : List ℕ) (rs : List Kept) (a : Kept) → List ℕ → Type 0
WithOrWithout sums rs a file = StandsFor sums rs file ⊎ StandsFor sums (rs ++ a ∷ []) file

-- open gates and the records after them
abbrev pub blocks : List Kept → List ℕ
blocks [] = []
blocks (a ∷ rs) = 1 ∷ (record_bytes a ++ blocks rs)

-- a journal that is begun, its records up to a place, and what stands from there on
pub record Walked (sums : List ℕ) (rs : List Kept) (file : List ℕ) (place : ℕ) (rest : List ℕ) : Type 0 where
  pub sums_long : length sums ≡ 96
  pub good : AllGood rs
  pub are : file ≡ ((1 ∷ sums) ++ blocks rs) ++ rest
  pub placed : place ≡ 97 + length (blocks rs)

-- all its records are before this place, where a gate is that isn't open; and all of it is on the disk
pub record IsSettled (sums : List ℕ) (rs : List Kept) (file : DiskFile) (place : ℕ) : Type 0 where
  pub gate : ℕ
  pub tail : List ℕ
  pub shut : gate ≢ 1
  pub walked : Walked sums rs file.seen place (gate ∷ tail)
  pub synced : file.now ≡ settled file.seen
