-- The first bytes of a record, and what stands at a gate.
use Rattle.std.specs.Prelude.{◌≡◌, ℕ, List, ◌∷◌, drop, Option, Some, None, Result, Ok, Err}
use Rattle.proto_core.specs.declared.link.Link.{Link}
use Rattle.proto_core.specs.Lists.{at}
use Rattle.wire.specs.declared.bad_frame.BadFrame.{BadFrame}
use Rattle.wire.specs.Frames.{header_of}
use Rattle.kept_frames.specs.Kept.{Kept}
use Rattle.miner_journal.specs.Format.{Broken, Open, behind_record, link_at, read_record}

-- its link and its count of words
abbrev pub of_head : Option Link → Result ℕ BadFrame → Option (Link × ℕ)
of_head None count = None
of_head (Some l) (Err bad) = None
of_head (Some l) (Ok count) = Some (l, count)

abbrev pub head_of : List ℕ → Option (Link × ℕ)
head_of head = of_head (link_at (at head 0)) (header_of (1 ∷ drop 1 head))

abbrev pub kept_of : Link × List ℕ → Kept
kept_of found = record { link = found.0; words = found.1 }

-- after an open gate stands this record, and a gate after it; or no such record
abbrev pub FindsBehind : List ℕ → Option (Link × List ℕ) → Type 0
FindsBehind rest None = behind_record (read_record rest) ≡ Broken
FindsBehind rest (Some found) = (left : List ℕ) × (behind_record (read_record rest) ≡ Open (kept_of found) left)
