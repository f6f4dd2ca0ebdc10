-- A record is read of its bytes, and what is read was spelled so.
use Rattle.std.proofs.Common.{◌≡◌, ◌≢◌, ℕ, false, if◌then◌else◌, ◌==◌, List, ◌∷◌, ◌++◌, drop}
use Rattle.std.proofs.Common.{Some, refl, ◌∙◌, ap, arith}
use Rattle.std.proofs.lemmas.Bool.Decides.{nat_tests}
use Rattle.proto_core.specs.declared.link.Link.{Link}
use Rattle.proto_core.specs.declared.link.Link.TheVariants.{Link12, Link13, Link21, Link23, Link31, Link32}
use Rattle.wire.specs.Frames.{IsFrameable, frame_bytes, framed}
use Rattle.wire.proofs.FrameLaws.{framed-frame_bytes}
use Rattle.kept_frames.specs.Kept.{Kept}
use Rattle.miner_journal.specs.Format.{Shut, Open, link_number, link_at, of_link, record_bytes, read_record, behind_record, at_gate}

link_again : (l : Link) → link_at (link_number l) ≡ Some l
link_again Link12 = refl
link_again Link13 = refl
link_again Link21 = refl
link_again Link23 = refl
link_again Link31 = refl
link_again Link32 = refl

frame_head : (words rest : List ℕ) → 1 ∷ (drop 1 (frame_bytes words) ++ rest) ≡ frame_bytes words ++ rest
unfolding frame_bytes
frame_head words rest = refl

-- what is written is read
pub reads_again : (k : Kept) (rest : List ℕ) → IsFrameable k.words → read_record (record_bytes k ++ rest) ≡ Some (k, rest)
unfolding read_record record_bytes
reads_again k rest good =
    ap (λ l. of_link l (framed (1 ∷ (drop 1 (frame_bytes k.words) ++ rest)))) (link_again k.link)
    ∙ ap (λ v. of_link (Some k.link) (framed v)) (frame_head k.words rest)
    ∙ ap (of_link (Some k.link)) (framed-frame_bytes k.words rest good)

pub not_one : (g : ℕ) → g ≢ 1 → (g == 1) ≡ false
not_one g shut = grind (arith, nat_tests)

pub gate_shut : (gate : ℕ) (rest : List ℕ) → gate ≢ 1 → at_gate (gate ∷ rest) ≡ Shut
gate_shut gate rest shut = ap (λ b. if b then behind_record (read_record rest) else Shut) (not_one gate shut)

pub gate_open : (k : Kept) (gate : ℕ) (rest : List ℕ) → IsFrameable k.words
    → at_gate (1 ∷ (record_bytes k ++ gate ∷ rest)) ≡ Open k (gate ∷ rest)
gate_open k gate rest good = ap behind_record (reads_again k (gate ∷ rest) good)
