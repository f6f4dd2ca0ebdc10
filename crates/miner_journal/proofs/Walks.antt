-- What stands at a gate, by the bytes that were read.
use Rattle.std.proofs.Common.{◌≡◌, ◌≢◌, ◌≤◌, ◌<◌, ◌+◌, ◌*◌, ℕ, List, [], ◌∷◌, length, take, drop, get_or, sym, ◌∙◌, ap, arith, length-append}
use Rattle.std.proofs.lemmas.List.{drop_all, drop_more}
use Rattle.byteorder.specs.Endian.{little_bytes}
use Rattle.byteorder.specs.Numbers.{length-bytes_low_first}
use Rattle.tape_file.proofs.WordLists.{length-bytes_of}
use Rattle.tape_file.specs.Format.{bytes_of}
use Rattle.wire.specs.Frames.{frame_bytes}
use Rattle.kept_frames.specs.Kept.{Kept}
use Rattle.miner_journal.specs.Format.{Shut, at_gate, behind_record, link_number, read_record, record_bytes}
use Rattle.miner_journal.proofs.Records.{gate_shut}

pub past_is_shut : (seen : List ℕ) (place : ℕ) → length seen ≤ place → at_gate (drop place seen) ≡ Shut
past_is_shut seen place h = ap at_gate (drop_all place seen h)

-- a byte that was read there
gate_there : (seen : List ℕ) (place gate : ℕ) → place < length seen → gate ∷ [] ≡ take 1 (drop place seen) → drop place seen ≡ gate ∷ drop (place + 1) seen
gate_there seen place gate inside is =
    let more : drop place seen ≡ get_or seen place 0 ∷ drop (place + 1) seen = drop_more seen place 0 inside in
    let same : gate ∷ [] ≡ get_or seen place 0 ∷ [] = is ∙ ap (take 1) more in
    more ∙ ap (λ g. g ∷ drop (place + 1) seen) (sym (ap (λ v. get_or v 0 0) same))

pub closed : (seen : List ℕ) (place gate : ℕ) → place < length seen → gate ∷ [] ≡ take 1 (drop place seen) → gate ≢ 1 → at_gate (drop place seen) ≡ Shut
closed seen place gate inside is shut = ap at_gate (gate_there seen place gate inside is) ∙ gate_shut gate (drop (place + 1) seen) shut

pub opened : (seen : List ℕ) (place gate : ℕ) → place < length seen → gate ∷ [] ≡ take 1 (drop place seen) → gate ≡ 1
    → at_gate (drop place seen) ≡ behind_record (read_record (drop (place + 1) seen))
opened seen place gate inside is one =
    ap at_gate (gate_there seen place gate inside is) ∙ ap (λ g. at_gate (g ∷ drop (place + 1) seen)) one

frame_length : (link : ℕ) (words : List ℕ) → length (link ∷ drop 1 (frame_bytes words)) ≡ 5 + 8 * length words
unfolding frame_bytes
frame_length link words =
    let a = length-append (little_bytes 4 (length words)) (bytes_of words) in
    let b = length-bytes_low_first 0 4 (length words) in
    let c = length-bytes_of words in
    omega (arith, a, b, c)

pub record_length : (k : Kept) → length (record_bytes k) ≡ 5 + 8 * length k.words
unfolding record_bytes
record_length k = frame_length (link_number k.link) k.words
