-- A digest has 32 bytes.
use Rattle.std.proofs.Common.{◌≡◌, ◌+◌, ◌*◌, ℕ, zero, suc, List, ◌++◌, length, refl, length-append, arith}
use Rattle.std.specs.Prelude.{slice_index}
use Rattle.std.specs.Int.{to_be_bytes, w32}
use Rattle.sha2.specs.Sha256.{digest_bytes, final_hash, initial_hash_256, sha256}

digest_length : (h : List ℕ) (n : ℕ) → length (digest_bytes h n) ≡ 4 * n
unfolding digest_bytes
digest_length h zero = refl
digest_length h (suc n) =
    let before : length (digest_bytes h n) ≡ 4 * n = digest_length h n in
    let more : length (digest_bytes h n ++ to_be_bytes w32 (slice_index h n)) ≡ length (digest_bytes h n) + 4 = length-append (digest_bytes h n) _ in
    omega arith

pub sha256_length : (m : List ℕ) → length (sha256 m) ≡ 32
unfolding sha256
sha256_length m = digest_length (final_hash initial_hash_256 m) 8
