-- Bytes that were read ahead, and what is taken of them.
use Rattle.std.proofs.Common.{◌≡◌, ℕ, ◌+◌, ◌-◌, ◌*◌, ◌^◌, ◌<◌, ◌≤◌, List, [], ◌++◌, length, take, drop, set, get_or, Bool, true, false, Option, Some, None}
use Rattle.std.proofs.Common.{IfSome, refl, sym, ap, ◌∙◌, subst, arith}
use Rattle.std.specs.Prelude.{nat_eq, slice_index, slice_index_or, slice_range}
use Rattle.std.proofs.Math.Seq.{take-append_seam}
use Rattle.std.proofs.lemmas.Bool.{eqb-true, eqb-false}
use Rattle.std.proofs.lemmas.Grind.{get_or-set_at}
use Rattle.std.proofs.lemmas.List.{drop-drop, drop-take, length-drop, length-set, length-take, length-take-le, take-take, get_or-set_other}
use Rattle.byteorder.specs.Endian.{IsRead, little_number}
use Rattle.outside.specs.Files.{FilesState, OnlyRead}
use Rattle.tape_file.specs.Format.{words_at}
use Rattle.tape_sources.specs.FileTapes.{AreAhead, IsAhead, file_in}
use Rattle.tape_sources.proofs.Filling.{same_file, words_filled}

-- nothing was read
pub ahead_none : (file : Option (List ℕ)) (from : ℕ) → IsAhead file from []
ahead_none None from = tt
ahead_none (Some all) from = refl

-- the first bytes, and the others
pub ahead_part : (file : Option (List ℕ)) (from m : ℕ) (bytes : List ℕ) → IsAhead file from bytes → m ≤ length bytes → IsAhead file from (take m bytes)
ahead_part None from m bytes is le = tt
ahead_part (Some all) from m bytes is le =
    ap (take m) is ∙ take-take m (length bytes) (drop from all) le ∙ ap (λ (n : ℕ). take n (drop from all)) (sym (length-take-le m bytes le))

pub ahead_rest : (file : Option (List ℕ)) (from m : ℕ) (bytes : List ℕ) → IsAhead file from bytes → m ≤ length bytes → IsAhead file (from + m) (drop m bytes)
ahead_rest None from m bytes is le = tt
ahead_rest (Some all) from m bytes is le =
    let whole : length bytes ≡ m + (length bytes - m) = omega (arith, le) in
    ap (drop m) (is ∙ ap (λ (n : ℕ). take n (drop from all)) whole)
    ∙ drop-take m (length bytes - m) (drop from all)
    ∙ ap (take (length bytes - m)) (drop-drop m from all)
    ∙ ap (λ (n : ℕ). take n (drop (from + m) all)) (sym (length-drop m bytes))

-- a part of a list less its first elements
pub range_rest : (bytes : List ℕ) (from to m : ℕ) → from + m ≤ to → slice_range bytes (from + m) to ≡ drop m (slice_range bytes from to)
range_rest bytes from to m le =
    let whole : to - from ≡ m + (to - (from + m)) = omega (arith, le) in
    sym (ap (λ (n : ℕ). drop m (take n (drop from bytes))) whole
    ∙ drop-take m (to - (from + m)) (drop from bytes)
    ∙ ap (take (to - (from + m))) (drop-drop m from bytes))

pub within_range : (bytes : List ℕ) (from to m : ℕ) → m ≤ length (slice_range bytes from to) → from ≤ to → from + m ≤ to
within_range bytes from to m le within = omega (arith, le, within, length-take (to - from) (drop from bytes))

-- what was read into the front of a list is its first part
pub range_read : (part rest : List ℕ) (count : ℕ) → length part ≡ count → slice_range (part ++ rest) 0 count ≡ part
range_read part rest count long =
    let whole : count - 0 ≡ length part = omega (arith, long) in
    ap (λ (n : ℕ). take n (part ++ rest)) whole ∙ take-append_seam part rest

-- words that were read of the first bytes are the file's
pub words_given : (file : Option (List ℕ)) (from n : ℕ) (bytes words : List ℕ) → IsAhead file from bytes → 8 * n ≤ length bytes → length words ≡ n
    → IsRead little_number 8 (take (8 * n) bytes) words → ((k : ℕ) → get_or words k 0 < 2 ^ 64)
    → IfSome file (λ all. words ≡ words_at from (length words) all)
words_given file from n bytes words is le long read fits =
    words_filled file from n (take (8 * n) bytes) words (ahead_part file from (8 * n) bytes is le) (length-take-le (8 * n) bytes le) long read fits

-- of each party, after a draw of one, by a store that was only read
pub ahead_after : {a b : FilesState} (path : List ℕ) (next : List ℕ) (ahead : List (List ℕ)) (party place : ℕ) (bytes : List ℕ) → OnlyRead a b
    → party < length next → party < length ahead → AreAhead (file_in a path) next ahead → IsAhead (file_in a path) place bytes
    → AreAhead (file_in b path) (set next party place) (set ahead party bytes)
ahead_after {a} {b} path next ahead party place bytes read in_next in_ahead are is =
    subst (λ (file : Option (List ℕ)). AreAhead file (set next party place) (set ahead party bytes)) (sym (same_file path read))
    (λ p d lt. at p d lt (nat_eq p party) refl)
  where
    at : (p : ℕ) (d : List ℕ) → p < length (set ahead party bytes) → (b : Bool) → nat_eq p party ≡ b
        → IsAhead (file_in a path) (slice_index (set next party place) p) (slice_index_or (set ahead party bytes) p d)
    at p d lt true e =
        let same = eqb-true p party e in
        rw (get_or-set_at next party p place 0 same in_next, get_or-set_at ahead party p bytes d same in_ahead) is
    at p d lt false e =
        let other = eqb-false p party e in
        rw (get_or-set_other next party p place 0 other, get_or-set_other ahead party p bytes d other)
        (are p d (subst (λ (n : ℕ). p < n) (length-set ahead party bytes) lt))

-- and after a draw that failed
pub ahead_failed : {a b : FilesState} (path : List ℕ) (next : List ℕ) (ahead : List (List ℕ)) (party : ℕ) → OnlyRead a b → party < length ahead
    → AreAhead (file_in a path) next ahead → AreAhead (file_in b path) next (set ahead party [])
ahead_failed {a} {b} path next ahead party read in_ahead are =
    subst (λ (file : Option (List ℕ)). AreAhead file next (set ahead party [])) (sym (same_file path read)) (λ p d lt. at p d lt (nat_eq p party) refl)
  where
    at : (p : ℕ) (d : List ℕ) → p < length (set ahead party []) → (b : Bool) → nat_eq p party ≡ b
        → IsAhead (file_in a path) (slice_index next p) (slice_index_or (set ahead party []) p d)
    at p d lt true e = rw (get_or-set_at ahead party p [] d (eqb-true p party e) in_ahead) (ahead_none (file_in a path) (slice_index next p))
    at p d lt false e =
        rw (get_or-set_other ahead party p [] d (eqb-false p party e)) (are p d (subst (λ (n : ℕ). p < n) (length-set ahead party []) lt))
