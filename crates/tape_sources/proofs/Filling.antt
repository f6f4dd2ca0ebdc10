-- A slice that is filled from a file, part by part.
use Rattle.std.proofs.Common.{◌≡◌, ℕ, ◌+◌, ◌*◌, ◌<◌, ◌≤◌, true, List, [], ◌++◌, length, take, drop, get_or, ◌^◌, Option, Some, None, IfSome, IsSomeAnd, refl}
use Rattle.std.proofs.Common.{sym, ap, ◌∙◌, subst, arith}
use Rattle.std.proofs.Math.Seq.{take-add, take-append-add, take-length}
use Rattle.std.proofs.lemmas.List.{drop-drop, length-drop, length-take, length-take-le, take-append-le}
use Rattle.std.proofs.lemmas.Slice.{take-put_mid}
use borrow.Rule.Slice.PartMut.{put_mid, post_of, same_len_mid}
use Rattle.byteorder.specs.Endian.{little_number}
use Rattle.outside.specs.Files.{FilesState, SameFiles, OnlyRead, BytesFrom, EndsBefore, file_at}
use Rattle.tape_file.specs.Format.{words_at}
use Rattle.tape_sources.specs.FileTapes.{file_in}
use Rattle.tape_sources.proofs.Splits.{numbers_are_words, words_more}

-- reads after reads
pub reads_more : {a b c : FilesState} → OnlyRead a b → OnlyRead b c → OnlyRead a c
reads_more p q = record {
  same = record { told = q.same.told ∙ p.same.told; contents = q.same.contents ∙ p.same.contents };
  later = omega (arith, p.later, q.later);
  still = λ s. q.still (p.still s);
}

pub reads_none : (a : FilesState) → OnlyRead a a
reads_none a = record { same = record { told = refl; contents = refl }; later = omega arith; still = λ s. s }

-- the same file is there
pub same_file : {a b : FilesState} (path : List ℕ) → OnlyRead a b → file_in b path ≡ file_in a path
same_file path p = ap (λ files. file_at files path) p.same.contents

front_and_more : (front more : List ℕ) (n k : ℕ) → length front ≡ n → take (n + k) (front ++ more) ≡ front ++ take k more
front_and_more front more n k size = rw (← size) (take-append-add front more k)

-- bytes that were read after those before
pub more_filled : (file : Option (List ℕ)) (from done k room : ℕ) (before part : List ℕ)
    → IfSome file (λ all. take done before ≡ take done (drop from all)) → BytesFrom file (from + done) (take k part)
    → done ≤ length before → k ≤ length part
    → IfSome file (λ all. take (done + k) (put_mid done room before part) ≡ take (done + k) (drop from all))
more_filled None from done k room before part filled read fits few = tt
more_filled (Some all) from done k room before part filled read fits few =
    let size : length (take done before) ≡ done = omega (arith, length-take done before, fits) in
    let there : take (done + k) (put_mid done room before part) ≡ take done before ++ take k part =
    front_and_more (take done before) (part ++ post_of done room before) done k size
    ∙ ap (λ (xs : List ℕ). take done before ++ xs) (take-append-le k part (post_of done room before) few) in
    let got : take k part ≡ take k (drop (from + done) all) =
    read ∙ ap (λ (m : ℕ). take m (drop (from + done) all)) (omega (arith, length-take k part, few)) in
    there
    ∙ ap (λ (xs : List ℕ). xs ++ take k part) filled
    ∙ ap (λ (xs : List ℕ). take done (drop from all) ++ xs) (got ∙ ap (take k) (sym (drop-drop done from all)))
    ∙ sym (take-add done k (drop from all))

-- a part that was put back leaves the length
pub length-put_part : (done room : ℕ) (before part : List ℕ) → length part ≡ room → done + room ≤ length before
    → length (put_mid done room before part) ≡ length before
length-put_part done room before part long fits =
    same_len_mid done room before part (omega (arith, long, length-take-le room (drop done before) (omega (arith, length-drop done before, fits))))

-- a step of reading, by what a call of the store ensures
pub read_once : {a b : FilesState} → SameFiles a b → a.faults ≤ b.faults → (a.steady ≡ true → b.steady ≡ true) → OnlyRead a b
read_once same later still = record { same = same; later = later; still = still }

-- what was read of the store as it is now, of which nothing was written
pub read_of_same : {a b : FilesState} (path : List ℕ) (from : ℕ) (bytes : List ℕ) → OnlyRead a b
    → BytesFrom (file_at b.contents path) from bytes → BytesFrom (file_in a path) from bytes
read_of_same path from bytes read got = subst (λ file. BytesFrom file from bytes) (same_file path read) got

pub words_of_same : {a b : FilesState} (path : List ℕ) (from : ℕ) (words : List ℕ) → OnlyRead a b
    → IfSome (file_in b path) (λ all. words ≡ words_at from (length words) all) → IfSome (file_in a path) (λ all. words ≡ words_at from (length words) all)
words_of_same path from words read got = subst (λ file. IfSome file (λ all. words ≡ words_at from (length words) all)) (same_file path read) got

pub nothing_read : (file : Option (List ℕ)) (from : ℕ) → IfSome file (λ all. [] ≡ words_at from 0 all)
unfolding words_at
nothing_read None from = tt
nothing_read (Some all) from = refl

-- what is left to read of a file that ends too early
pub ends_too_early : (file : Option (List ℕ)) (sized : Option ℕ) (from done room : ℕ) → EndsBefore file sized (from + done) → done < room
    → IfSome file (λ all. length all < from + room)
ends_too_early None sized from done room ends lt = tt
ends_too_early (Some all) sized from done room ends lt = omega (arith, ends.0, lt)

-- a place below the end is below the size that was answered
pub is_below : (sized : Option ℕ) (from done room : ℕ) → IsSomeAnd sized (λ size. from + room ≤ size) → done < room → IsSomeAnd sized (λ size. from + done < size)
is_below None from done room h lt = h
is_below (Some size) from done room h lt = omega (arith, h, lt)

-- part of what is to be read is within the size, too
pub is_sized_to : (sized : Option ℕ) (end further : ℕ) → IsSomeAnd sized (λ size. further ≤ size) → end ≤ further → IsSomeAnd sized (λ size. end ≤ size)
is_sized_to None end further h le = h
is_sized_to (Some size) end further h le = omega (arith, h, le)

-- the whole slice is filled
pub all_filled : (file : Option (List ℕ)) (from done : ℕ) (into : List ℕ) → IfSome file (λ all. take done into ≡ take done (drop from all)) → done ≡ length into
    → IfSome file (λ all. into ≡ take (length into) (drop from all))
all_filled None from done into filled is = tt
all_filled (Some all) from done into filled is = sym (take-length into) ∙ subst (λ (n : ℕ). take n into ≡ take n (drop from all)) is filled

-- the words in bytes that were filled
pub words_filled : (file : Option (List ℕ)) (from n : ℕ) (bytes words : List ℕ) → IfSome file (λ all. bytes ≡ take (length bytes) (drop from all))
    → length bytes ≡ 8 * n → length words ≡ n
    → ((k : ℕ) → k < length words → get_or words k 0 ≡ little_number 8 (drop (8 * k) bytes)) → ((k : ℕ) → get_or words k 0 < 2 ^ 64)
    → IfSome file (λ all. words ≡ words_at from (length words) all)
words_filled None from n bytes words filled size long read fits = tt
words_filled (Some all) from n bytes words filled size long read fits =
    numbers_are_words from n all bytes words (filled ∙ ap (λ (m : ℕ). take m (drop from all)) size) long read fits
    ∙ ap (λ (m : ℕ). words_at from m all) (sym long)

-- words that were read after those before
pub more_words : (file : Option (List ℕ)) (from done count room : ℕ) (before part : List ℕ) → IfSome file (λ all. take done before ≡ words_at from done all)
    → IfSome file (λ all. part ≡ words_at (from + 8 * done) (length part) all) → length part ≡ count → done ≤ length before
    → IfSome file (λ all. take (done + count) (put_mid done room before part) ≡ words_at from (done + count) all)
more_words None from done count room before part first then long fits = tt
more_words (Some all) from done count room before part first then long fits =
    take-put_mid done room before part (done + count) (omega (arith, long)) fits
    ∙ words_more from done count all (take done before) part first (then ∙ ap (λ (m : ℕ). words_at (from + 8 * done) m all) long)

-- all words were read
pub all_words : (file : Option (List ℕ)) (from done : ℕ) (into : List ℕ) → IfSome file (λ all. take done into ≡ words_at from done all) → done ≡ length into
    → IfSome file (λ all. into ≡ words_at from (length into) all)
all_words None from done into first is = tt
all_words (Some all) from done into first is = sym (take-length into) ∙ subst (λ (n : ℕ). take n into ≡ words_at from n all) is first
