-- A slice that is filled from a disk, part by part.
use Rattle.std.proofs.Common.{◌≡◌, ℕ, ◌+◌, ◌≤◌, true, List, ◌++◌, length, take, drop, sym, ap, ◌∙◌, arith}
use Rattle.std.proofs.Math.Seq.{take-add, take-append-add}
use Rattle.std.proofs.lemmas.List.{drop-drop, length-drop, length-take, length-take-le, take-append-le, take_all}
use borrow.Rule.Slice.PartMut.{put_mid, post_of, same_len_mid}
use Rattle.kept_disk.specs.Disk.{DiskState, AreAt, held}

front_and_more : (front more : List ℕ) (n k : ℕ) → length front ≡ n → take (n + k) (front ++ more) ≡ front ++ take k more
front_and_more front more n k size = rw (← size) (take-append-add front more k)

-- bytes that were read after those before
pub more_filled : (all : List ℕ) (from done k room : ℕ) (before part : List ℕ)
    → take done before ≡ take done (drop from all) → take k part ≡ take (length (take k part)) (drop (from + done) all)
    → done ≤ length before → k ≤ length part
    → take (done + k) (put_mid done room before part) ≡ take (done + k) (drop from all)
more_filled all from done k room before part filled read fits few =
    let size : length (take done before) ≡ done = omega (arith, length-take done before, fits) in
    let there : take (done + k) (put_mid done room before part) ≡ take done before ++ take k part =
    front_and_more (take done before) (part ++ post_of done room before) done k size
    ∙ ap (λ (xs : List ℕ). take done before ++ xs) (take-append-le k part (post_of done room before) few) in
    let got : take k part ≡ take k (drop (from + done) all) =
    read ∙ ap (λ (m : ℕ). take m (drop (from + done) all)) (omega (arith, length-take k part, few)) in
    there
    ∙ ap (λ (xs : List ℕ). xs ++ take k part) filled
    ∙ ap (λ (xs : List ℕ). take done (drop from all) ++ xs) (got ∙ ap (take k) (sym (drop-drop done from all)))
    ∙ sym (take-add done k (drop from all))

-- a part that was put back leaves the length
pub length-put_part : (done room : ℕ) (before part : List ℕ) → length part ≡ room → done + room ≤ length before
    → length (put_mid done room before part) ≡ length before
length-put_part done room before part long fits =
    same_len_mid done room before part (omega (arith, long, length-take-le room (drop done before) (omega (arith, length-drop done before, fits))))

pub all_filled : (s : DiskState) (from done : ℕ) (into : List ℕ) → (s.told ≡ true → take done into ≡ take done (drop from (held s).seen)) → done ≡ length into
    → AreAt s from into
all_filled s from done into filled full t =
    sym (take_all (length into) into (omega arith))
    ∙ ap (λ n. take n into) (sym full)
    ∙ filled t
    ∙ ap (λ n. take n (drop from (held s).seen)) full
