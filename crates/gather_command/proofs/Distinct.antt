-- Entries that may stand in one file.
use Rattle.std.proofs.Common.{◌≡◌, ℕ, suc, ◌≤◌, List, [], ◌∷◌, ◌++◌, All, length, map, Bool, true, false, not, ◌&&◌, if◌then◌else◌, Some, None, Option}
use Rattle.std.proofs.Common.{refl, ap, sym, subst, ◌∙◌, arith, Ok, Err, Result, IfOk}
use Rattle.std.proofs.lemmas.List.{map-append}
use Rattle.std.proofs.lemmas.List.Elements.{All-append, All-cons}
use Rattle.std.specs.List.{list_any}
use Rattle.std.specs.Str.{bytes_eq}
use Rattle.sc_text.specs.Name.{is_name}
use Rattle.value_file.specs.Input.{new_name, AreEntries, IsEntry}
use Rattle.input_share.specs.declared.entry.ShareEntry.{ShareEntry}
use Rattle.input_share.specs.ShareFile.{MinerFile}
use Rattle.input_share.specs.Reading.{share_count_of, share_name_of, AreWritable, IsWhole}
use Rattle.gather_command.specs.Gathering.{distinct, entries_in, gathered, lens_from, name_again, none_again}
use Rattle.gather_command.specs.declared.gathering.GatherErr.{GatherErr}

-- an entry that may stand in a file by itself
record IsGood (e : ShareEntry) : Type 0 where
  name : is_name e.name ≡ true
  short : share_count_of e ≤ 65536
  whole : IsWhole e

named : (before : List (List ℕ)) (name : List ℕ) → new_name before name ≡ Some name → is_name name ≡ true
unfolding new_name
named before name new = go (is_name name) (list_any (bytes_eq name) before) new
  where
    go : (a b : Bool) → (if a && not b then Some name else None) ≡ Some name → a ≡ true
    go true b h = refl
    go false b h = absurd cc

new : (before : List (List ℕ)) (name : List ℕ) → is_name name ≡ true → list_any (bytes_eq name) before ≡ false → new_name before name ≡ Some name
unfolding new_name
new before name is none = rw (is, none) refl

all_good : (before es : List ShareEntry) → AreEntries share_name_of share_count_of before es → All IsWhole es → All IsGood es
all_good before [] are whole = λ k d h. absurd (omega arith)
all_good before (e ∷ es) are whole =
    All-cons IsGood e es
    (record { name = named (map share_name_of before) e.name are.0.fresh; short = are.0.short; whole = whole 0 e (omega arith) })
    (all_good (before ++ e ∷ []) es are.1 (λ k d h. whole (suc k) d (omega arith)))

good_in : (files : List MinerFile) → All (λ f. AreWritable f.entries) files → All IsGood (entries_in files)
good_in [] all = λ k d h. absurd (omega arith)
good_in (f ∷ fs) all =
    let here = all 0 f (omega arith) in
    All-append IsGood f.entries (entries_in fs) (all_good [] f.entries here.form here.whole) (good_in fs (λ k d h. all (suc k) d (omega arith)))

cases : (b : Bool) (name : List ℕ) (rest : Option (List ℕ)) → (if b then Some name else rest) ≡ None → (b ≡ false) × (rest ≡ None)
cases true name rest is = absurd cc
cases false name rest is = (refl, is)

apart : (before es : List ShareEntry) → All IsGood es → name_again (map share_name_of before) (map share_name_of es) ≡ None
    → AreEntries share_name_of share_count_of before es
unfolding name_again
apart before [] good none = tt
apart before (e ∷ es) good none =
    let here = good 0 e (omega arith) in
    let (fresh, rest) = cases (list_any (bytes_eq e.name) (map share_name_of before)) e.name
    (name_again (map share_name_of before ++ e.name ∷ []) (map share_name_of es)) none in
    let next : map share_name_of before ++ e.name ∷ [] ≡ map share_name_of (before ++ e ∷ []) = sym (map-append share_name_of before (e ∷ [])) in (
      record { fresh = new (map share_name_of before) e.name here.name fresh; short = here.short },
      apart (before ++ e ∷ []) es (λ k d h. good (suc k) d (omega arith))
          (ap (λ (ns : List (List ℕ)). name_again ns (map share_name_of es)) (sym next) ∙ rest),
    )

whole_of : (es : List ShareEntry) → All IsGood es → All IsWhole es
whole_of es good = λ k d h. (good k d h).whole

abbrev told : List ShareEntry → Result (List ShareEntry) GatherErr
told es = Ok es

same_entries : (es fs : List ShareEntry) → told es ≡ told fs → es ≡ fs
same_entries es fs is = cc

-- distinct entries of files that may stand are such as may stand in one file
pub writable : (first : MinerFile) (more : List MinerFile) (entries : List ShareEntry) → AreWritable first.entries
    → All (λ f. AreWritable f.entries) more → distinct (first.entries ++ entries_in more) ≡ Ok entries → AreWritable entries
writable first more entries f fs is = go (name_again [] (map share_name_of (first.entries ++ entries_in more))) refl is
  where
    go : (again : Option (List ℕ)) → name_again [] (map share_name_of (first.entries ++ entries_in more)) ≡ again
        → none_again again (first.entries ++ entries_in more) ≡ Ok entries → AreWritable entries
    go (Some name) none is = absurd cc
    go None none is =
        let good : All IsGood (first.entries ++ entries_in more) =
        All-append IsGood first.entries (entries_in more) (all_good [] first.entries f.form f.whole) (good_in more fs) in
        subst AreWritable (same_entries (first.entries ++ entries_in more) entries is)
        (record { form = apart [] (first.entries ++ entries_in more) good none; whole = whole_of (first.entries ++ entries_in more) good })
