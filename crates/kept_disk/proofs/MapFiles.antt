-- Files in memory as a map, seen by the bytes of their paths.
use Rattle.std.proofs.Common.{◌≡◌, ◌≢◌, ℕ, List, [], Bool, true, false, cond, Some, None, Result, Ok, Err, OnOk, OnErr}
use Rattle.std.proofs.Common.{refl, sym, ap, ◌∙◌, string_bytes}
use Rattle.std.specs.BTreeMap.{UpdatesBy, get_by_text, is_at}
use Rattle.std.specs.Cmp.Lexicographic.{slice_cmp}
use Rattle.std.specs.Map.{lookup}
use Rattle.std.specs.Ordering.{nat_cmp}
use Rattle.std.specs.Str.{bytes_eq}
use Rattle.std.specs.String.{string_cmp}
use Rattle.std.proofs.lemmas.Bool.{false_from_ne_true}
use Rattle.std.proofs.lemmas.Map.Text.{btree_map_updates_text}
use Rattle.std.proofs.lemmas.Slice.Eq.{bytes_eq-Decides}
use Rattle.kept_disk.specs.Images.{file_with}
use Rattle.kept_disk.specs.LoggedFile.{file_of}
use Rattle.kept_disk.specs.LoggedFiles.{AllStay, IsThere, LoggedFiles, OthersStay, file_in, file_or_empty}
use Rattle.kept_disk.specs.declared.logged_file.LoggedFile.{LoggedFile}

-- this file was put at a path
abbrev pub PutAt : List ℕ → LoggedFiles → LoggedFiles → LoggedFile → Type 0
PutAt path m n f = UpdatesBy string_cmp (λ k. slice_cmp nat_cmp path (string_bytes k)) m n (Some f)

none_some : {X : Type 0} (f : LoggedFile) → Some f ≡ None → X
none_some f e = cc

differ : (a b : List ℕ) → a ≢ b → bytes_eq a b ≡ false
differ a b ne = false_from_ne_true (bytes_eq a b) (λ t. ne ((bytes_eq-Decides a b).0 t))

-- a file that was found
pub found_there : (m : LoggedFiles) (path : List ℕ) (f : LoggedFile) → Some f ≡ get_by_text m path → IsThere m path
found_there m path f is = λ e. none_some f (is ∙ e)

module _ (m n : LoggedFiles) (path : List ℕ) (w : LoggedFile) (put : PutAt path m n w) where
  put_there : get_by_text n path ≡ Some w
  put_there =
      btree_map_updates_text path m n (Some w) put path ∙ ap (λ b. cond b (Some w) (get_by_text m path)) ((bytes_eq-Decides path path).1 refl)

  put_elsewhere : (q : List ℕ) → q ≢ path → get_by_text n q ≡ get_by_text m q
  put_elsewhere q ne =
      btree_map_updates_text path m n (Some w) put q ∙ ap (λ b. cond b (Some w) (get_by_text m q)) (differ path q (λ e. ne (sym e)))

  pub file_there : file_in n path ≡ file_of w
  file_there = ap file_or_empty put_there

  pub others_stay : OthersStay m n path
  others_stay = λ q ne. ap file_or_empty (put_elsewhere q ne)

  pub is_there : IsThere n path
  is_there = λ e. none_some w (sym put_there ∙ e)

-- ---- an empty file where there was none

same_at : (b : Bool) (m n : LoggedFiles) (path q : List ℕ) → bytes_eq q path ≡ b → file_in n path ≡ file_in m path → OthersStay m n path
    → file_in n q ≡ file_in m q
same_at true m n path q e same others =
    let at : q ≡ path = (bytes_eq-Decides q path).0 e in ap (file_in n) at ∙ same ∙ ap (file_in m) (sym at)
same_at false m n path q e same others = others q (λ at. true_false (sym ((bytes_eq-Decides q path).1 at) ∙ e))
  where
    true_false : {X : Type 0} → true ≡ false → X
    true_false f = cc

same_entries : (m n : LoggedFiles) → n.entries ≡ m.entries → AllStay m n
same_entries m n e = λ q. ap (λ es. file_or_empty (lookup (is_at (λ k. slice_cmp nat_cmp q (string_bytes k))) es)) e

pub made_empty : {E : Type 0} (result : Result (Unit {0}) E) (m n : LoggedFiles) (path : List ℕ) → None ≡ get_by_text m path
    → OnOk result (file_in n path ≡ file_with []) → OthersStay m n path → OnErr result (n.entries ≡ m.entries) → AllStay m n
made_empty (Ok x) m n path none made others same = λ q. same_at (bytes_eq q path) m n path q refl (made ∙ ap file_or_empty none) others
made_empty (Err e) m n path none made others same = same_entries m n same
