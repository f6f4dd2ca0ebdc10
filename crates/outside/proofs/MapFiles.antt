-- Files in memory as a map, seen by the bytes of their paths.
use Rattle.std.proofs.Common.{◌≡◌, ◌≢◌, ℕ, List, [], ◌∷◌, ◌++◌, Bool, true, false, cond, Option, Some, None, option_map, IsSomeAnd, refl, sym, ap, ◌∙◌, String}
use Rattle.std.proofs.Common.{string_bytes}
use Rattle.std.specs.declared.alloc.Global.{Global}
use Rattle.std.specs.BTreeMap.{BTreeMap, UpdatesBy, get_by_text, is_at}
use Rattle.std.specs.Cmp.Lexicographic.{slice_cmp}
use Rattle.std.specs.FinMap.{find, get-from_entries, get-insert, same_map, slice_cmp-IsAntisymmetric, nat_cmp-IsAntisymmetric}
use Rattle.std.specs.Map.{lookup}
use Rattle.std.specs.Option.{option_and_then}
use Rattle.std.specs.Ordering.{nat_cmp, is_eq}
use Rattle.std.specs.Str.{bytes_eq}
use Rattle.std.specs.String.{string_cmp}
use Rattle.std.proofs.lemmas.Bool.{false_from_ne_true}
use Rattle.std.proofs.lemmas.Cmp.{nat_list_cmp_total}
use Rattle.std.proofs.lemmas.Map.Text.{is_eq-slice_cmp, btree_map_updates_text}
use Rattle.std.proofs.lemmas.Slice.Eq.{bytes_eq-Decides}
use Rattle.outside.specs.Files.{Contents, FilesState, Appended, Wrote, OnlyAt, file_at, with_file}
use Rattle.outside.specs.MemFile.{pairs_of, contents_of, size_in}
use Rattle.outside.specs.declared.mem_file.MemFile.{MemFile}

abbrev Entries : Type 0
Entries = List (String Global × MemFile)

abbrev MapFiles : Type 0
MapFiles = BTreeMap (String Global) MemFile

abbrev bytes_in : Option MemFile → Option (List ℕ)
bytes_in = option_map (λ f. f.bytes.items)

-- this file was put at a path
abbrev pub PutAt : List ℕ → MapFiles → MapFiles → MemFile → Type 0
PutAt path m n f = UpdatesBy string_cmp (λ k. slice_cmp nat_cmp path (string_bytes k)) m n (Some f)

found_in : (es : Entries) (q : List ℕ) → find (slice_cmp nat_cmp) q (pairs_of es) ≡ bytes_in (lookup (is_at (λ k. slice_cmp nat_cmp q (string_bytes k))) es)
found_in [] q = refl
found_in (e ∷ es) q =
    elim (is_eq (slice_cmp nat_cmp q (string_bytes e.0))) as (λ b. cond b (Some e.1.bytes.items) (find (slice_cmp nat_cmp) q (pairs_of es))
    ≡ bytes_in (cond b (Some e.1) (lookup (is_at (λ k. slice_cmp nat_cmp q (string_bytes k))) es))) [
      | true ↦ refl
      | false ↦ found_in es q
    ]

-- the bytes of the file that the map has at this path
pub file_found : (files : MapFiles) (q : List ℕ) → file_at (contents_of files) q ≡ bytes_in (get_by_text files q)
file_found files q = get-from_entries nat_list_cmp_total (pairs_of files.entries) q ∙ found_in files.entries q

pub found_some : (files : MapFiles) (path : List ℕ) (f : MemFile) → Some f ≡ get_by_text files path → (bytes : List ℕ) → bytes ≡ f.bytes.items
    → Some bytes ≡ file_at (contents_of files) path
found_some files path f is bytes same = ap Some same ∙ ap bytes_in is ∙ sym (file_found files path)

pub found_none : (files : MapFiles) (path : List ℕ) → None ≡ get_by_text files path → None ≡ file_at (contents_of files) path
found_none files path is = ap bytes_in is ∙ sym (file_found files path)

pub size_found : (files : MapFiles) (path : List ℕ) (f : MemFile) → Some f ≡ get_by_text files path → f.sized ≡ size_in files path
size_found files path f is = ap (option_and_then (λ f. f.sized)) is

same_truth : (a b : Bool) → (a ≡ true → b ≡ true) → (b ≡ true → a ≡ true) → a ≡ b
same_truth true b f g = sym (f refl)
same_truth false true f g = g refl
same_truth false false f g = refl

turned : (xs ys : List ℕ) → bytes_eq xs ys ≡ bytes_eq ys xs
turned xs ys =
    same_truth (bytes_eq xs ys) (bytes_eq ys xs) (λ t. (bytes_eq-Decides ys xs).1 (sym ((bytes_eq-Decides xs ys).0 t)))
    (λ t. (bytes_eq-Decides xs ys).1 (sym ((bytes_eq-Decides ys xs).0 t)))

differ : (q path : List ℕ) → q ≢ path → bytes_eq q path ≡ false
differ q path ne = false_from_ne_true (bytes_eq q path) (λ t. ne ((bytes_eq-Decides q path).0 t))

-- a write at another path
pub other_file : (files : Contents) (path bytes q : List ℕ) → q ≢ path → file_at (with_file files path bytes) q ≡ file_at files q
other_file files path bytes q ne =
    get-insert nat_list_cmp_total files path bytes q ∙ ap (λ b. cond b (Some bytes) (file_at files q)) (is_eq-slice_cmp q path ∙ differ q path ne)

pub wrote_only : (old new : FilesState) (path bytes : List ℕ) → Wrote old new path bytes → OnlyAt old new path
wrote_only old new path bytes w = record {
  told = w.told;
  others = λ t q ne. ap (λ (m : Contents). file_at m q) (w.contents t) ∙ other_file old.contents path bytes q ne;
}

added_others : (found : Option (List ℕ)) (old new : FilesState) (path bytes : List ℕ)
    → IsSomeAnd found (λ all. new.contents ≡ with_file old.contents path (all ++ bytes)) → (q : List ℕ) → q ≢ path
    → file_at new.contents q ≡ file_at old.contents q
added_others None old new path bytes added q ne = absurd added
added_others (Some all) old new path bytes added q ne = ap (λ (m : Contents). file_at m q) added ∙ other_file old.contents path (all ++ bytes) q ne

pub appended_only : (old new : FilesState) (path bytes : List ℕ) → Appended old new path bytes → OnlyAt old new path
appended_only old new path bytes a = record {
  told = a.told;
  others = λ t q ne. added_others (file_at old.contents path) old new path bytes (a.contents t) q ne;
}

bytes_after : (b : Bool) (f : MemFile) (old : Option MemFile) → bytes_in (cond b (Some f) old) ≡ cond b (Some f.bytes.items) (bytes_in old)
bytes_after true f old = refl
bytes_after false f old = refl

-- what stands at any path after one file was put at a path
file_after : (m n : MapFiles) (path : List ℕ) (f : MemFile) → PutAt path m n f → (q : List ℕ)
    → file_at (contents_of n) q ≡ cond (bytes_eq q path) (Some f.bytes.items) (file_at (contents_of m) q)
file_after m n path f put q =
    file_found n q ∙ ap bytes_in (btree_map_updates_text path m n (Some f) put q) ∙ bytes_after (bytes_eq path q) f (get_by_text m q)
    ∙ ap (λ b. cond b (Some f.bytes.items) (bytes_in (get_by_text m q))) (turned path q)
    ∙ ap (cond (bytes_eq q path) (Some f.bytes.items)) (sym (file_found m q))

pub contents_after : (m n : MapFiles) (path : List ℕ) (f : MemFile) → PutAt path m n f → contents_of n ≡ with_file (contents_of m) path f.bytes.items
contents_after m n path f put =
    same_map nat_list_cmp_total (slice_cmp-IsAntisymmetric nat_cmp-IsAntisymmetric) (contents_of n) (with_file (contents_of m) path f.bytes.items)
    (λ q. file_after m n path f put q
    ∙ sym (get-insert nat_list_cmp_total (contents_of m) path f.bytes.items q
    ∙ ap (λ b. cond b (Some f.bytes.items) (file_at (contents_of m) q)) (is_eq-slice_cmp q path)))

there : (b : Bool) (bytes q path : List ℕ) (files : Contents) → bytes_eq q path ≡ b → file_at files path ≡ Some bytes
    → cond b (Some bytes) (file_at files q) ≡ file_at files q
there true bytes q path files e is = sym is ∙ ap (file_at files) (sym ((bytes_eq-Decides q path).0 e))
there false bytes q path files e is = refl

-- a file with the same bytes was put
pub contents_kept : (m n : MapFiles) (path : List ℕ) (f : MemFile) → PutAt path m n f → file_at (contents_of m) path ≡ Some f.bytes.items
    → contents_of n ≡ contents_of m
contents_kept m n path f put is =
    same_map nat_list_cmp_total (slice_cmp-IsAntisymmetric nat_cmp-IsAntisymmetric) (contents_of n) (contents_of m)
    (λ q. file_after m n path f put q ∙ there (bytes_eq q path) f.bytes.items q path (contents_of m) refl is)

sizes_after : (m n : MapFiles) (path : List ℕ) (f : MemFile) → PutAt path m n f → (q : List ℕ)
    → size_in n q ≡ option_and_then (λ f. f.sized) (cond (bytes_eq q path) (Some f) (get_by_text m q))
sizes_after m n path f put q =
    ap (option_and_then (λ f. f.sized)) (btree_map_updates_text path m n (Some f) put q ∙ ap (λ b. cond b (Some f) (get_by_text m q)) (turned path q))

pub size_there : (m n : MapFiles) (path : List ℕ) (f : MemFile) → PutAt path m n f → size_in n path ≡ f.sized
size_there m n path f put =
    sizes_after m n path f put path
    ∙ ap (λ b. option_and_then (λ f. f.sized) (cond b (Some f) (get_by_text m path))) ((bytes_eq-Decides path path).1 refl)

pub size_elsewhere : (m n : MapFiles) (path : List ℕ) (f : MemFile) → PutAt path m n f → (q : List ℕ) → q ≢ path → size_in n q ≡ size_in m q
size_elsewhere m n path f put q ne =
    sizes_after m n path f put q ∙ ap (λ b. option_and_then (λ f. f.sized) (cond b (Some f) (get_by_text m q))) (differ q path ne)

kept_there : (b : Bool) (m : MapFiles) (q path : List ℕ) (f : MemFile) → bytes_eq q path ≡ b → f.sized ≡ size_in m path
    → option_and_then (λ f. f.sized) (cond b (Some f) (get_by_text m q)) ≡ size_in m q
kept_there true m q path f e is = is ∙ ap (size_in m) (sym ((bytes_eq-Decides q path).0 e))
kept_there false m q path f e is = refl

-- a file of which the same size was answered was put
pub sizes_kept : (m n : MapFiles) (path : List ℕ) (f : MemFile) → PutAt path m n f → f.sized ≡ size_in m path → (q : List ℕ) → size_in n q ≡ size_in m q
sizes_kept m n path f put is q = sizes_after m n path f put q ∙ kept_there (bytes_eq q path) m q path f refl is
