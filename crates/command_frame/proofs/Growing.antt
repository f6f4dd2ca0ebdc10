-- A file that is written and then grows.
use Rattle.std.proofs.Common.{◌≡◌, ℕ, List, [], ◌++◌, Bool, true, false, cond, Option, Some, None, IsSome, IsSomeAnd, Result, Ok, Err}
use Rattle.std.proofs.Common.{OnOk, refl, sym, ap, subst, ◌∙◌, arith}
use Rattle.std.specs.Prelude.{IfErr}
use Rattle.std.specs.FinMap.{get-insert, same_map, slice_cmp-IsAntisymmetric, nat_cmp-IsAntisymmetric}
use Rattle.std.proofs.lemmas.Cmp.{nat_list_cmp_total}
use Rattle.std.proofs.lemmas.List.{append_assoc}
use Rattle.std.proofs.lemmas.Map.Text.{is_eq-slice_cmp}
use Rattle.std.proofs.lemmas.Slice.Eq.{bytes_eq-Decides}
use Rattle.outside.specs.Files.{Appended, Contents, FilesState, Wrote, file_at, with_file}
use Rattle.proto_core.proofs.Beginnings.{append-none}
use Rattle.command_frame.specs.declared.object.Object.TheVariants as objects
use Rattle.command_frame.specs.declared.stop.Stop.{Stop}
use Rattle.command_frame.specs.declared.stop.Stop.TheVariants as stops
use Rattle.command_frame.specs.Finish.{Grew, GrewUpTo, IsThere, StopsWritingOne, Touches}

-- ---- files as a map

kept : (files : Contents) (path bytes : List ℕ) → file_at (with_file files path bytes) path ≡ Some bytes
kept files path bytes =
    get-insert nat_list_cmp_total files path bytes path
    ∙ ap (λ (b : Bool). cond b (Some bytes) (file_at files path)) (is_eq-slice_cmp path path ∙ (bytes_eq-Decides path path).1 refl)

cond_again : {A : Type 0} (b : Bool) (x y z : A) → cond b x (cond b y z) ≡ cond b x z
cond_again true x y z = refl
cond_again false x y z = refl

again : (files : Contents) (path xs ys : List ℕ) → with_file (with_file files path xs) path ys ≡ with_file files path ys
again files path xs ys =
    same_map nat_list_cmp_total (slice_cmp-IsAntisymmetric nat_cmp-IsAntisymmetric) (with_file (with_file files path xs) path ys) (with_file files path ys)
    (λ q. get-insert nat_list_cmp_total (with_file files path xs) path ys q
    ∙ ap (cond _ (Some ys)) (get-insert nat_list_cmp_total files path xs q)
    ∙ cond_again _ (Some ys) (Some xs) (file_at files q)
    ∙ sym (get-insert nat_list_cmp_total files path ys q))

-- ---- one file

pub wrote_there : (a b : FilesState) (path bytes : List ℕ) → Wrote a b path bytes → IsThere b path
wrote_there a b path bytes w t =
    subst IsSome (sym (ap (λ (m : Contents). file_at m path) (w.contents (sym w.told ∙ t)) ∙ kept a.contents path bytes)) refl

grown : (found : Option (List ℕ)) (b c : FilesState) (path bytes given : List ℕ) → found ≡ Some given
    → IsSomeAnd found (λ all. c.contents ≡ with_file b.contents path (all ++ bytes)) → c.contents ≡ with_file b.contents path (given ++ bytes)
grown None b c path bytes given is added = absurd added
grown (Some all) b c path bytes given is added =
    let same : all ≡ given = cc in
    added ∙ ap (λ (x : List ℕ). with_file b.contents path (x ++ bytes)) same

still_there : (found : Option (List ℕ)) (b c : FilesState) (path bytes : List ℕ)
    → IsSomeAnd found (λ all. c.contents ≡ with_file b.contents path (all ++ bytes)) → IsSome (file_at c.contents path)
still_there None b c path bytes added = absurd added
still_there (Some all) b c path bytes added =
    subst IsSome (sym (ap (λ (m : Contents). file_at m path) added ∙ kept b.contents path (all ++ bytes))) refl

pub grew_piece : (b c : FilesState) (path bytes : List ℕ) → Appended b c path bytes → Grew path bytes b c
grew_piece b c path bytes added = record {
  there = λ there t. still_there (file_at b.contents path) b c path bytes (added.contents (sym added.told ∙ t));
  adds = λ a given w. record {
    told = added.told ∙ w.told;
    contents = λ t.
        grown (file_at b.contents path) b c path bytes given
        (ap (λ (m : Contents). file_at m path) (w.contents t) ∙ kept a.contents path given) (added.contents (w.told ∙ t))
        ∙ ap (λ (m : Contents). with_file m path (given ++ bytes)) (w.contents t) ∙ again a.contents path given (given ++ bytes);
  };
}

pub grew_none : (a : FilesState) (path : List ℕ) → Grew path [] a a
grew_none a path = record {
  there = λ there. there;
  adds = λ start given w. subst (Wrote start a path) (sym (append-none given)) w;
}

pub grew_more : (a b c : FilesState) (path xs ys : List ℕ) → Grew path xs a b → Grew path ys b c → Grew path (xs ++ ys) a c
grew_more a b c path xs ys g h = record {
  there = λ there. h.there (g.there there);
  adds = λ start given w. subst (Wrote start c path) (append_assoc given xs ys) (h.adds start (given ++ xs) (g.adds start given w));
}

pub touches_none : (a : FilesState) (path : List ℕ) → Touches path a a
touches_none a path = record { only = record { told = refl; others = λ t q ne. refl }; later = omega arith; still = λ s. s }

pub touches_more : (a b c : FilesState) (path : List ℕ) → Touches path a b → Touches path b c → Touches path a c
touches_more a b c path g h = record {
  only = record { told = h.only.told ∙ g.only.told; others = λ t q ne. h.only.others (g.only.told ∙ t) q ne ∙ g.only.others t q ne };
  later = omega (arith, g.later, h.later);
  still = λ s. h.still (g.still s);
}

-- ---- a file that grows piece by piece

pub up_to_none : (a : FilesState) (path whole : List ℕ) → GrewUpTo path whole whole a a
up_to_none a path whole = record { sent = []; order = refl; grew = grew_none a path }

pub up_to_more : (a b c : FilesState) (path whole left xs rest : List ℕ) → GrewUpTo path whole left a b → left ≡ xs ++ rest → Grew path xs b c
    → GrewUpTo path whole rest a c
up_to_more a b c path whole left xs rest u is g = record {
  sent = u.sent ++ xs;
  order = u.order ∙ ap (λ (x : List ℕ). u.sent ++ x) is ∙ sym (append_assoc u.sent xs rest);
  grew = grew_more a b c path u.sent xs u.grew g;
}

pub up_to_front : (a b c : FilesState) (path whole text left rest : List ℕ) → GrewUpTo path whole (text ++ rest) a b → GrewUpTo path text left b c
    → GrewUpTo path whole (left ++ rest) a c
up_to_front a b c path whole text left rest u v =
    up_to_more a b c path whole (text ++ rest) v.sent (left ++ rest) u (ap (λ (x : List ℕ). x ++ rest) v.order ∙ append_assoc v.sent left rest) v.grew

pub up_to_end : (a b : FilesState) (path whole left : List ℕ) → GrewUpTo path whole left a b → left ≡ [] → Grew path whole a b
up_to_end a b path whole left u none =
    subst (λ (x : List ℕ). Grew path x a b) (sym (u.order ∙ ap (λ (x : List ℕ). u.sent ++ x) none ∙ append-none u.sent)) u.grew

pub stops_since : (a b c : FilesState) (path : List ℕ) (stop : Stop) → Touches path a b → StopsWritingOne path b c stop → StopsWritingOne path a c stop
stops_since a b c path stops.Memory t s = tt
stops_since a b c path stops.Usage t s = s
stops_since a b c path (stops.Refused r) t s = s
stops_since a b c path (stops.Breached x) t s = s
stops_since a b c path (stops.Failed (objects.File line)) t s =
    (omega (arith, t.later, s.0), λ steady told. s.1 (t.still steady) (t.only.told ∙ told), s.2)
stops_since a b c path (stops.Failed objects.Output) t s = s
stops_since a b c path (stops.Failed objects.Links) t s = s
stops_since a b c path (stops.Failed objects.Children) t s = s

-- ---- along a result

pub on_ok_by : {X : Type 0} (P Q : Type 0) (r : Result X Stop) → (P → Q) → OnOk r P → OnOk r Q
on_ok_by P Q (Ok x) by p = by p
on_ok_by P Q (Err stop) by p = tt

pub if_err_by : {X : Type 0} (P Q : Stop → Type 0) (r : Result X Stop) → ((stop : Stop) → P stop → Q stop) → IfErr r P → IfErr r Q
if_err_by P Q (Ok x) by p = tt
if_err_by P Q (Err stop) by p = by stop p

-- what a call leaves of one that comes before it at the same path
pub stops_after : {X : Type 0} (a b c : FilesState) (path : List ℕ) (r : Result X Stop) → Touches path a b → IfErr r (StopsWritingOne path b c)
    → IfErr r (StopsWritingOne path a c)
stops_after a b c path r t s =
    if_err_by (StopsWritingOne path b c) (StopsWritingOne path a c) r (λ stop p. stops_since a b c path stop t p) s
