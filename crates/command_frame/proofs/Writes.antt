-- Writing files one after another.
use Rattle.std.proofs.Common.{◌≡◌, ◌≢◌, ℕ, zero, suc, ◌+◌, ◌<◌, ◌≤◌, List, [], ◌∷◌, ◌++◌, length, get_or, drop, take, take_all, take-suc, take-append-drop, map}
use Rattle.std.proofs.Common.{refl, ap, sym, ◌∙◌, arith, add-one, drop-cons, string_bytes, Contains}
use Rattle.std.proofs.lemmas.List.{get_or-map, length-map, map-append}
use Rattle.outside.proofs.MapFiles.{other_file}
use Rattle.outside.specs.Files.{Contents, FilesState, Wrote, OnlyAt, with_file, file_at}
use Rattle.command_frame.specs.Answer.{Written, content_bytes, writes_of, after_writes, paths_in}
use Rattle.command_frame.specs.declared.object.Object.TheVariants as objects
use Rattle.command_frame.specs.declared.plan.PlannedWrite.{PlannedWrite}
use Rattle.command_frame.specs.declared.stop.Stop.{Stop}
use Rattle.command_frame.specs.declared.stop.Stop.TheVariants as stops
use Rattle.command_frame.specs.Finish.{OnlyAmong, StopsMidway, StopsWriting, StopsWritingOne, Touches, WroteAll}

abbrev seen : PlannedWrite → Written
seen w = record { path = string_bytes w.path; bytes = content_bytes w.content }

abbrev paths : List PlannedWrite → List (List ℕ)
paths ws = paths_in (writes_of ws)

-- ---- the list of writes, cut at one

pub after_append : (ws vs : List Written) (files : Contents) → after_writes (ws ++ vs) files ≡ after_writes vs (after_writes ws files)
after_append [] vs files = refl
after_append (w ∷ ws) vs files = after_append ws vs (with_file files w.path w.bytes)

one_more : (ws : List PlannedWrite) (i : ℕ) (e : PlannedWrite) → i < length ws → e ≡ get_or ws i e
    → writes_of (take (i + 1) ws) ≡ writes_of (take i ws) ++ seen e ∷ []
one_more ws i e lt is =
    let next : take (i + 1) ws ≡ take i ws ++ e ∷ [] = rw (add-one, take-suc ws i e, ← is) refl in
    ap writes_of next ∙ map-append seen (take i ws) (e ∷ [])

cut : (ws : List PlannedWrite) (i : ℕ) (e : PlannedWrite) → i < length ws → e ≡ get_or ws i e
    → writes_of ws ≡ writes_of (take i ws) ++ seen e ∷ writes_of (drop (i + 1) ws)
cut ws i e lt is =
    let rest : drop i ws ≡ e ∷ drop (i + 1) ws = rw (add-one, drop-cons ws i e, ← is) refl in
    let whole : ws ≡ take i ws ++ e ∷ drop (i + 1) ws = sym (take-append-drop i ws) ∙ ap (λ (r : List PlannedWrite). take i ws ++ r) rest in
    ap writes_of whole ∙ map-append seen (take i ws) (e ∷ drop (i + 1) ws)

path_among : (ws : List PlannedWrite) (i : ℕ) (e : PlannedWrite) (q : List ℕ) → i < length ws → e ≡ get_or ws i e → q ≡ string_bytes e.path
    → Contains (paths ws) q
path_among ws i e q lt is same = (
  i,
  omega (arith, length-map ws seen, length-map (map seen ws) (λ (w : Written). w.path)),
  get_or-map (λ (w : Written). w.path) (map seen ws) i (seen e) q (omega (arith, length-map ws seen))
      ∙ ap (λ (w : Written). w.path) (get_or-map seen ws i e (seen e) lt)
      ∙ ap (λ (w : PlannedWrite). string_bytes w.path) (sym is) ∙ sym same,
)

-- ---- one write more

pub among_more : (ws : List PlannedWrite) (i : ℕ) (e : PlannedWrite) (a b c : FilesState) → i < length ws → e ≡ get_or ws i e → OnlyAmong (paths ws) a b
    → Touches (string_bytes e.path) b c → OnlyAmong (paths ws) a c
among_more ws i e a b c lt is p q = record {
  told = q.only.told ∙ p.told;
  others = λ t path no. q.only.others (p.told ∙ t) path (λ same. no (path_among ws i e path lt is same)) ∙ p.others t path no;
  later = omega (arith, p.later, q.later);
  still = λ s. q.still (p.still s);
}

pub wrote_more : (ws : List PlannedWrite) (i : ℕ) (e : PlannedWrite) (a b c : FilesState) → i < length ws
    → e ≡ get_or ws i e
    → b.told ≡ a.told → WroteAll (writes_of (take i ws)) a b → Wrote b c (string_bytes e.path) (content_bytes e.content)
    → WroteAll (writes_of (take (i + 1) ws)) a c
wrote_more ws i e a b c lt is told done w = λ t.
    w.contents (told ∙ t)
    ∙ ap (λ (m : Contents). with_file m (string_bytes e.path) (content_bytes e.content)) (done t)
    ∙ sym (ap (λ (v : List Written). after_writes v a.contents) (one_more ws i e lt is) ∙ after_append (writes_of (take i ws)) (seen e ∷ []) a.contents)

pub wrote_all : (ws : List PlannedWrite) (i : ℕ) (a b : FilesState) → length ws ≤ i → WroteAll (writes_of (take i ws)) a b → WroteAll (writes_of ws) a b
wrote_all ws i a b most done = λ t. done t ∙ ap (λ (v : List PlannedWrite). after_writes (writes_of v) a.contents) (take_all i ws most)

midway : (ws : List PlannedWrite) (i : ℕ) (e : PlannedWrite) (a b c : FilesState) → i < length ws → e ≡ get_or ws i e → b.told ≡ a.told
    → WroteAll (writes_of (take i ws)) a b → OnlyAt b c (string_bytes e.path) → StopsMidway (writes_of ws) (string_bytes e.path) a c
midway ws i e a b c lt is told done only = record {
  before = writes_of (take i ws);
  broken = seen e;
  behind = writes_of (drop (i + 1) ws);
  order = cut ws i e lt is;
  at = refl;
  told = only.told ∙ told;
  others = λ t q other. only.others (told ∙ t) q other ∙ ap (λ (m : Contents). file_at m q) (done t);
}

pub stops_here : (ws : List PlannedWrite) (i : ℕ) (e : PlannedWrite) (a b c : FilesState) (stop : Stop) → i < length ws → e ≡ get_or ws i e
    → OnlyAmong (paths ws) a b
    → WroteAll (writes_of (take i ws)) a b → OnlyAt b c (string_bytes e.path) → StopsWritingOne (string_bytes e.path) b c stop
    → StopsWriting (writes_of ws) a c stop
stops_here ws i e a b c stops.Memory lt is p done only s = (string_bytes e.path, midway ws i e a b c lt is p.told done only)
stops_here ws i e a b c stops.Usage lt is p done only s = s
stops_here ws i e a b c (stops.Refused r) lt is p done only s = s
stops_here ws i e a b c (stops.Breached x) lt is p done only s = s
stops_here ws i e a b c (stops.Failed (objects.File line)) lt is p done only s = record {
  rose = omega (arith, p.later, s.0);
  unsteady = λ steady told. s.1 (p.still steady) (p.told ∙ told);
  breaks = record { path = string_bytes e.path; named = s.2; midway = midway ws i e a b c lt is p.told done only };
}
stops_here ws i e a b c (stops.Failed objects.Output) lt is p done only s = s
stops_here ws i e a b c (stops.Failed objects.Links) lt is p done only s = s
stops_here ws i e a b c (stops.Failed objects.Children) lt is p done only s = s

-- ---- files that are not written

-- q is none of the paths of a list
elsewhere : (w : Written) (ws : List Written) (q : List ℕ) → (Contains (paths_in (w ∷ ws)) q → ⊥) → q ≢ w.path
elsewhere w ws q away is = away (zero, omega arith, sym is)

later_none : (w : Written) (ws : List Written) (q : List ℕ) → (Contains (paths_in (w ∷ ws)) q → ⊥) → Contains (paths_in ws) q → ⊥
later_none w ws q away (k, lt, is) = away (suc k, omega arith, is)

pub others_after : (ws : List Written) (files : Contents) (q : List ℕ) → (Contains (paths_in ws) q → ⊥)
    → file_at (after_writes ws files) q ≡ file_at files q
others_after [] files q away = refl
others_after (w ∷ ws) files q away =
    others_after ws (with_file files w.path w.bytes) q (later_none w ws q away) ∙ other_file files w.path w.bytes q (elsewhere w ws q away)
