-- What a whole command does, told of its status alone.
use Rattle.std.proofs.Common.{◌≡◌, ◌≢◌, ◌⊎◌, ℕ, List, Bool, true, false, Option, None, Ok, Err, Result, refl, ap, subst, sym, ◌∙◌, inl, inr, string_bytes}
use Rattle.std.proofs.Common.{◌++◌, ◌∷◌, Contains}
use Rattle.std.proofs.lemmas.Bool.{false≢true}
use Rattle.std.proofs.lemmas.List.{map-append}
use Rattle.std.proofs.lemmas.List.Elements.{Contains-append_left}
use Rattle.std.specs.Prelude.{IsOkAnd, IsSome, IfErr, IfOk, codes}
use Rattle.outside.specs.Causes.{Rose}
use Rattle.outside.specs.Files.{Contents, SameFiles, file_at}
use Rattle.outside.specs.Sink.{SinkState, SameSink}
use Rattle.sc_text.specs.declared.fault.Fault.TheVariants as faults
use Rattle.sc_text.specs.Fault.{file_line}
use Rattle.command_frame.specs.declared.object.Object.TheVariants as objects
use Rattle.command_frame.specs.declared.status.Status.{Status}
use Rattle.command_frame.specs.declared.status.Status.TheVariants as statuses
use Rattle.command_frame.specs.declared.stop.Stop.{Stop}
use Rattle.command_frame.specs.declared.stop.Stop.TheVariants as stops
use Rattle.command_frame.specs.Answer.{Answer, Cause, Course, Written, at_once, breach_of, cause_of, decided_writes, paths_in}
use Rattle.command_frame.specs.Answer.{usage, whole_of, writes_in}
use Rattle.command_frame.specs.Decides.{AfterWrites, RefusesFor}
use Rattle.command_frame.specs.Finish.{OnlyAmong, PutLine, StopsMidway}
use Rattle.command_frame.specs.Moments.{AreSteady, AreTold, Moment, Reach}
use Rattle.command_frame.specs.Objects.{child_line, link_line, write_line}
use Rattle.command_frame.specs.Reads.{cut_off}
use Rattle.command_frame.specs.Said.{IsErrorLine}
use Rattle.command_frame.specs.Status.{can_refuse, is_end}
use Rattle.command_frame.specs.Stops.{memory_line}
use Rattle.command_frame.specs.Whole.{Acts, ActsAnyhow, CarriedOut, CarriedSo, ChildrenRose, CutsText, EndsAnyhow, EndsAs, FileFaulted, FileTold, HasFailed}
use Rattle.command_frame.specs.Whole.{IsAnswered, IsCut, IsDone, IsMissed, IsTold, LeavesFiles, LinksRose, OnlyWritten, OutFaulted, Paths, PutsNothing}
use Rattle.command_frame.specs.Whole.{RunsShort, Says, SaysError, StopsAtFile, status_in}
use Rattle.command_frame.proofs.Finishing.{midway_among}
use Rattle.command_frame.proofs.Said.{any_is_error, fault_is_error, file_is_error}
use Rattle.command_frame.proofs.Statuses.{breach_ends, clash, never, no_breach, no_end, no_refusal}
use Rattle.command_frame.proofs.Writes.{others_after}

-- ---- words that name a command

module _ {A : Type 0} (ask : Option A) (reach : Reach) (m m' : Moment) (named : IsSome ask) where
  pub acts_anyhow : (r : Result Status Stop) → EndsAnyhow reach m m' r → ActsAnyhow reach m m' ask r
  acts_anyhow (Ok s) ends = (named, ends)
  acts_anyhow (Err stops.Memory) ends = ends
  acts_anyhow (Err stops.Usage) ends = absurd ends
  acts_anyhow (Err (stops.Refused r)) ends = (named, ends)
  acts_anyhow (Err (stops.Breached b)) ends = (named, ends)
  acts_anyhow (Err (stops.Failed object)) ends = (named, ends)

  pub acts_as : (course : Course) (r : Result Status Stop) → EndsAs reach course m m' r → Acts reach course m m' ask r
  acts_as course (Ok s) ends = (named, ends)
  acts_as course (Err stops.Memory) ends = ends
  acts_as course (Err stops.Usage) ends = absurd ends
  acts_as course (Err (stops.Refused r)) ends = (named, ends)
  acts_as course (Err (stops.Breached b)) ends = (named, ends)
  acts_as course (Err (stops.Failed object)) ends = (named, ends)

-- the same of fewer courses
pub stops_so : (paths : Paths) (reach : Reach) (Courses Others : Course → Type 0) (m m' : Moment) (stop : Stop)
    → ((course : Course) → Others course → Courses course) → StopsAtFile paths reach Courses m.sources m'.sources stop
    → StopsAtFile paths reach Others m.sources m'.sources stop
stops_so paths reach Courses Others m m' stop all stops = record {
  named = λ line is. elim (stops.named line is) [
    | inl read ↦ inl read
    | inr (inl (named, breaks)) ↦ inr (inl (named, λ course h t. breaks course (all course h) t))
    | inr (inr (named, after)) ↦ inr (inr (named, λ course h t. after course (all course h) t))
  ];
}

-- ---- over steady objects nothing but want of memory keeps a command from its answer

answered_by : (course : Course) (s : Status) (c : Cause) → course.answer ≡ Err c → s ≡ c.status → IsAnswered course s
answered_by course s c e h = rw e h

done_by : (first : List Written) (answer : Answer) (m m' : Moment) (s : Status)
    → IsOkAnd (whole_of (record { first = first; answer = answer })) (λ e. IsDone m m' e s)
    → IsAnswered (record { first = first; answer = answer }) s
done_by first (Ok e) m m' s d = d.status
done_by first (Err c) m m' s d = absurd d

-- the answer to words that name no command
abbrev OfNone : {A : Type 0} → Option A → Course → Type 0
OfNone ask course = ask ≡ None → course ≡ at_once (Err usage)

usage_answer : (course : Course) → course ≡ at_once (Err usage) → course.answer ≡ Err usage
usage_answer course is = ap (λ (c : Course). c.answer) is

module _ {A : Type 0} (ask : Option A) (reach : Reach) (course : Course) (m m' : Moment) where
  pub complete : (r : Result Status Stop) → OfNone ask course → Acts reach course m m' ask r → AreSteady reach m → IsTold reach course m m'
      → IsAnswered course (status_in r) ⊎ (status_in r ≡ statuses.Memory)
  complete (Ok s) none a st t = inl (done_by course.first course.answer m m' s (a.1.1 t))
  complete (Err stops.Memory) none a st t = inr refl
  complete (Err stops.Usage) none a st t = inl (answered_by course statuses.Usage usage (usage_answer course (none a.0)) refl)
  complete (Err (stops.Refused r)) none a st t = inl (answered_by course r.status (cause_of r) (a.1.0 t).0 refl)
  complete (Err (stops.Breached b)) none a st t = inl (answered_by course b.status (breach_of b) (a.1.1 t).0 refl)
  complete (Err (stops.Failed (objects.File line))) none a st t = inl (answered_by course statuses.File _ (a.1.0.missing st.files t).0 refl)
  complete (Err (stops.Failed objects.Output)) none a st t = absurd (a.1.0.unsteady st.out)
  complete (Err (stops.Failed objects.Links)) none a st t =
      inl (answered_by course statuses.Link cut_off (a.1.0.dry (st.links a.1.0.reached) t) refl)
  complete (Err (stops.Failed objects.Children)) none a st t = absurd (a.1.0.unsteady (st.children a.1.0.reached) t)

  -- ---- the answer is carried out, or a fault is told

  carries_end : (first : List Written) (answer : Answer) (s : Status)
      → IsOkAnd (whole_of (record { first = first; answer = answer })) (λ e. IsDone m m' e s) → SameSink m.err m'.err
      → CarriedSo m m' s first answer
  carries_end first (Ok e) s d same = (d, same)
  carries_end first (Err c) s d same = absurd d

  carries_refusal : (c : Cause) (s : Status) → RefusesFor course m.sources.files m'.sources.files c → s ≡ c.status → PutLine c.line m.err m'.err
      → PutsNothing m m' → CarriedOut m m' s course
  carries_refusal c s refuses status line same =
      subst (λ (x : Answer). CarriedSo m m' s course.first x) (sym refuses.0) (status, line, same, refuses.1)

  refuses_usage : course ≡ at_once (Err usage) → SameFiles m.sources.files m'.sources.files
      → RefusesFor course m.sources.files m'.sources.files usage
  refuses_usage is same =
      let alone : RefusesFor (at_once (Err usage)) m.sources.files m'.sources.files usage =
      (refl, record { told = same.told; contents = same.contents }) in
      subst (λ (c : Course). RefusesFor c m.sources.files m'.sources.files usage) (sym is) alone

  pub carried_out : (r : Result Status Stop) → OfNone ask course → Acts reach course m m' ask r → Says r m.err m'.err → IsTold reach course m m'
      → CarriedOut m m' (status_in r) course ⊎ HasFailed reach m m' (status_in r)
  carried_out (Ok s) none a says t = inl (carries_end course.first course.answer s (a.1.1 t) says)
  carried_out (Err stops.Memory) none a says t = inr tt
  carried_out (Err stops.Usage) none a says t =
      inl (carries_refusal usage statuses.Usage (refuses_usage (none a.0) a.2) refl says a.1)
  carried_out (Err (stops.Refused r)) none a says t = inl (carries_refusal (cause_of r) r.status (a.1.0 t) refl says a.1.1)
  carried_out (Err (stops.Breached b)) none a says t = inl (carries_refusal (breach_of b) b.status (a.1.1 t) refl says a.1.2)
  carried_out (Err (stops.Failed (objects.File line))) none a says t = inr a.1.0.rose
  carried_out (Err (stops.Failed objects.Output)) none a says t = inr a.1.0.rose
  carried_out (Err (stops.Failed objects.Links)) none a says t = inr (record { reached = a.1.0.reached; rose = a.1.0.rose })
  carried_out (Err (stops.Failed objects.Children)) none a says t = inr (record { reached = a.1.0.reached; rose = a.1.0.rose })

  -- ---- what is left of the answer

  pub write_cuts : (r : Result Status Stop) → Acts reach course m m' ask r → status_in r ≡ statuses.Write → CutsText reach course m m'
  write_cuts (Ok s) a is = no_end s statuses.Write a.1.0 refl is
  write_cuts (Err stops.Memory) a is = clash statuses.Memory statuses.Write refl is
  write_cuts (Err stops.Usage) a is = clash statuses.Usage statuses.Write refl is
  write_cuts (Err (stops.Refused r)) a is = no_refusal r.status statuses.Write r.refuses refl is
  write_cuts (Err (stops.Breached b)) a is = no_breach b.status statuses.Write b.breaches refl is
  write_cuts (Err (stops.Failed (objects.File line))) a is = clash statuses.File statuses.Write refl is
  write_cuts (Err (stops.Failed objects.Output)) a is = a.1.1
  write_cuts (Err (stops.Failed objects.Links)) a is = clash statuses.Link statuses.Write refl is
  write_cuts (Err (stops.Failed objects.Children)) a is = clash statuses.Child statuses.Write refl is

  pub memory_leaves : (r : Result Status Stop) → Acts reach course m m' ask r → status_in r ≡ statuses.Memory → RunsShort reach course m m'
  memory_leaves (Ok s) a is = no_end s statuses.Memory a.1.0 refl is
  memory_leaves (Err stops.Memory) a is = a
  memory_leaves (Err stops.Usage) a is = clash statuses.Usage statuses.Memory refl is
  memory_leaves (Err (stops.Refused r)) a is = no_refusal r.status statuses.Memory r.refuses refl is
  memory_leaves (Err (stops.Breached b)) a is = no_breach b.status statuses.Memory b.breaches refl is
  memory_leaves (Err (stops.Failed (objects.File line))) a is = clash statuses.File statuses.Memory refl is
  memory_leaves (Err (stops.Failed objects.Output)) a is = clash statuses.Write statuses.Memory refl is
  memory_leaves (Err (stops.Failed objects.Links)) a is = clash statuses.Link statuses.Memory refl is
  memory_leaves (Err (stops.Failed objects.Children)) a is = clash statuses.Child statuses.Memory refl is

  -- steady links fail only where a peer's bytes end early
  pub links_cut_off : (r : Result Status Stop) → Acts reach course m m' ask r → status_in r ≡ statuses.Link → m.sources.links.steady ≡ true
      → IsTold reach course m m' → course.answer ≡ Err cut_off
  links_cut_off (Ok s) a is st t = no_end s statuses.Link a.1.0 refl is
  links_cut_off (Err stops.Memory) a is st t = clash statuses.Memory statuses.Link refl is
  links_cut_off (Err stops.Usage) a is st t = clash statuses.Usage statuses.Link refl is
  links_cut_off (Err (stops.Refused r)) a is st t = no_refusal r.status statuses.Link r.refuses refl is
  links_cut_off (Err (stops.Breached b)) a is st t = no_breach b.status statuses.Link b.breaches refl is
  links_cut_off (Err (stops.Failed (objects.File line))) a is st t = clash statuses.File statuses.Link refl is
  links_cut_off (Err (stops.Failed objects.Output)) a is st t = clash statuses.Write statuses.Link refl is
  links_cut_off (Err (stops.Failed objects.Links)) a is st t = a.1.0.dry st t
  links_cut_off (Err (stops.Failed objects.Children)) a is st t = clash statuses.Child statuses.Link refl is

  -- ---- only files of the answer change

  abbrev Same : List ℕ → Type 0
  Same q = file_at m'.sources.files.contents q ≡ file_at m.sources.files.contents q

  abbrev Elsewhere : List ℕ → Type 0
  Elsewhere q = Contains (paths_in (writes_in course)) q → ⊥

  same_after : (ws : List Written) (q : List ℕ) → AfterWrites ws m.sources.files m'.sources.files → (Contains (paths_in ws) q → ⊥) → Same q
  same_after ws q after away = ap (λ (c : Contents). file_at c q) after.contents ∙ others_after ws m.sources.files.contents q away

  not_first : (q : List ℕ) → Elsewhere q → Contains (paths_in course.first) q → ⊥
  not_first q away is =
      away
      (subst (λ (ps : List (List ℕ)). Contains ps q) (sym (map-append (λ (w : Written). w.path) course.first (decided_writes course.answer)))
      (Contains-append_left (paths_in course.first) (paths_in (decided_writes course.answer)) q is))

  same_files : (q : List ℕ) → SameFiles m.sources.files m'.sources.files → Same q
  same_files q same = ap (λ (c : Contents). file_at c q) same.contents

  midway_same : (path q : List ℕ) → m.sources.files.told ≡ true → StopsMidway (writes_in course) path m.sources.files m'.sources.files → Elsewhere q → Same q
  midway_same path q t mid away =
      mid.others t q (λ is. away (subst (λ (p : List ℕ). Contains (paths_in (writes_in course)) p) (sym is) (midway_among (writes_in course) path _ _ mid)))
      ∙ others_after mid.before m.sources.files.contents q (λ is. away (among_first mid.before (mid.broken ∷ mid.behind) q mid.order is))
    where
      among_first : (ws vs : List Written) (q : List ℕ) → writes_in course ≡ ws ++ vs → Contains (paths_in ws) q → Contains (paths_in (writes_in course)) q
      among_first ws vs q order is =
          subst (λ (all : List Written). Contains (paths_in all) q) (sym order)
          (subst (λ (ps : List (List ℕ)). Contains ps q) (sym (map-append (λ (w : Written). w.path) ws vs))
          (Contains-append_left (paths_in ws) (paths_in vs) q is))

  done_same : (first : List Written) (answer : Answer) (s : Status) (q : List ℕ)
      → IsOkAnd (whole_of (record { first = first; answer = answer })) (λ e. IsDone m m' e s)
      → (Contains (paths_in (first ++ decided_writes answer)) q → ⊥) → Same q
  done_same first (Ok e) s q d away =
      ap (λ (c : Contents). file_at c q) d.files ∙ others_after (first ++ e.writes) m.sources.files.contents q away
  done_same first (Err c) s q d away = absurd d

  cut_same : (first : List Written) (answer : Answer) (q : List ℕ)
      → IsOkAnd (whole_of (record { first = first; answer = answer })) (λ e. IsCut m m' e)
      → (Contains (paths_in (first ++ decided_writes answer)) q → ⊥) → Same q
  cut_same first (Ok e) q d away = ap (λ (c : Contents). file_at c q) d.files ∙ others_after (first ++ e.writes) m.sources.files.contents q away
  cut_same first (Err c) q d away = absurd d

  left_same : (q : List ℕ) → m.sources.files.told ≡ true → Elsewhere q → LeavesFiles reach course m m' → Same q
  left_same q t away (inl same) = same_files q same
  left_same q t away (inr (inl (path, mid))) = midway_same path q t mid away
  left_same q t away (inr (inr after)) = same_after course.first q after (not_first q away)

  short_same : (q : List ℕ) → IsTold reach course m m' → Elsewhere q → RunsShort reach course m m' → Same q
  short_same q t away (inl (same, leaves)) = left_same q t.files away (leaves t)
  short_same q t away (inr (rose, cuts)) = cut_same course.first course.answer q (cuts t) away

  module _ (paths : Paths) (Courses : Course → Type 0) (is : Courses course) where
    fault_same : (line q : List ℕ) → IsTold reach course m m' → Elsewhere q → FileFaulted paths reach Courses m.sources m'.sources line → Same q
    fault_same line q t away (inl (named, same)) = same_files q same
    fault_same line q t away (inr (inl (named, breaks))) = let b = breaks course is t in midway_same b.path q t.files b.midway away
    fault_same line q t away (inr (inr (named, after))) = same_after course.first q (after course is t) (not_first q away)

    others_same : (r : Result Status Stop) → Acts reach course m m' ask r → IfErr r (StopsAtFile paths reach Courses m.sources m'.sources)
        → IsTold reach course m m' → (q : List ℕ) → Elsewhere q → Same q
    others_same (Ok s) a stops t q away = done_same course.first course.answer s q (a.1.1 t) away
    others_same (Err stops.Memory) a stops t q away = short_same q t away a
    others_same (Err stops.Usage) a stops t q away = same_files q a.2
    others_same (Err (stops.Refused r)) a stops t q away = same_after course.first q (a.1.0 t).1 (not_first q away)
    others_same (Err (stops.Breached b)) a stops t q away = same_after course.first q (a.1.1 t).1 (not_first q away)
    others_same (Err (stops.Failed (objects.File line))) a stops t q away = fault_same (string_bytes line) q t away (stops.named line refl)
    others_same (Err (stops.Failed objects.Output)) a stops t q away = cut_same course.first course.answer q (a.1.1 t) away
    others_same (Err (stops.Failed objects.Links)) a stops t q away = same_after course.first q (a.1.0.files t) (not_first q away)
    others_same (Err (stops.Failed objects.Children)) a stops t q away = same_after course.first q (a.1.0.files t) (not_first q away)

    pub only_answered : {written : List (List ℕ)} (r : Result Status Stop) → Acts reach course m m' ask r
        → IfErr r (StopsAtFile paths reach Courses m.sources m'.sources) → OnlyAmong written m.sources.files m'.sources.files
        → OnlyWritten reach course m.sources m'.sources
    only_answered r a stops among = record { told = among.told; others = others_same r a stops; later = among.later }

-- ---- a file that failed is named

abbrev refusal : List ℕ → Answer
refusal line = Err (record { status = statuses.File; line = line })

misses_line : (course : Course) (line : List ℕ) (m m' : Moment) → course.answer ≡ refusal line
    → (path : List ℕ) × (line ≡ file_line path) → PutLine line m.err m'.err → IsMissed course m m'
misses_line course line m m' is (path, same) put = (path, is ∙ ap refusal same, subst (λ (l : List ℕ). PutLine l m.err m'.err) same put)

module _ {A : Type 0} (ask : Option A) (paths : Paths) (reach : Reach) (Courses : Course → Type 0) (m m' : Moment) where
  abbrev Stopped : Result Status Stop → Type 0
  Stopped r = IfErr r (StopsAtFile paths reach Courses m.sources m'.sources)

  pub file_told : (r : Result Status Stop) → ActsAnyhow reach m m' ask r → Stopped r → Says r m.err m'.err → status_in r ≡ statuses.File
      → FileTold paths reach Courses m m'
  file_told (Ok s) a stops says is = no_end s statuses.File a.1 refl is
  file_told (Err stops.Memory) a stops says is = clash statuses.Memory statuses.File refl is
  file_told (Err stops.Usage) a stops says is = clash statuses.Usage statuses.File refl is
  file_told (Err (stops.Refused r)) a stops says is = no_refusal r.status statuses.File r.refuses refl is
  file_told (Err (stops.Breached b)) a stops says is = no_breach b.status statuses.File b.breaches refl is
  file_told (Err (stops.Failed (objects.File line))) a stops says is = (string_bytes line, stops.named line refl, says)
  file_told (Err (stops.Failed objects.Output)) a stops says is = clash statuses.Write statuses.File refl is
  file_told (Err (stops.Failed objects.Links)) a stops says is = clash statuses.Link statuses.File refl is
  file_told (Err (stops.Failed objects.Children)) a stops says is = clash statuses.Child statuses.File refl is

  -- the line of a file that failed is that of a path
  faulted_line : (line : List ℕ) → FileFaulted paths reach Courses m.sources m'.sources line → (path : List ℕ) × (line ≡ file_line path)
  faulted_line line (inl ((path, among, is), same)) = (path, is)
  faulted_line line (inr (inl ((path, among, is), breaks))) = (path, is)
  faulted_line line (inr (inr ((path, among, is), after))) = (path, is)

  pub file_missed : (course : Course) (r : Result Status Stop) → Acts reach course m m' ask r → Stopped r → Says r m.err m'.err
      → status_in r ≡ statuses.File → m.sources.files.steady ≡ true → AreTold reach m.sources → IsMissed course m m'
  file_missed course (Ok s) a stops says is st t = no_end s statuses.File a.1.0 refl is
  file_missed course (Err stops.Memory) a stops says is st t = clash statuses.Memory statuses.File refl is
  file_missed course (Err stops.Usage) a stops says is st t = clash statuses.Usage statuses.File refl is
  file_missed course (Err (stops.Refused r)) a stops says is st t = no_refusal r.status statuses.File r.refuses refl is
  file_missed course (Err (stops.Breached b)) a stops says is st t = no_breach b.status statuses.File b.breaches refl is
  file_missed course (Err (stops.Failed (objects.File line))) a stops says is st t =
      misses_line course (string_bytes line) m m' (a.1.0.missing st t).0 (faulted_line (string_bytes line) (stops.named line refl)) says
  file_missed course (Err (stops.Failed objects.Output)) a stops says is st t = clash statuses.Write statuses.File refl is
  file_missed course (Err (stops.Failed objects.Links)) a stops says is st t = clash statuses.Link statuses.File refl is
  file_missed course (Err (stops.Failed objects.Children)) a stops says is st t = clash statuses.Child statuses.File refl is

-- ---- a command that comes to its end says nothing

pub end_says_nothing : (e e' : SinkState) (r : Result Status Stop) → Says r e e' → is_end (status_in r) ≡ true → can_refuse (status_in r) ≡ false
    → SameSink e e'
end_says_nothing e e' (Ok s) says ends unrefused = says
end_says_nothing e e' (Err stops.Memory) says ends unrefused = absurd (false≢true ends)
end_says_nothing e e' (Err stops.Usage) says ends unrefused = absurd (false≢true ends)
end_says_nothing e e' (Err (stops.Refused r)) says ends unrefused = never (can_refuse r.status) r.refuses unrefused
end_says_nothing e e' (Err (stops.Breached b)) says ends unrefused = breach_ends b.status b.breaches ends
end_says_nothing e e' (Err (stops.Failed (objects.File line))) says ends unrefused = absurd (false≢true ends)
end_says_nothing e e' (Err (stops.Failed objects.Output)) says ends unrefused = absurd (false≢true ends)
end_says_nothing e e' (Err (stops.Failed objects.Links)) says ends unrefused = absurd (false≢true ends)
end_says_nothing e e' (Err (stops.Failed objects.Children)) says ends unrefused = absurd (false≢true ends)

-- ---- what is known whatever the course is

module _ {A : Type 0} (ask : Option A) (reach : Reach) (m m' : Moment) where
  abbrev Did : Result Status Stop → Type 0
  Did r = ActsAnyhow reach m m' ask r

  pub usage_unnamed : (r : Result Status Stop) → Did r → status_in r ≡ statuses.Usage → ask ≡ None
  usage_unnamed (Ok s) a is = no_end s statuses.Usage a.1 refl is
  usage_unnamed (Err stops.Memory) a is = clash statuses.Memory statuses.Usage refl is
  usage_unnamed (Err stops.Usage) a is = a.0
  usage_unnamed (Err (stops.Refused r)) a is = no_refusal r.status statuses.Usage r.refuses refl is
  usage_unnamed (Err (stops.Breached b)) a is = no_breach b.status statuses.Usage b.breaches refl is
  usage_unnamed (Err (stops.Failed (objects.File line))) a is = clash statuses.File statuses.Usage refl is
  usage_unnamed (Err (stops.Failed objects.Output)) a is = clash statuses.Write statuses.Usage refl is
  usage_unnamed (Err (stops.Failed objects.Links)) a is = clash statuses.Link statuses.Usage refl is
  usage_unnamed (Err (stops.Failed objects.Children)) a is = clash statuses.Child statuses.Usage refl is

  unnamed : {X : Type 0} → IsSome ask → ask ≡ None → X
  unnamed some none = let wrong : IsSome {T = A} None = subst (λ (x : Option A). IsSome x) none some in absurd (false≢true wrong)

  pub usage_of_unnamed : (r : Result Status Stop) → Did r → ask ≡ None → (status_in r ≡ statuses.Usage) ⊎ (status_in r ≡ statuses.Memory)
  usage_of_unnamed (Ok s) a none = unnamed a.0 none
  usage_of_unnamed (Err stops.Memory) a none = inr refl
  usage_of_unnamed (Err stops.Usage) a none = inl refl
  usage_of_unnamed (Err (stops.Refused r)) a none = unnamed a.0 none
  usage_of_unnamed (Err (stops.Breached b)) a none = unnamed a.0 none
  usage_of_unnamed (Err (stops.Failed object)) a none = unnamed a.0 none

  pub usage_said : (r : Result Status Stop) → Did r → Says r m.err m'.err → status_in r ≡ statuses.Usage → PutLine usage.line m.err m'.err
  usage_said (Ok s) a says is = no_end s statuses.Usage a.1 refl is
  usage_said (Err stops.Memory) a says is = clash statuses.Memory statuses.Usage refl is
  usage_said (Err stops.Usage) a says is = says
  usage_said (Err (stops.Refused r)) a says is = no_refusal r.status statuses.Usage r.refuses refl is
  usage_said (Err (stops.Breached b)) a says is = no_breach b.status statuses.Usage b.breaches refl is
  usage_said (Err (stops.Failed (objects.File line))) a says is = clash statuses.File statuses.Usage refl is
  usage_said (Err (stops.Failed objects.Output)) a says is = clash statuses.Write statuses.Usage refl is
  usage_said (Err (stops.Failed objects.Links)) a says is = clash statuses.Link statuses.Usage refl is
  usage_said (Err (stops.Failed objects.Children)) a says is = clash statuses.Child statuses.Usage refl is

  pub memory_said : (r : Result Status Stop) → Did r → Says r m.err m'.err → status_in r ≡ statuses.Memory → PutLine memory_line m.err m'.err
  memory_said (Ok s) a says is = no_end s statuses.Memory a.1 refl is
  memory_said (Err stops.Memory) a says is = says
  memory_said (Err stops.Usage) a says is = clash statuses.Usage statuses.Memory refl is
  memory_said (Err (stops.Refused r)) a says is = no_refusal r.status statuses.Memory r.refuses refl is
  memory_said (Err (stops.Breached b)) a says is = no_breach b.status statuses.Memory b.breaches refl is
  memory_said (Err (stops.Failed (objects.File line))) a says is = clash statuses.File statuses.Memory refl is
  memory_said (Err (stops.Failed objects.Output)) a says is = clash statuses.Write statuses.Memory refl is
  memory_said (Err (stops.Failed objects.Links)) a says is = clash statuses.Link statuses.Memory refl is
  memory_said (Err (stops.Failed objects.Children)) a says is = clash statuses.Child statuses.Memory refl is

  pub write_said : (r : Result Status Stop) → Did r → Says r m.err m'.err → status_in r ≡ statuses.Write → PutLine write_line m.err m'.err
  write_said (Ok s) a says is = no_end s statuses.Write a.1 refl is
  write_said (Err stops.Memory) a says is = clash statuses.Memory statuses.Write refl is
  write_said (Err stops.Usage) a says is = clash statuses.Usage statuses.Write refl is
  write_said (Err (stops.Refused r)) a says is = no_refusal r.status statuses.Write r.refuses refl is
  write_said (Err (stops.Breached b)) a says is = no_breach b.status statuses.Write b.breaches refl is
  write_said (Err (stops.Failed (objects.File line))) a says is = clash statuses.File statuses.Write refl is
  write_said (Err (stops.Failed objects.Output)) a says is = says
  write_said (Err (stops.Failed objects.Links)) a says is = clash statuses.Link statuses.Write refl is
  write_said (Err (stops.Failed objects.Children)) a says is = clash statuses.Child statuses.Write refl is

  pub link_said : (r : Result Status Stop) → Did r → Says r m.err m'.err → status_in r ≡ statuses.Link → PutLine link_line m.err m'.err
  link_said (Ok s) a says is = no_end s statuses.Link a.1 refl is
  link_said (Err stops.Memory) a says is = clash statuses.Memory statuses.Link refl is
  link_said (Err stops.Usage) a says is = clash statuses.Usage statuses.Link refl is
  link_said (Err (stops.Refused r)) a says is = no_refusal r.status statuses.Link r.refuses refl is
  link_said (Err (stops.Breached b)) a says is = no_breach b.status statuses.Link b.breaches refl is
  link_said (Err (stops.Failed (objects.File line))) a says is = clash statuses.File statuses.Link refl is
  link_said (Err (stops.Failed objects.Output)) a says is = clash statuses.Write statuses.Link refl is
  link_said (Err (stops.Failed objects.Links)) a says is = says
  link_said (Err (stops.Failed objects.Children)) a says is = clash statuses.Child statuses.Link refl is

  pub write_counted : (r : Result Status Stop) → Did r → status_in r ≡ statuses.Write → OutFaulted m.out m'.out
  write_counted (Ok s) a is = no_end s statuses.Write a.1 refl is
  write_counted (Err stops.Memory) a is = clash statuses.Memory statuses.Write refl is
  write_counted (Err stops.Usage) a is = clash statuses.Usage statuses.Write refl is
  write_counted (Err (stops.Refused r)) a is = no_refusal r.status statuses.Write r.refuses refl is
  write_counted (Err (stops.Breached b)) a is = no_breach b.status statuses.Write b.breaches refl is
  write_counted (Err (stops.Failed (objects.File line))) a is = clash statuses.File statuses.Write refl is
  write_counted (Err (stops.Failed objects.Output)) a is = a.1
  write_counted (Err (stops.Failed objects.Links)) a is = clash statuses.Link statuses.Write refl is
  write_counted (Err (stops.Failed objects.Children)) a is = clash statuses.Child statuses.Write refl is

  pub file_counted : (r : Result Status Stop) → Did r → status_in r ≡ statuses.File → Rose m.sources.files.faults m'.sources.files.faults
  file_counted (Ok s) a is = no_end s statuses.File a.1 refl is
  file_counted (Err stops.Memory) a is = clash statuses.Memory statuses.File refl is
  file_counted (Err stops.Usage) a is = clash statuses.Usage statuses.File refl is
  file_counted (Err (stops.Refused r)) a is = no_refusal r.status statuses.File r.refuses refl is
  file_counted (Err (stops.Breached b)) a is = no_breach b.status statuses.File b.breaches refl is
  file_counted (Err (stops.Failed (objects.File line))) a is = a.1.0
  file_counted (Err (stops.Failed objects.Output)) a is = clash statuses.Write statuses.File refl is
  file_counted (Err (stops.Failed objects.Links)) a is = clash statuses.Link statuses.File refl is
  file_counted (Err (stops.Failed objects.Children)) a is = clash statuses.Child statuses.File refl is

  pub links_counted : (r : Result Status Stop) → Did r → status_in r ≡ statuses.Link → LinksRose reach m m'
  links_counted (Ok s) a is = no_end s statuses.Link a.1 refl is
  links_counted (Err stops.Memory) a is = clash statuses.Memory statuses.Link refl is
  links_counted (Err stops.Usage) a is = clash statuses.Usage statuses.Link refl is
  links_counted (Err (stops.Refused r)) a is = no_refusal r.status statuses.Link r.refuses refl is
  links_counted (Err (stops.Breached b)) a is = no_breach b.status statuses.Link b.breaches refl is
  links_counted (Err (stops.Failed (objects.File line))) a is = clash statuses.File statuses.Link refl is
  links_counted (Err (stops.Failed objects.Output)) a is = clash statuses.Write statuses.Link refl is
  links_counted (Err (stops.Failed objects.Links)) a is = a.1.0
  links_counted (Err (stops.Failed objects.Children)) a is = clash statuses.Child statuses.Link refl is

  -- of the statuses of a breach, and of that of a child that failed
  pub peer_breached : (r : Result Status Stop) → Did r → status_in r ≡ statuses.Peer → reach.breach statuses.Peer ≡ true
  peer_breached (Ok s) a is = no_end s statuses.Peer a.1 refl is
  peer_breached (Err stops.Memory) a is = clash statuses.Memory statuses.Peer refl is
  peer_breached (Err stops.Usage) a is = clash statuses.Usage statuses.Peer refl is
  peer_breached (Err (stops.Refused r)) a is = no_refusal r.status statuses.Peer r.refuses refl is
  peer_breached (Err (stops.Breached b)) a is = subst (λ (x : Status). reach.breach x ≡ true) is a.1.0
  peer_breached (Err (stops.Failed (objects.File line))) a is = clash statuses.File statuses.Peer refl is
  peer_breached (Err (stops.Failed objects.Output)) a is = clash statuses.Write statuses.Peer refl is
  peer_breached (Err (stops.Failed objects.Links)) a is = clash statuses.Link statuses.Peer refl is
  peer_breached (Err (stops.Failed objects.Children)) a is = clash statuses.Child statuses.Peer refl is

  pub texts_breached : (r : Result Status Stop) → Did r → status_in r ≡ statuses.Disagree → reach.breach statuses.Disagree ≡ true
  texts_breached (Ok s) a is = no_end s statuses.Disagree a.1 refl is
  texts_breached (Err stops.Memory) a is = clash statuses.Memory statuses.Disagree refl is
  texts_breached (Err stops.Usage) a is = clash statuses.Usage statuses.Disagree refl is
  texts_breached (Err (stops.Refused r)) a is = no_refusal r.status statuses.Disagree r.refuses refl is
  texts_breached (Err (stops.Breached b)) a is = subst (λ (x : Status). reach.breach x ≡ true) is a.1.0
  texts_breached (Err (stops.Failed (objects.File line))) a is = clash statuses.File statuses.Disagree refl is
  texts_breached (Err (stops.Failed objects.Output)) a is = clash statuses.Write statuses.Disagree refl is
  texts_breached (Err (stops.Failed objects.Links)) a is = clash statuses.Link statuses.Disagree refl is
  texts_breached (Err (stops.Failed objects.Children)) a is = clash statuses.Child statuses.Disagree refl is

  pub child_breached : (r : Result Status Stop) → Did r → status_in r ≡ statuses.Child → (reach.breach statuses.Child ≡ true) ⊎ ChildrenRose reach m m'
  child_breached (Ok s) a is = no_end s statuses.Child a.1 refl is
  child_breached (Err stops.Memory) a is = clash statuses.Memory statuses.Child refl is
  child_breached (Err stops.Usage) a is = clash statuses.Usage statuses.Child refl is
  child_breached (Err (stops.Refused r)) a is = no_refusal r.status statuses.Child r.refuses refl is
  child_breached (Err (stops.Breached b)) a is = inl (subst (λ (x : Status). reach.breach x ≡ true) is a.1.0)
  child_breached (Err (stops.Failed (objects.File line))) a is = clash statuses.File statuses.Child refl is
  child_breached (Err (stops.Failed objects.Output)) a is = clash statuses.Write statuses.Child refl is
  child_breached (Err (stops.Failed objects.Links)) a is = clash statuses.Link statuses.Child refl is
  child_breached (Err (stops.Failed objects.Children)) a is = inr a.1.0

  -- ---- a command that doesn't come to one of its ends

  abbrev EndsAmong : (Status → Bool) → Result Status Stop → Type 0
  EndsAmong ends r = IfOk r (λ s. ends s ≡ true)

  pub refused_prints_nothing : (ends : Status → Bool) (r : Result Status Stop) → Did r → EndsAmong ends r → ends (status_in r) ≡ false
      → status_in r ≢ statuses.Write → status_in r ≢ statuses.Memory → PutsNothing m m'
  refused_prints_nothing ends (Ok s) a ended unended write memory = never (ends s) ended unended
  refused_prints_nothing ends (Err stops.Memory) a ended unended write memory = absurd (memory refl)
  refused_prints_nothing ends (Err stops.Usage) a ended unended write memory = a.1
  refused_prints_nothing ends (Err (stops.Refused r)) a ended unended write memory = a.1
  refused_prints_nothing ends (Err (stops.Breached b)) a ended unended write memory = a.1.1
  refused_prints_nothing ends (Err (stops.Failed (objects.File line))) a ended unended write memory = a.1.1
  refused_prints_nothing ends (Err (stops.Failed objects.Output)) a ended unended write memory = absurd (write refl)
  refused_prints_nothing ends (Err (stops.Failed objects.Links)) a ended unended write memory = a.1.1
  refused_prints_nothing ends (Err (stops.Failed objects.Children)) a ended unended write memory = a.1.1

  module _ (paths : Paths) (Courses : Course → Type 0) where
    file_says_error : (line : List ℕ) → FileFaulted paths reach Courses m.sources m'.sources line → PutLine line m.err m'.err → SaysError m.err m'.err
    file_says_error line faulted says =
        let (path, is) = faulted_line ask paths reach Courses m m' line faulted in
        (line, subst IsErrorLine (sym is) (file_is_error path), says)

    pub stops_say_error : (ends : Status → Bool) (r : Result Status Stop) → EndsAmong ends r
        → IfErr r (StopsAtFile paths reach Courses m.sources m'.sources) → Says r m.err m'.err → ends (status_in r) ≡ false → SaysError m.err m'.err
    stops_say_error ends (Ok s) ended stops says unended = never (ends s) ended unended
    stops_say_error ends (Err stops.Memory) ended stops says unended = (memory_line, fault_is_error faults.Memory, says)
    stops_say_error ends (Err stops.Usage) ended stops says unended = (usage.line, fault_is_error faults.Usage, says)
    stops_say_error ends (Err (stops.Refused r)) ended stops says unended = (string_bytes r.line, r.says, says)
    stops_say_error ends (Err (stops.Breached b)) ended stops says unended = (string_bytes b.line, b.says, says)
    stops_say_error ends (Err (stops.Failed (objects.File line))) ended stops says unended =
        file_says_error (string_bytes line) (stops.named line refl) says
    stops_say_error ends (Err (stops.Failed objects.Output)) ended stops says unended = (write_line, fault_is_error faults.Write, says)
    stops_say_error ends (Err (stops.Failed objects.Links)) ended stops says unended = (link_line, any_is_error (codes "link"), says)
    stops_say_error ends (Err (stops.Failed objects.Children)) ended stops says unended = (child_line, any_is_error (codes "child"), says)
