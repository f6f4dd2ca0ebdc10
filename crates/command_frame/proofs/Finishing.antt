-- A command that has decided writes its files and prints its text: what that leaves, seen from before the command.
--
-- a is what it began with, b what it had once it had decided, and f the files at the end; o and o' are the output.
use Rattle.std.proofs.Common.{◌≡◌, ◌⊎◌, ℕ, List, ◌∷◌, ◌++◌, true, Ok, Err, Result, refl, ap, subst, sym, ◌∙◌, inl, inr}
use Rattle.std.proofs.Common.{arith, zero, Contains, string_bytes}
use Rattle.std.proofs.lemmas.List.{append_assoc, map-append}
use Rattle.std.proofs.lemmas.List.Elements.{Contains-append_right}
use Rattle.std.specs.Prelude.{IsOkAnd}
use Rattle.outside.specs.Causes.{Rose}
use Rattle.outside.specs.Files.{Contents, FilesState, file_at}
use Rattle.outside.specs.Sink.{SinkState, SameSink}
use Rattle.command_frame.specs.declared.object.Object.TheVariants as objects
use Rattle.command_frame.specs.declared.plan.Plan.{Plan}
use Rattle.command_frame.specs.declared.status.Status.{Status}
use Rattle.command_frame.specs.declared.stop.Stop.{Stop}
use Rattle.command_frame.specs.declared.stop.Stop.TheVariants as stops
use Rattle.command_frame.specs.Answer.{Answer, Course, Effect, Written, after_writes, behind, decided_writes, effect_of, paths_in, whole_of, writes_in}
use Rattle.command_frame.specs.Decides.{Decides, FileFailed}
use Rattle.command_frame.specs.Finish.{BreaksOff, Finishes, FinishesShort, OnlyAmong, PutPrefix, StopsFinishing, StopsMidway, WriteFaulted, WroteAll}
use Rattle.command_frame.specs.Moments.{AreTold, Moment, Reach, Sources}
use Rattle.command_frame.specs.Reads.{IsLineOf, PlanNames}
use Rattle.command_frame.specs.Status.{is_end}
use Rattle.command_frame.specs.Whole.{CutsText, EndsAnyhow, EndsAs, FileFaulted, InEach, IsCut, IsDone, Paths, RunsShort, StopsAtFile}
use Rattle.command_frame.proofs.Writes.{after_append}

-- these files at last, and else what there was
abbrev pub at_last : Sources → FilesState → Sources
at_last s f = record { files = f; links = s.links; children = s.children }

abbrev pub moment : Sources → SinkState → SinkState → Moment
moment s o e = record { sources = s; out = o; err = e }

-- a plan writes only paths that its command writes
pub among_written : (written : List (List ℕ)) (plan : Plan) (a b c : FilesState) → OnlyAmong written a b → PlanNames written plan
    → OnlyAmong (paths_in (effect_of plan).writes) b c → OnlyAmong written a c
among_written written plan a b c first names among = record {
  told = among.told ∙ first.told;
  others = λ t q no. among.others (first.told ∙ t) q (λ is. no (names.written q is)) ∙ first.others t q no;
  later = omega (arith, first.later, among.later);
  still = λ s. among.still (first.still s);
}

-- the file at which the writing stops is one of those that are written
pub midway_among : (ws : List Written) (path : List ℕ) (a b : FilesState) → StopsMidway ws path a b → Contains (paths_in ws) path
midway_among ws path a b mid =
    let among : Contains (paths_in mid.before ++ mid.broken.path ∷ paths_in mid.behind) mid.broken.path =
    Contains-append_right (paths_in mid.before) (mid.broken.path ∷ paths_in mid.behind) mid.broken.path (zero, omega arith, refl) in
    let order : paths_in ws ≡ paths_in mid.before ++ mid.broken.path ∷ paths_in mid.behind =
    ap paths_in mid.order ∙ map-append (λ (w : Written). w.path) mid.before (mid.broken ∷ mid.behind) in
    subst (λ (p : List ℕ). Contains (paths_in ws) p) (sym mid.at) (subst (λ (ps : List (List ℕ)). Contains ps mid.broken.path) (sym order) among)

module _ (reach : Reach) (course : Course) (plan : Plan) (a b : Sources) (f : FilesState) (decided : Decides reach course a b (Ok plan)) where
  abbrev effect : Effect
  effect = effect_of plan

  still_told : AreTold reach a → b.files.told ≡ true
  still_told t = (decided t).1.told ∙ t.files

  in_whole : (So : Effect → Type 0) → AreTold reach a → So (behind course.first effect) → IsOkAnd (whole_of course) So
  in_whole So t so = subst (λ (r : Answer). IsOkAnd (whole_of (record { first = course.first; answer = r })) So) (sym (decided t).0) so

  -- all files, those that were written first among them
  wrote_whole : AreTold reach a → WroteAll effect.writes b.files f → f.contents ≡ after_writes (course.first ++ effect.writes) a.files.contents
  wrote_whole t wrote =
      wrote (still_told t) ∙ ap (after_writes effect.writes) (decided t).1.contents ∙ sym (after_append course.first effect.writes a.files.contents)

  midway_since : (path : List ℕ) → AreTold reach a → StopsMidway effect.writes path b.files f → StopsMidway (writes_in course) path a.files f
  midway_since path t mid = record {
    before = course.first ++ mid.before;
    broken = mid.broken;
    behind = mid.behind;
    order =
        ap (λ (r : Answer). course.first ++ decided_writes r) (decided t).0 ∙ ap (λ (ws : List Written). course.first ++ ws) mid.order
        ∙ sym (append_assoc course.first mid.before (mid.broken ∷ mid.behind));
    at = mid.at;
    told = mid.told ∙ (decided t).1.told;
    others = λ told q other.
        mid.others (still_told t) q other ∙ ap (λ (m : Contents). file_at (after_writes mid.before m) q) (decided t).1.contents
        ∙ sym (ap (λ (m : Contents). file_at m q) (after_append course.first mid.before a.files.contents));
  }

  module _ (o o' e e' : SinkState) where
    abbrev m : Moment
    m = moment a o e

    abbrev m' : Moment
    m' = moment (at_last b f) o' e'

    done_since : (s : Status) → Finishes effect b.files f o o' (Ok s) → AreTold reach a → IsOkAnd (whole_of course) (λ x. IsDone m m' x s)
    done_since s (status, wrote, text) t =
        in_whole (λ x. IsDone m m' x s) t (record { status = status; files = wrote_whole t wrote; text = text })

    cut_since : WroteAll effect.writes b.files f → PutPrefix effect.text o o' → CutsText reach course m m'
    cut_since wrote text t = in_whole (λ x. IsCut m m' x) t (record { files = wrote_whole t wrote; text = text })

    short_since : FinishesShort effect b.files f o o' → RunsShort reach course m m'
    short_since (inl ((path, mid), same)) = inl (same, λ t. inr (inl (path, midway_since path t mid)))
    short_since (inr (wrote, short)) = inr (short.rose, cut_since wrote short.put)

    faulted_since : {written : List (List ℕ)} (line : List ℕ) → OnlyAmong written a.files b.files → WriteFaulted effect.writes line b.files f
        → FileFailed reach course a (at_last b f) line
    faulted_since line first fault = record {
      rose = omega (arith, first.later, fault.rose);
      missing = λ s t. absurd (fault.unsteady (first.still s) (still_told t));
    }

    pub ends_as : {written : List (List ℕ)} (r : Result Status Stop) → OnlyAmong written a.files b.files → is_end effect.status ≡ true
        → Finishes effect b.files f o o' r → EndsAs reach course m m' r
    ends_as (Ok s) first end part = (ap is_end part.0 ∙ end, done_since s part)
    ends_as (Err stops.Memory) first end part = short_since part
    ends_as (Err stops.Usage) first end part = absurd part
    ends_as (Err (stops.Refused r)) first end part = absurd part
    ends_as (Err (stops.Breached x)) first end part = absurd part
    ends_as (Err (stops.Failed (objects.File line))) first end part = (faulted_since (string_bytes line) first part.0, part.1)
    ends_as (Err (stops.Failed objects.Output)) first end part =
        (record { rose = part.1.rose; unsteady = part.1.unsteady }, cut_since part.0 part.1.put)
    ends_as (Err (stops.Failed objects.Links)) first end part = absurd part
    ends_as (Err (stops.Failed objects.Children)) first end part = absurd part

-- the same whatever the course is
short_anyhow : (e : Effect) (b : FilesState) (f : FilesState) (o o' : SinkState) → FinishesShort e b f o o'
    → SameSink o o' ⊎ Rose o.shortages o'.shortages
short_anyhow e b f o o' (inl (short, same)) = inl same
short_anyhow e b f o o' (inr (wrote, short)) = inr short.rose

pub ends_anyhow : (reach : Reach) {written : List (List ℕ)} (e : Effect) (a b : Sources) (f : FilesState) (o o' x x' : SinkState) (r : Result Status Stop)
    → OnlyAmong written a.files b.files → is_end e.status ≡ true → Finishes e b.files f o o' r
    → EndsAnyhow reach (moment a o x) (moment (at_last b f) o' x') r
ends_anyhow reach e a b f o o' x x' (Ok s) first end part = ap is_end part.0 ∙ end
ends_anyhow reach e a b f o o' x x' (Err stops.Memory) first end part = short_anyhow e b.files f o o' part
ends_anyhow reach e a b f o o' x x' (Err stops.Usage) first end part = absurd part
ends_anyhow reach e a b f o o' x x' (Err (stops.Refused r)) first end part = absurd part
ends_anyhow reach e a b f o o' x x' (Err (stops.Breached y)) first end part = absurd part
ends_anyhow reach e a b f o o' x x' (Err (stops.Failed (objects.File line))) first end part = (omega (arith, first.later, part.0.rose), part.1)
ends_anyhow reach e a b f o o' x x' (Err (stops.Failed objects.Output)) first end part = record { rose = part.1.rose; unsteady = part.1.unsteady }
ends_anyhow reach e a b f o o' x x' (Err (stops.Failed objects.Links)) first end part = absurd part
ends_anyhow reach e a b f o o' x x' (Err (stops.Failed objects.Children)) first end part = absurd part

-- ---- where the writing stops at a file

module _ (paths : Paths) (reach : Reach) (Courses : Course → Type 0) (plan : Plan) (a b : Sources) (f : FilesState) (o o' : SinkState)
    (names : PlanNames paths.written plan) (decided : (course : Course) → Courses course → Decides reach course a b (Ok plan)) where
  breaks_since : (line : List ℕ) → BreaksOff (effect_of plan).writes line b.files f
      → InEach paths reach Courses a (at_last b f) (λ course. BreaksOff (writes_in course) line a.files f)
  breaks_since line breaks course is t = record {
    path = breaks.path;
    named = breaks.named;
    midway = midway_since reach course plan a b f (decided course is) breaks.path t breaks.midway;
  }

  breaks_line : (line : List ℕ) → BreaksOff (effect_of plan).writes line b.files f → IsLineOf paths.written line
  breaks_line line breaks =
      (breaks.path, names.written breaks.path (midway_among (effect_of plan).writes breaks.path b.files f breaks.midway), breaks.named)

  file_breaks : (line : List ℕ) → BreaksOff (effect_of plan).writes line b.files f → FileFaulted paths reach Courses a (at_last b f) line
  file_breaks line breaks = inr (inl (breaks_line line breaks, breaks_since line breaks))

  pub writing_stops : (stop : Stop) → StopsFinishing (effect_of plan) b.files f o o' stop → StopsAtFile paths reach Courses a (at_last b f) stop
  writing_stops stop finishes = record {
    named = λ line at.
        let part : WriteFaulted (effect_of plan).writes (string_bytes line) b.files f × SameSink o o' =
        subst (StopsFinishing (effect_of plan) b.files f o o') at finishes in
        file_breaks (string_bytes line) part.0.breaks;
  }
