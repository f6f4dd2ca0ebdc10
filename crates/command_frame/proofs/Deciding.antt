-- Where a command stops before it has decided, and what a plan over files alone, or over files and peers, says of its course.
use Rattle.std.proofs.Common.{◌≡◌, ℕ, List, ◌∷◌, ◌++◌, true, Ok, Err, Result, refl, ap, ◌∙◌, inl, inr}
use Rattle.std.proofs.Common.{arith, []}
use Rattle.std.specs.Prelude.{IfErr}
use Rattle.std.proofs.lemmas.List.{append_assoc}
use Rattle.outside.specs.Causes.{Rose}
use Rattle.outside.specs.Files.{Contents, FilesState, OnlyRead, file_at}
use Rattle.outside.specs.Sink.{SinkState, SameSink}
use Rattle.command_frame.specs.declared.object.Object.TheVariants as objects
use Rattle.command_frame.specs.declared.plan.Plan.{Plan}
use Rattle.command_frame.specs.declared.stop.Stop.{Stop}
use Rattle.command_frame.specs.declared.stop.Stop.TheVariants as stops
use Rattle.command_frame.specs.Answer.{Answer, Course, Written, at_once, decided_writes, effect_of, writes_in}
use Rattle.command_frame.specs.Decides.{AfterWrites, Decides, LinksFailed, StopsDeciding, StopsDecidingAnyhow, WroteSome}
use Rattle.command_frame.specs.Finish.{OnlyAmong, StopsMidway}
use Rattle.command_frame.specs.Moments.{AreTold, Moment, Reach, Sources}
use Rattle.command_frame.specs.Reads.{BothTold, Gives, GivesAmong, GivesOfPeers, GivesOfTexts, LinksFaulted, StopNames, Stops, StopsAmong}
use Rattle.command_frame.specs.Reads.{StopsReading, StopsReadingAmong}
use Rattle.command_frame.specs.Whole.{EndsAnyhow, EndsAs, LeavesFiles, Paths, RunsShort, StopsAtFile}
use Rattle.command_frame.proofs.Finishing.{moment}

pub unchanged : (f : FilesState) → OnlyRead f f
unchanged f = record { same = record { told = refl; contents = refl }; later = omega arith; still = λ s. s }

pub same_sink : (o : SinkState) → SameSink o o
same_sink o = record { told = refl; written = refl }

pub nothing_written : (written : List (List ℕ)) (a b : FilesState) → OnlyRead a b → OnlyAmong written a b
nothing_written written a b read = record {
  told = read.same.told;
  others = λ t q no. ap (λ (m : Contents). file_at m q) read.same.contents;
  later = read.later;
  still = read.still;
}

-- ---- a stop before the command has decided

module _ (reach : Reach) (course : Course) (a b : Sources) (o e e' : SinkState) where
  abbrev m : Moment
  m = moment a o e

  abbrev m' : Moment
  m' = moment b o e'

  -- what stops at one of the first files stops at one of all
  midway_first : (path : List ℕ) → StopsMidway course.first path a.files b.files → StopsMidway (writes_in course) path a.files b.files
  midway_first path mid = record {
    before = mid.before;
    broken = mid.broken;
    behind = mid.behind ++ decided_writes course.answer;
    order =
        ap (λ (ws : List Written). ws ++ decided_writes course.answer) mid.order
        ∙ append_assoc mid.before (mid.broken ∷ mid.behind) (decided_writes course.answer);
    at = mid.at;
    told = mid.told;
    others = mid.others;
  }

  leaves_files : WroteSome course.first a.files b.files → LeavesFiles reach course m m'
  leaves_files (inl same) = inl same
  leaves_files (inr (inl (path, mid))) = inr (inl (path, midway_first path mid))
  leaves_files (inr (inr after)) = inr (inr after)

  runs_short : (AreTold reach a → WroteSome course.first a.files b.files) → RunsShort reach course m m'
  runs_short wrote = inl (same_sink o, λ t. leaves_files (wrote t))

  pub stops_as : (stop : Stop) → StopsDeciding reach course a b stop → EndsAs reach course m m' (Err stop)
  stops_as stops.Memory s = runs_short s
  stops_as stops.Usage s = absurd s
  stops_as (stops.Refused r) s = (s, same_sink o)
  stops_as (stops.Breached x) s = (s.0, s.1, same_sink o)
  stops_as (stops.Failed (objects.File line)) s = (s, same_sink o)
  stops_as (stops.Failed objects.Output) s = absurd s
  stops_as (stops.Failed objects.Links) s = (s, same_sink o)
  stops_as (stops.Failed objects.Children) s = (s, same_sink o)

pub stops_anyhow : (reach : Reach) (a b : Sources) (o e e' : SinkState) (stop : Stop) → StopsDecidingAnyhow reach a b stop
    → EndsAnyhow reach (moment a o e) (moment b o e') (Err stop)
stops_anyhow reach a b o e e' stops.Memory s = inl (same_sink o)
stops_anyhow reach a b o e e' stops.Usage s = absurd s
stops_anyhow reach a b o e e' (stops.Refused r) s = same_sink o
stops_anyhow reach a b o e e' (stops.Breached x) s = (s, same_sink o)
stops_anyhow reach a b o e e' (stops.Failed (objects.File line)) s = (s, same_sink o)
stops_anyhow reach a b o e e' (stops.Failed objects.Output) s = absurd s
stops_anyhow reach a b o e e' (stops.Failed objects.Links) s = (record { reached = s.0; rose = s.1 }, same_sink o)
stops_anyhow reach a b o e e' (stops.Failed objects.Children) s = (record { reached = s.0; rose = s.1 }, same_sink o)

-- a stop in the reading names a file that is read
pub reading_stops : (paths : Paths) (reach : Reach) (Courses : Course → Type 0) (a b : Sources) (stop : Stop) → OnlyRead a.files b.files
    → StopNames paths.read stop → StopsAtFile paths reach Courses a b stop
reading_stops paths reach Courses a b stop read names = record { named = λ line is. inl (names.named line is, read.same) }

-- ---- plans that write nothing

after_none : (a b : FilesState) → OnlyRead a b → AfterWrites [] a b
after_none a b read = record { told = read.same.told; contents = read.same.contents }

module _ (reach : Reach) (answer : Answer) (a b : Sources) (read : OnlyRead a.files b.files) where
  module _ (told links : Type 0) (telling : AreTold reach a → told) (lost : links → LinksFailed reach (at_once answer) a b) where
    stops_among : (Lost : Type 0) (stop : Stop) → StopsAmong told links a.files b.files stop answer
        → StopsReadingAmong Lost reach.breach a.files b.files stop → StopsDeciding reach (at_once answer) a b stop
    stops_among Lost stops.Memory s anyhow = λ t. inl read.same
    stops_among Lost stops.Usage s anyhow = absurd s
    stops_among Lost (stops.Refused r) s anyhow = λ t. (s (telling t), after_none a.files b.files read)
    stops_among Lost (stops.Breached x) s anyhow = (anyhow, λ t. (s (telling t), after_none a.files b.files read))
    stops_among Lost (stops.Failed (objects.File line)) s anyhow = record {
      rose = s.rose;
      missing = λ steady t. (s.missing steady t.files, after_none a.files b.files read);
    }
    stops_among Lost (stops.Failed objects.Output) s anyhow = absurd s
    stops_among Lost (stops.Failed objects.Links) s anyhow = lost s
    stops_among Lost (stops.Failed objects.Children) s anyhow = absurd s

    decides_among : (Lost : Type 0) (r : Result Plan Stop) → GivesAmong told links effect_of a.files b.files r answer
        → IfErr r (StopsReadingAmong Lost reach.breach a.files b.files) → Decides reach (at_once answer) a b r
    decides_among Lost (Ok plan) gives anyhow = λ t. (gives (telling t), after_none a.files b.files read)
    decides_among Lost (Err stop) gives anyhow = stops_among Lost stop gives anyhow

  -- of a plan that reads the texts of miners
  pub decides_texts : (Lost : Type 0) (r : Result Plan Stop) → GivesOfTexts effect_of a.files b.files r answer
      → IfErr r (StopsReadingAmong Lost reach.breach a.files b.files) → Decides reach (at_once answer) a b r
  decides_texts Lost r gives anyhow = decides_among (a.files.told ≡ true) ⊥ (λ t. t.files) (λ never. absurd never) Lost r gives anyhow

  lost_links : reach.links ≡ true → LinksFaulted (BothTold a.files a.links) a.links b.links answer → LinksFailed reach (at_once answer) a b
  lost_links reached fault = record {
    reached = reached;
    rose = fault.rose;
    dry = λ steady t. fault.dry steady (t.files, t.links reached);
    files = λ t. after_none a.files b.files read;
  }

  -- of a plan that reads what comes from peers
  pub decides_peers : (Lost : Type 0) (r : Result Plan Stop) → reach.links ≡ true
      → GivesOfPeers effect_of a.files b.files a.links b.links r answer
      → IfErr r (StopsReadingAmong Lost reach.breach a.files b.files) → Decides reach (at_once answer) a b r
  decides_peers Lost r reached gives anyhow =
      decides_among (BothTold a.files a.links) (LinksFaulted (BothTold a.files a.links) a.links b.links answer) (λ t. (t.files, t.links reached))
      (lost_links reached) Lost r gives anyhow

  -- of a plan over files alone
  stops_reading : (stop : Stop) → Stops a.files b.files stop answer → StopsDeciding reach (at_once answer) a b stop
  stops_reading stops.Memory s = λ t. inl read.same
  stops_reading stops.Usage s = absurd s
  stops_reading (stops.Refused r) s = λ t. (s t.files, after_none a.files b.files read)
  stops_reading (stops.Breached x) s = absurd s
  stops_reading (stops.Failed (objects.File line)) s = record {
    rose = s.rose;
    missing = λ steady t. (s.missing steady t.files, after_none a.files b.files read);
  }
  stops_reading (stops.Failed objects.Output) s = absurd s
  stops_reading (stops.Failed objects.Links) s = absurd s
  stops_reading (stops.Failed objects.Children) s = absurd s

  pub decides_reading : (r : Result Plan Stop) → Gives effect_of a.files b.files r answer → Decides reach (at_once answer) a b r
  decides_reading (Ok plan) gives = λ t. (gives t.files, after_none a.files b.files read)
  decides_reading (Err stop) gives = stops_reading stop gives

-- ---- the same whatever is decided

pub reading_anyhow : (reach : Reach) (a b : Sources) (stop : Stop) → StopsReading a.files b.files stop → StopsDecidingAnyhow reach a b stop
reading_anyhow reach a b stops.Memory s = tt
reading_anyhow reach a b stops.Usage s = absurd s
reading_anyhow reach a b (stops.Refused r) s = tt
reading_anyhow reach a b (stops.Breached x) s = absurd s
reading_anyhow reach a b (stops.Failed (objects.File line)) s = s
reading_anyhow reach a b (stops.Failed objects.Output) s = absurd s
reading_anyhow reach a b (stops.Failed objects.Links) s = absurd s
reading_anyhow reach a b (stops.Failed objects.Children) s = absurd s

pub among_anyhow : {links : Type 0} (reach : Reach) (a b : Sources) (stop : Stop)
    → (links → (reach.links ≡ true) × Rose a.links.faults b.links.faults) → StopsReadingAmong links reach.breach a.files b.files stop
    → StopsDecidingAnyhow reach a b stop
among_anyhow reach a b stops.Memory rose s = tt
among_anyhow reach a b stops.Usage rose s = absurd s
among_anyhow reach a b (stops.Refused r) rose s = tt
among_anyhow reach a b (stops.Breached x) rose s = s
among_anyhow reach a b (stops.Failed (objects.File line)) rose s = s
among_anyhow reach a b (stops.Failed objects.Output) rose s = absurd s
among_anyhow reach a b (stops.Failed objects.Links) rose s = rose s
among_anyhow reach a b (stops.Failed objects.Children) rose s = absurd s
