-- What the steps of a command did: until it had decided, what then came of it, and the same of words.
use Rattle.std.specs.Prelude.{◌≡◌, ◌⊎◌, ℕ, List, true, Some, Result, MatchResult, IfErr, IfOk}
use Rattle.outside.specs.Sink.{SinkState}
use Rattle.command_frame.specs.declared.plan.Plan.{Plan}
use Rattle.command_frame.specs.declared.status.Status.{Status}
use Rattle.command_frame.specs.declared.stop.Stop.{Stop}
use Rattle.command_frame.specs.declared.stop.Stop.TheVariants as stops
use Rattle.command_frame.specs.Answer.{Course, effect_of}
use Rattle.command_frame.specs.Decides.{Decides, StopsDecidingAnyhow}
use Rattle.command_frame.specs.Finish.{OnlyAmong}
use Rattle.command_frame.specs.Moments.{Moment, Sources}
use Rattle.command_frame.specs.Reads.{PlanNames}
use Rattle.command_frame.specs.Whole.{Acts, ActsAnyhow, EndsAnyhow, EndsAs, PutsNothing, StopsAtFile, status_in}
use Rattle.command_words.specs.Ask.{Ask, load, words_of}
use Rattle.program_commands.specs.Judging.{Finding, FoundAt, HasFinding, Tells}
use Rattle.miner_commands.specs.Load.{load_effect}
use Rattle.run_engine.specs.Loading.{Loaded}
use Rattle.run_engine.specs.Moves.{Moves}
use Rattle.run_engine.specs.Told.{contents_in, outside_of, told_of}
use Rattle.run_engine.specs.Words.{answer_to, ends_in, ends_of, paths_in, paths_of, question_in, question_of, reach_in, reach_of, writes_of, written_by}
use Rattle.run_engine.specs.Words.{IsAnswer}

-- an answer of a command over what is told
abbrev pub CommandAnswers : Ask → (s s' : Sources) → Course → Type 0
CommandAnswers ask s s' answer =
    (found : Finding) × FoundAt (question_of ask) s.files.contents found × (answer_to ask (told_of (outside_of s s') found) ≡ answer)

-- an answer to words
abbrev pub WordsAnswer : List (List ℕ) → (s s' : Sources) → Course → Type 0
WordsAnswer words s s' answer = IsAnswer words (outside_of s s') answer

-- ---- what is known of `load` whatever the objects tell; of other commands nothing is said

-- until it had decided
abbrev pub DecidesLoad : Ask → Result Plan Stop → Type 0
DecidesLoad (load number) r = MatchResult r (λ plan. effect_of plan ≡ load_effect number) (λ stop. stop ≡ stops.Memory)
DecidesLoad _ r = Unit {0}

-- and then
abbrev pub DoesLoad : Ask → (out out' : SinkState) → Result Status Stop → Type 0
DoesLoad (load number) out out' r = Loaded number out out' (status_in r)
DoesLoad _ out out' r = Unit {0}

-- ---- until the command had decided

-- a plan writes what its command writes; a stop at a file names the path
abbrev pub Names : Ask → (s s' : Sources) → Result Plan Stop → Type 0
Names ask s s' result = MatchResult result (PlanNames (writes_of ask)) (StopsAtFile (paths_of ask) (reach_of ask) (CommandAnswers ask s s') s s')

-- it read, and decided as it must
pub record Planned (ask : Ask) (s s' : Sources) (r : Result Plan Stop) : Type 0 where
  pub only : OnlyAmong (writes_of ask) s.files s'.files
  pub anyhow : IfErr r (StopsDecidingAnyhow (reach_of ask) s s')
  pub answer :
      (found : Finding) → FoundAt (question_of ask) s.files.contents found
      → Decides (reach_of ask) (answer_to ask (told_of (outside_of s s') found)) s s' r
  pub found : s.files.told ≡ true → Tells s.files r → HasFinding (question_of ask) s.files.contents
  pub names : Names ask s s' r
  pub moves : Moves ask s s' r
  pub ended : IfOk r (λ plan. ends_of ask plan.status ≡ true)
  pub loads : DecidesLoad ask r

-- ---- the whole command

pub record Obeyed (ask : Ask) (m m' : Moment) (r : Result Status Stop) : Type 0 where
  pub anyhow : EndsAnyhow (reach_of ask) m m' r
  pub ends : (answer : Course) → CommandAnswers ask m.sources m'.sources answer → EndsAs (reach_of ask) answer m m' r
  pub only : OnlyAmong (writes_of ask) m.sources.files m'.sources.files
  pub stops : IfErr r (StopsAtFile (paths_of ask) (reach_of ask) (CommandAnswers ask m.sources m'.sources) m.sources m'.sources)
  pub found : m.sources.files.told ≡ true → Tells m.sources.files r → HasFinding (question_of ask) (contents_in m)
  pub out : PutsNothing m m' ⊎ (m.sources.files.told ≡ true → HasFinding (question_of ask) (contents_in m))
  pub moves : Moves ask m.sources m'.sources r
  pub ended : IfOk r (λ given. ends_of ask given ≡ true)
  pub loads : DoesLoad ask m.out m'.out r

-- what the words ask for
pub record Acted (words : List (List ℕ)) (m m' : Moment) (r : Result Status Stop) : Type 0 where
  pub anyhow : ActsAnyhow (reach_in words) m m' (words_of words) r
  pub acts : (answer : Course) → WordsAnswer words m.sources m'.sources answer → Acts (reach_in words) answer m m' (words_of words) r
  pub only : OnlyAmong (written_by words) m.sources.files m'.sources.files
  pub stops : IfErr r (StopsAtFile (paths_in words) (reach_in words) (WordsAnswer words m.sources m'.sources) m.sources m'.sources)
  pub found : m.sources.files.told ≡ true → Tells m.sources.files r → HasFinding (question_in words) (contents_in m)
  pub out : PutsNothing m m' ⊎ (m.sources.files.told ≡ true → HasFinding (question_in words) (contents_in m))
  pub moves : (ask : Ask) → words_of words ≡ Some ask → Moves ask m.sources m'.sources r
  pub ended : IfOk r (λ given. ends_in words given ≡ true)
  pub loads : (number : ℕ) → words_of words ≡ Some (load number) → Loaded number m.out m'.out (status_in r)
