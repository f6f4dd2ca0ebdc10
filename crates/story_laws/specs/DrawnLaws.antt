-- What is promised of the words that a miner draws.
use Rattle.std.specs.Prelude.{◌≡◌, ◌<◌, ◌≤◌, ℕ, List, [], length, take}
use Rattle.proto_core.specs.declared.party.Number.{Number}
use Rattle.proto_core.specs.declared.link.Link.{Link}
use Rattle.proto_core.specs.Strand.{Mail, Strand, Ends}
use Rattle.proto_core.specs.Net.{added, all_delivered, into, nothing, run_of}
use Rattle.protocol_model.specs.Runs.{Tapes}
use Rattle.protocol_model.specs.Gates.{sizes_of}
use Rattle.gates.specs.Counts.{words_of_all}
use Rattle.shared_gates.specs.Model.{miner_of, sizes_after}
use Rattle.language_model.specs.Effects.{World}
use Rattle.language_model.specs.Reports.{Offered}
use Rattle.language_model.specs.Tapes.{AtMost, HasWords}
use Rattle.verified_code.specs.Steps.{Function}
use Rattle.code_model.specs.Meaning.{mean, mean_in}
use Rattle.code_runs.specs.Dealt.{Dealt, drawn_by}
use Rattle.code_runs.specs.Laws.{MayRunShared}
use Rattle.code_runs.specs.Runs.{StopsAs}
use Rattle.miner_core.specs.Meaning.{fuel}
use Rattle.miner_core.specs.Places.{first_place}
use Rattle.miner_core.specs.OwnCode.{Ended, Unfit}
use Rattle.miner_core.specs.Story.{Story, AtStop, mail_in, node, stands_at, strand_in}
use Rattle.story_laws.specs.Alike.{RunAlike}
use Rattle.story_laws.specs.Drawn.{drawn_by_code}

-- how many words of its tape a miner draws with these messages
abbrev pub drawn_with : Number → Story → Mail → ℕ
drawn_with i s mail = drawn_by_code s.world s.code i s.dealt (fuel s.code s.budget) (first_place s.code s.budget) [] s.tape mail

-- so many it has drawn, with those that came to it
abbrev pub drawn_so_far : Number → Story → ℕ
drawn_so_far i s = drawn_with i s (mail_in i s)

abbrev pub on_tape : Story → (tape : List ℕ) → Story
on_tape s tape = record s { tape = tape }

-- ---- never more than there are

pub record DrawsOfItsTape (i : Number) (s : Story) : Type 0 where
  pub within : drawn_so_far i s ≤ length s.tape
  -- further messages take none back
  pub grows : (more : Mail) → drawn_so_far i s ≤ drawn_with i s (added (mail_in i s) more)
  -- where its tape has fewer, a gate finds too few
  pub least : (k : ℕ) → k < drawn_so_far i s → (node i (on_tape s (take k s.tape))).left ≡ Ends Unfit
  -- where its run has ended, these are the words that the gates draw which were made up to there
  pub exact : AtStop i s (λ p. drawn_so_far i s ≡ words_of_all (sizes_after (sizes_of s.dealt) [] p.stage.gates) (miner_of i) p.stage.gates)
  -- and it has counted no more words of any tape than the miner was told that there are
  pub counted : AtStop i s (λ p. AtMost p.stage.drawn s.world.lengths)
  pub own : drawn_by s.world.lengths (miner_of i) ≡ length s.tape → AtStop i s (λ p. drawn_by p.stage.drawn (miner_of i) ≤ length s.tape)

-- a run of code needs no more words of the dealer's tape and the miners' than these have
abbrev pub CodeKeepsToItsTapes : World → List Function → (budget : ℕ) → (answers : List ℕ) → Type 0
CodeKeepsToItsTapes w c budget answers = HasWords w (mean_in w c budget answers)

-- where it is one of three that run code which may run shared, and stands where this stops, the run counts what it has drawn
abbrev pub CountsWhatItDrew : Offered → Dealt → List Function → (budget : ℕ) → Tapes → Number → Story → Type 0
CountsWhatItDrew o d c budget tapes i s =
    MayRunShared o d c tapes → s.dealt ≡ d.shares i →
    AtStop i s (λ p. StopsAs (mean c o budget) budget p → drawn_by p.stage.drawn (miner_of i) ≡ drawn_so_far i s)

-- ---- no others are read

-- another tape that is no longer, and has the same first words
pub record IsSameSoFar (count : ℕ) (tape other : List ℕ) : Type 0 where
  pub long : length other ≤ length tape
  pub front : take count other ≡ take count tape

pub record RunsTheSame (i : Number) (s other : Story) : Type 0 where
  pub alike : RunAlike (node i other) (node i s)
  pub stands : stands_at i other ≡ stands_at i s
  pub drawn : drawn_so_far i other ≡ drawn_so_far i s

abbrev pub ReadsWhatItDraws : Number → Story → (tape : List ℕ) → Type 0
ReadsWhatItDraws i s tape = IsSameSoFar (drawn_so_far i s) s.tape tape → RunsTheSame i s (on_tape s tape)

-- ---- three, each made as its story says but for its tape, whose messages are delivered in the order of these links

module _ (stories : Number → Story) (links : List Link) where
  abbrev pub nodes_on : Tapes → Number → Strand Ended
  nodes_on tapes i = strand_in i (on_tape (stories i) (tapes i))

  -- the messages that come
  abbrev pub came_on : Tapes → Mail
  came_on tapes = all_delivered (nodes_on tapes) nothing links

  abbrev pub drawn_of : Tapes → Number → ℕ
  drawn_of tapes i = drawn_with i (on_tape (stories i) (tapes i)) (into i (came_on tapes))

  pub record RunTheSame (tapes others : Tapes) : Type 0 where
    pub came : came_on others ≡ came_on tapes
    pub alike : (i : Number) → RunAlike (run_of (nodes_on others) (came_on others) i) (run_of (nodes_on tapes) (came_on tapes) i)
    pub drawn : (i : Number) → drawn_of others i ≡ drawn_of tapes i

  abbrev pub ReadWhatTheyDraw : (tapes others : Tapes) → Type 0
  ReadWhatTheyDraw tapes others = ((i : Number) → IsSameSoFar (drawn_of tapes i) (tapes i) (others i)) → RunTheSame tapes others
