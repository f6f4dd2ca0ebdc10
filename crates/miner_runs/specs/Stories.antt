-- Miners at work, by what each was made with and received, in the net of the three.
use Rattle.std.specs.Prelude.{◌≡◌, ℕ, List}
use Rattle.sc_text.specs.declared.end.Ending.{Ending}
use Rattle.proto_core.specs.declared.party.Number.{Number}
use Rattle.proto_core.specs.declared.link.Link.{Link}
use Rattle.proto_core.specs.Parties.{from_previous, from_next}
use Rattle.proto_core.specs.Strand.{Mail}
use Rattle.proto_core.specs.Net.{nothing, run_of, all_delivered}
use Rattle.protocol_model.specs.Network.{Accepted, walked}
use Rattle.protocol_model.specs.Runs.{Tapes}
use Rattle.language_model.specs.Effects as effects
use Rattle.language_model.specs.Learned.{learned_of}
use Rattle.language_model.specs.Reports.{Report, Offered}
use Rattle.verified_code.specs.Steps.{Function}
use Rattle.miner_core.specs.Meaning.{mean}
use Rattle.code_places.specs.Dealt.{Dealt}
use Rattle.code_runs.specs.Telling.{Tells}
use Rattle.code_runs.specs.Laws.{MayRunShared}
use Rattle.miner_core.specs.declared.answer.End.TheVariants as end
use Rattle.miner_core.specs.Story.{Story, node, has_opened, has_told, HasEnded}
use Rattle.miner_runs.specs.OwnRuns.{public_world, own_nodes}

module _ (o : Offered) (d : Dealt) (c : List Function) (budget : ℕ) (tapes : Tapes) where
  -- the miner of this number was made with the code, its own shares and its own tape, and received its messages of this mail
  pub record IsStoryOf (i : Number) (mail : Mail) (s : Story) : Type 0 where
    pub world : s.world ≡ public_world o
    pub code : s.code ≡ c
    pub dealt : s.dealt ≡ d.shares i
    pub tape : s.tape ≡ tapes i
    pub steps : s.budget ≡ budget
    pub previous : s.from_previous ≡ mail (from_previous i)
    pub next : s.from_next ≡ mail (from_next i)

  -- it has done what the node of its number does with this mail
  abbrev pub DoesItsPart : Number → Mail → Story → Type 0
  DoesItsPart i mail s = IsStoryOf i mail s → node i s ≡ run_of (own_nodes o d c budget tapes) mail i

  -- three of them have ended as the report does, opened its words and told its events
  pub record HaveDone (r : Report) (stories : Number → Story) : Type 0 where
    pub ending : Ending
    pub stop : r.stop ≡ effects.Ended ending
    pub ended : (i : Number) → HasEnded (node i (stories i)).left (end.Over ending)
    pub opened : (i : Number) → has_opened i (stories i) ≡ learned_of r.events
    pub told : Tells r.events (λ i. has_told i (stories i))

  -- where they received what an accepted order brings
  abbrev pub HaveDoneWhereAccepted : List Link → (Number → Story) → Type 0
  HaveDoneWhereAccepted order stories =
      MayRunShared o d c tapes → walked (own_nodes o d c budget tapes) 0 nothing order ≡ Accepted
      → ((i : Number) → IsStoryOf i (all_delivered (own_nodes o d c budget tapes) nothing order) (stories i)) → HaveDone (mean c o budget) stories
