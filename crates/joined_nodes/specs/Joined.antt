-- Three nodes of which it is only known that what each has received begins what its peers have sent.
use Rattle.std.specs.Prelude.{◌≡◌, ◌≢◌, ◌-◌, ℕ, List}
use Rattle.sc_text.specs.declared.end.Ending.{Ending}
use Rattle.proto_core.specs.declared.party.Number.{Number}
use Rattle.proto_core.specs.declared.link.Link.{Link}
use Rattle.proto_core.specs.declared.refused.BadMessage.{BadMessage}
use Rattle.proto_core.specs.Parties.{sender_of}
use Rattle.proto_core.specs.Strand.{Mail, Notice, Begins, on_link}
use Rattle.proto_core.specs.Net.{MailBegins}
use Rattle.proto_core.specs.Standing.{AtItsEnd, Refuses}
use Rattle.protocol_model.specs.Runs.{Tapes}
use Rattle.language_model.specs.Effects as effects
use Rattle.language_model.specs.Learned.{learned_of}
use Rattle.language_model.specs.Reports.{Report, Offered}
use Rattle.verified_code.specs.Steps.{Function}
use Rattle.code_places.specs.Dealt.{Dealt}
use Rattle.miner_runs.specs.Runs.{messages}
use Rattle.miner_runs.specs.Telling.{Tells}
use Rattle.miner_core.specs.declared.answer.End.TheVariants as end
use Rattle.miner_core.specs.Story.{Story, node, has_opened, has_told, stands_at, AtStop, HasEnded}
use Rattle.miner_runs.specs.Stories.{IsStoryOf}

-- what has been sent on a link, by the node at which it begins
abbrev pub sent_by : (Number → Story) → Mail
sent_by nodes l = on_link l (node (sender_of l) (nodes (sender_of l))).acts

module _ (o : Offered) (d : Dealt) (c : List Function) (budget : ℕ) (tapes : Tapes) where
  -- three nodes with one code, one dealing and one budget; what each has received begins what its peers have sent
  pub record AreJoined (nodes : Number → Story) (mail : Mail) : Type 0 where
    pub made : (i : Number) → IsStoryOf o d c budget tapes i mail (nodes i)
    pub received : MailBegins mail (sent_by nodes)

  -- where a node has ended, it has the report's end and cost, and has opened and told all
  pub record EndsAs (r : Report) (ending : Ending) (all : List Notice) (i : Number) (s : Story) : Type 0 where
    pub ended : HasEnded (node i s).left (end.Over ending)
    pub cost : AtStop i s (λ p. budget - p.stage.left ≡ r.cost)
    pub opened : has_opened i s ≡ learned_of r.events
    pub told : has_told i s ≡ all

  pub record AgreeWith (r : Report) (nodes : Number → Story) : Type 0 where
    -- what was sent begins what is sent in the joint run
    pub sent : MailBegins (sent_by nodes) (messages d r tapes)
    -- what each has opened begins what the report opens
    pub opened : (i : Number) → Begins (has_opened i (nodes i)) (learned_of r.events)
    -- three lists of notices tell the report's events: opened and public values all three alike, private ones as shares that add up to them;
    -- what each node has told begins its own of the three
    pub all : Number → List Notice
    pub tells : Tells r.events all
    pub told : (i : Number) → Begins (has_told i (nodes i)) (all i)
    -- none refuses a message
    pub accepts : (i : Number) (l : Link) (cause : BadMessage) → stands_at i (nodes i) ≢ Refuses l cause
    pub ending : Ending
    pub stop : r.stop ≡ effects.Ended ending
    pub ended : (i : Number) → stands_at i (nodes i) ≡ AtItsEnd → EndsAs r ending (all i) i (nodes i)
