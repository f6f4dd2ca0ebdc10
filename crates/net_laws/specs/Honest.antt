-- Three miners of one dealing that send each other what they do: none refuses a message, and who waits waits for a message of the run.
use Rattle.std.specs.Prelude.{◌≡◌, ◌≢◌, ◌<◌, ℕ, List, length}
use Rattle.proto_core.specs.declared.party.Number.{Number}
use Rattle.proto_core.specs.declared.link.Link.{Link}
use Rattle.proto_core.specs.declared.refused.BadMessage.{BadMessage}
use Rattle.proto_core.specs.Parties.{receiver_of}
use Rattle.proto_core.specs.Strand.{Mail}
use Rattle.proto_core.specs.Standing.{Standing, Awaits, Refuses, standing_of}
use Rattle.protocol_model.specs.Runs.{Tapes}
use Rattle.language_model.specs.Reports.{Report, Offered}
use Rattle.verified_code.specs.Steps.{Function}
use Rattle.code_places.specs.Dealt.{Dealt}
use Rattle.miner_core.specs.Story.{Story, stands_at}
use Rattle.miner_runs.specs.Runs.{messages}
use Rattle.miner_runs.specs.OwnRuns.{public_world}
use Rattle.joined_nodes.specs.Joined.{sent_by}
use Rattle.link_schedule.specs.Net.{NetState, own_in, net_mail, net_node, net_posted}
use Rattle.framed_runs.specs.Framing.{CanBeFramed}

-- a miner that stands so, where these messages came and those are all of the run: it refuses none, and where it waits, its link ends at it, and
-- the run has a further message there
pub record GoesOn (full mail : Mail) (i : Number) (at : Standing) : Type 0 where
  pub accepts : (l : Link) (cause : BadMessage) → at ≢ Refuses l cause
  pub own_link : (l : Link) → at ≡ Awaits l → receiver_of l ≡ i
  pub further : (l : Link) → at ≡ Awaits l → length (mail l) < length (full l)

module _ (d : Dealt) (tapes : Tapes) (r : Report) where
  -- so does each of three nodes, and what they sent can be framed
  pub record NodesGoOn (nodes : Number → Story) (mail : Mail) : Type 0 where
    pub each : (i : Number) → GoesOn (messages d r tapes) mail i (stands_at i (nodes i))
    pub frames : CanBeFramed (sent_by nodes)

  -- and each of three miners in a net
  pub record NetGoesOn (net : NetState) : Type 0 where
    pub each : (i : Number) → GoesOn (messages d r tapes) (net_mail net) i (standing_of (net_node net i))
    pub frames : CanBeFramed (net_posted net)

-- a net of three miners with one code, one dealing and one budget, whatever was delivered, in whatever order
pub record IsNetOf (o : Offered) (d : Dealt) (c : List Function) (budget : ℕ) (tapes : Tapes) (net : NetState) : Type 0 where
  pub world : net.world ≡ public_world o
  pub code : net.code ≡ c
  pub steps : net.budget ≡ budget
  pub own : (i : Number) → own_in net i ≡ record { dealt = d.shares i; tape = tapes i }
