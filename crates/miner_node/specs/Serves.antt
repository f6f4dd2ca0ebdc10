-- What is promised of a node.
use Rattle.std.specs.Prelude.{◌≡◌, ℕ, List, [], false, true, Result, OnOk, IfOk, IfErr}
use Rattle.outside.specs.Links.{LinksState}
use Rattle.proto_core.specs.declared.party.Number.{Number}
use Rattle.proto_core.specs.declared.link.Link.{Link}
use Rattle.proto_core.specs.Standing.{Refuses}
use Rattle.sc_text.specs.declared.end.Ending.{Ending}
use Rattle.miner_core.specs.declared.answer.End.TheVariants as end
use Rattle.miner_core.specs.Story.{Story, received, strand_in, node, stands_at, HasEnded}
use Rattle.wire.specs.declared.fields.Hello.{Hello}
use Rattle.miner_node.specs.declared.node_err.NodeErr.{NodeErr}
use Rattle.miner_node.specs.declared.node_err.NodeErr.TheVariants.{LinkFault, PeerMismatch, BadFrame, BadMessage, Memory}
use Rattle.miner_node.specs.Faults.{IsLater}
use Rattle.miner_node.specs.Order.{InOrder}
use Rattle.miner_node.specs.Peers.{Sends}
use Rattle.miner_node.specs.Serving.{Serving, serving, bytes_to_next, bytes_to_previous}
use Rattle.miner_node.specs.Answers.{IsStop}
use Rattle.miner_node.specs.Turns.{IsAtEase, SameTask, HasFinished}

-- nothing was delivered to a miner, and it had memory
pub record IsFresh (s : Story) : Type 0 where
  pub going : s.lost ≡ false
  pub previous : s.from_previous ≡ []
  pub next : s.from_next ≡ []

-- a message is delivered; it may be refused
module _ (i : Number) (before after : Story) (link : Link) (message : List ℕ) where
  abbrev pub IsRefusedSo : NodeErr → Type 0
  IsRefusedSo LinkFault = ⊥
  IsRefusedSo (PeerMismatch field mine theirs) = ⊥
  IsRefusedSo (BadFrame place) = ⊥
  IsRefusedSo (BadMessage refused cause) = (after ≡ received i before link message) × (stands_at i after ≡ Refuses refused cause)
  IsRefusedSo Memory = Unit {0}

  pub record DeliversOne {T : Type 0} (result : Result T NodeErr) : Type 0 where
    pub ok : OnOk result ((after ≡ received i before link message) × IsAtEase i after)
    pub err : IfErr result IsRefusedSo

module _ (i : Number) (hello : Hello) (old new : LinksState) (first : Story) where
  -- what the node comes to that begins with this story, by the bytes that were to come
  abbrev pub from_hellos : Serving
  from_hellos = serving i hello (strand_in i first) old.coming

  -- its run has ended so: it has done all that those bytes lead to, and sent exactly the bytes of that
  pub record HasServed (s : Story) (ending : Ending) : Type 0 where
    pub going : s.lost ≡ false
    pub task : SameTask first s
    pub ended : HasEnded (node i s).left (end.Over ending)
    pub served : old.told ≡ true → HasFinished i s from_hellos
    pub sent :
        old.told ≡ true → Sends i old.sent new.sent (bytes_to_next i hello from_hellos.acts) (bytes_to_previous i hello from_hellos.acts)

  -- why it stopped before that, and what it had sent
  abbrev pub HasStopped : NodeErr → Type 0
  HasStopped e = IsStop i old new from_hellos.outcome (bytes_to_next i hello from_hellos.acts) (bytes_to_previous i hello from_hellos.acts) e

  pub record Exchanges (s : Story) (result : Result Ending NodeErr) : Type 0 where
    pub ok : IfOk result (HasServed s)
    pub err : IfErr result HasStopped
    pub order : InOrder i hello (strand_in i first) old new
    pub later : IsLater old new
