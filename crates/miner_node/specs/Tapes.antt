-- A node whose miner draws its tape from a source.
use Rattle.std.specs.Prelude.{◌≡◌, ℕ, List, [], ◌++◌, true, Some, None, Result, Ok, Err, OnOk, IfOk, IfErr}
use Rattle.outside.specs.Links.{LinksState}
use Rattle.outside.specs.Tapes.{TapesState, Drew}
use Rattle.proto_core.specs.declared.party.Number.{Number}
use Rattle.proto_core.specs.Parties.{count_of}
use Rattle.sc_text.specs.declared.end.Ending.{Ending}
use Rattle.gate_node.specs.Nodes.{IsTapeOf}
use Rattle.miner_core.specs.declared.answer.Step.{Step}
use Rattle.miner_core.specs.declared.answer.Lost.TheVariants as lost
use Rattle.miner_core.specs.declared.answer.MinerErr.{MinerErr}
use Rattle.miner_core.specs.declared.answer.MinerErr.TheVariants as miner_error
use Rattle.miner_core.specs.declared.kept.Kept.TheVariants.{All}
use Rattle.miner_core.specs.Drawing.{left_for, IsTapeFault}
use Rattle.miner_core.specs.Streams.{StreamState, with_tape}
use Rattle.wire.specs.declared.fields.Hello.{Hello}
use Rattle.miner_node.specs.declared.node_err.NodeErr.{NodeErr}
use Rattle.miner_node.specs.declared.node_err.NodeErr.TheVariants.{BadMessage, Memory}
use Rattle.miner_node.specs.declared.node_err.ServeErr.{ServeErr}
use Rattle.miner_node.specs.declared.node_err.ServeErr.TheVariants.{Node, TapeFault}
use Rattle.miner_core.specs.Story.{strand_in}
use Rattle.miner_node.specs.Order.{InOrder}
use Rattle.miner_node.specs.Serves.{HasServed, HasStopped}

-- nothing was delivered to a miner that keeps all, it is of use, and the source has the words that it has not drawn
pub record IsReady (i : Number) (m : StreamState) (tapes : TapesState) : Type 0 where
  pub kept : m.past ≡ All
  pub going : m.lost ≡ None
  pub previous : m.story.from_previous ≡ []
  pub next : m.story.from_next ≡ []
  pub left : left_for i tapes ≡ m.ahead

module _ (i : Number) (before after : StreamState) (old new : TapesState) where
  -- these words more were drawn, and the miner is of use
  pub record HasGone (taken : List ℕ) : Type 0 where
    pub going : after.lost ≡ None
    pub tape : after.story.tape ≡ before.story.tape ++ taken
    pub left : left_for i new ≡ after.ahead
    pub past : after.past ≡ before.past

  -- words were drawn; and this holds for each tape that begins with all that were, and has as many after them as are left
  pub record Along {A : Type 0} (result : Result A NodeErr) (Q : List ℕ → Type 0) : Type 0 where
    pub taken : List ℕ
    pub drew : Drew old new (count_of i) taken
    pub holds : (tape : List ℕ) → IsTapeOf (before.story.tape ++ taken) (left_for i new) tape → Q tape
    pub ok : OnOk result (HasGone taken)
    pub cause : after.lost ≡ Some lost.TapeFault → IsTapeFault old new
    pub still : old.steady ≡ true → new.steady ≡ true

-- ---- a node that serves its links

-- what a node answers to a delivery
abbrev pub node_answer : Result Step MinerErr → Result (Unit {0}) NodeErr
node_answer (Ok step) = Ok tt
node_answer (Err (miner_error.BadMessage link cause)) = Err (BadMessage link cause)
node_answer (Err (miner_error.NotAwaited link)) = Err Memory
node_answer (Err (miner_error.Lost why)) = Err Memory

-- why it stopped: where memory runs out the miner may have lost its tape
abbrev pub StoppedBy : NodeErr → StreamState → ServeErr → Type 0
StoppedBy e m (Node x) = x ≡ e
StoppedBy e m TapeFault = (e ≡ Memory) × (m.lost ≡ Some lost.TapeFault)

-- the miner's run has ended so, or the node stopped for this cause: with each tape that begins with all words drawn, and has as many after them as are left
module _ (i : Number) (hello : Hello) (old new : LinksState) (before after : TapesState) (m : StreamState) where
  pub record EndsSo (taken : List ℕ) (last : StreamState) (ending : Ending) : Type 0 where
    pub gone : HasGone i m last before after taken
    pub served :
        (tape : List ℕ) → IsTapeOf (m.story.tape ++ taken) (left_for i after) tape → HasServed i hello old new (with_tape m tape) (with_tape last tape) ending

  abbrev pub StopsFor : (taken : List ℕ) → NodeErr → Type 0
  StopsFor taken e = (tape : List ℕ) → IsTapeOf (m.story.tape ++ taken) (left_for i after) tape → HasStopped i hello old new (with_tape m tape) e

  -- where the tape failed, it has sent what it may have where memory runs out; the source counted a fault, and was not steady
  abbrev pub StopsSo : (taken : List ℕ) → ServeErr → Type 0
  StopsSo taken (Node e) = StopsFor taken e
  StopsSo taken TapeFault = StopsFor taken Memory × IsTapeFault before after

  pub record Serves {A : Type 0} (result : Result A ServeErr) (miner : A → StreamState) (ending : A → Ending) : Type 0 where
    pub taken : List ℕ
    pub drew : Drew before after (count_of i) taken
    pub ok : IfOk result (λ s. EndsSo taken (miner s) (ending s))
    pub err : IfErr result (StopsSo taken)
    pub still : before.steady ≡ true → after.steady ≡ true

  -- and its calls of the links were in order
  pub record ServesInOrder {A : Type 0} (result : Result A ServeErr) (miner : A → StreamState) (ending : A → Ending) : Type 0 where
    pub serves : Serves result miner ending
    pub order :
        (tape : List ℕ) → IsTapeOf (m.story.tape ++ serves.taken) (left_for i after) tape
        → InOrder i hello (strand_in i (with_tape m tape)) old new
