-- One miner's part of a run, by what it has: what its node comes to, what it sends, and its text.
use Rattle.std.specs.Prelude.{◌≡◌, ℕ, ◌-◌, List, ◌++◌, Option, Some, None, Result, Ok, Err, true, IfOk, IfErr, IfSome, IfNone, IsErrOf}
use Rattle.outside.specs.Links.{LinksState, JoinedOrNot}
use Rattle.outside.specs.Tapes.{TapesState, Drew}
use Rattle.sc_text.specs.declared.end.End.{End}
use Rattle.sc_text.specs.declared.end.Ending.{Ending}
use Rattle.proto_core.specs.declared.party.Number.{Number}
use Rattle.proto_core.specs.Parties.{count_of, next_of, previous_of, to_next as link_to_next, to_previous as link_to_previous}
use Rattle.proto_core.specs.Strand.{Act, Strand, told_in}
use Rattle.bytecode.specs.Raw.{RawCode}
use Rattle.input_share.specs.ShareFile.{MinerFile}
use Rattle.driven_nodes.specs.Steps.{Running, Stopped, Short}
use Rattle.gate_node.specs.Nodes.{IsTapeOf}
use Rattle.own_code.specs.OwnCode.{Ended, Reached, Unfit}
use Rattle.miner_text.specs.Lines.{text_of}
use Rattle.node_run.specs.Told.{lines_told}
use Rattle.wire.specs.declared.fields.Hello.{Hello}
use Rattle.miner_core.specs.declared.answer.Lost.{Lost}
use Rattle.miner_core.specs.declared.answer.Lost.TheVariants as lost
use Rattle.miner_core.specs.Drawing.{left_for, IsTapeFault}
use Rattle.miner_core.specs.Story.{Story, cost_in, node, strand_in}
use Rattle.miner_core.specs.Streams.{StreamState, with_tape}
use Rattle.miner_node.specs.declared.node_err.NodeErr.{NodeErr}
use Rattle.miner_node.specs.declared.node_err.NodeErr.TheVariants.{Memory}
use Rattle.miner_node.specs.declared.node_err.ServeErr.{ServeErr}
use Rattle.miner_node.specs.declared.node_err.ServeErr.TheVariants.{Node, TapeFault}
use Rattle.miner_node.specs.Order.{IsDue}
use Rattle.miner_node.specs.Peers.{Sends}
use Rattle.miner_node.specs.Tapes.{Serves}
use Rattle.miner_node.specs.Serving.{Finished, Serving, bytes_on, serving}
use Rattle.miner_node.specs.Answers.{IsStop}
use Rattle.node_run.specs.Made.{hello_of, strand_of}
use Rattle.node_run.specs.declared.running.NodeText.{NodeText}

-- what a miner has: its code and the digest of the file in which it stands, its share file, its own tape, and the budget of the run
pub record Own : Type 0 where
  pub digest : List ℕ
  pub code : RawCode
  pub share : MinerFile
  pub tape : List ℕ
  pub budget : ℕ

abbrev pub own_hello : Number → Own → Hello
own_hello me own = hello_of me own.digest own.share own.budget

abbrev pub own_strand : Number → Own → Strand Ended
own_strand me own = strand_of me own.code own.share own.tape own.budget

-- what its node comes to, and what it does, by the bytes that come from its peers
abbrev pub own_serving : Number → Own → (coming : ℕ → List ℕ) → Serving
own_serving me own coming = serving me (own_hello me own) (own_strand me own) coming

-- ---- what is sent

-- the bytes to the next miner, and to the previous one
pub record Outgoing : Type 0 where
  pub to_next : List ℕ
  pub to_previous : List ℕ

abbrev pub served_bytes : Number → Own → List Act → Outgoing
served_bytes me own acts = record {
  to_next = bytes_on (link_to_next me) (next_of me) (own_hello me own) acts;
  to_previous = bytes_on (link_to_previous me) (previous_of me) (own_hello me own) acts;
}

abbrev pub own_bytes : Number → Own → (coming : ℕ → List ℕ) → Outgoing
own_bytes me own coming = served_bytes me own (own_serving me own coming).acts

-- ---- its text

abbrev pub ended_at : Option Ending → (cost : ℕ) → Option End
ended_at None cost = None
ended_at (Some how) cost = Some (record { how = how; cost = cost })

-- how the run has ended, and at which cost; other ends verified code doesn't have
abbrev pub end_in : (budget : ℕ) → Ended → Option End
end_in budget (Reached (Stopped p) values) = ended_at p.ended (budget - p.stage.left)
end_in budget (Reached (Running p) values) = None
end_in budget (Reached (Short p) values) = None
end_in budget Unfit = None

-- what it has told, and then the end
abbrev pub node_text : List Act → End → List ℕ
node_text acts end = text_of (lines_told (told_in acts) end)

-- ---- a run

-- as it ran, by what the node comes to
module _ (me : Number) (own : Own) (old new : LinksState) (r : Serving) where
  -- its run has ended so, with this text
  pub record HasTextOf (told : NodeText) : Type 0 where
    pub last : Ended
    pub outcome : r.outcome ≡ Finished last
    pub end : end_in own.budget last ≡ Some told.end
    pub text : told.text.items ≡ node_text r.acts told.end
    pub sent : Sends me old.sent new.sent (served_bytes me own r.acts).to_next (served_bytes me own r.acts).to_previous

  abbrev pub HasStoppedOf : NodeErr → Type 0
  HasStoppedOf e = IsStop me old new r.outcome (served_bytes me own r.acts).to_next (served_bytes me own r.acts).to_previous e

module _ (me : Number) (own : Own) (old new : LinksState) where
  -- the run has ended, and the text says how; or why it stopped before
  pub record Runs (result : Result NodeText NodeErr) : Type 0 where
    pub ok : IfOk result (λ told. old.told ≡ true → HasTextOf me own old new (own_serving me own old.coming) told)
    pub err : IfErr result (HasStoppedOf me own old new (own_serving me own old.coming))

-- ---- its calls of the links

-- it joined its peers at this port, or moved nothing; and then a byte was taken only when it was due
abbrev pub JoinsInOrder : Number → Own → (port : ℕ) → (old new : LinksState) → Type 0
JoinsInOrder me own port old new = old.told ≡ true → JoinedOrNot (IsDue me (own_hello me own) (own_strand me own)) (count_of me) port old new

-- the node of a miner that was made did so, and served its links
module _ (me : Number) (port : ℕ) (hello : Hello) (old new : LinksState) (before after : TapesState) (m : StreamState) where
  pub record JoinsAndServes {A : Type 0} (result : Result A ServeErr) (miner : A → StreamState) (ending : A → Ending) : Type 0 where
    pub serves : Serves me hello old new before after m result miner ending
    pub joins :
        (tape : List ℕ) → IsTapeOf (m.story.tape ++ serves.taken) (left_for me after) tape → old.told ≡ true
        → JoinedOrNot (IsDue me hello (strand_in me (with_tape m tape))) (count_of me) port old new

-- ---- a run whose tape is drawn from a source

-- why there is no text where the miner could not be made
abbrev pub unbegun : Lost → ServeErr
unbegun lost.Memory = Node Memory
unbegun lost.TapeFault = TapeFault

-- what is answered where words of the tape couldn't be drawn is what may be where memory runs out
abbrev pub with_memory : Result NodeText ServeErr → Result NodeText NodeErr
with_memory (Ok told) = Ok told
with_memory (Err (Node e)) = Err e
with_memory (Err TapeFault) = Err Memory

-- words were drawn, and it ran so with each tape that begins with them, and has as many after them as are left; where words couldn't be drawn,
-- the source counted a fault, and was not steady
module _ (me : Number) (own : (tape : List ℕ) → Own) (old new : LinksState) (before after : TapesState) where
  pub record RunsFrom (port : ℕ) (result : Result NodeText ServeErr) : Type 0 where
    pub taken : List ℕ
    pub drew : Drew before after (count_of me) taken
    pub runs : (tape : List ℕ) → IsTapeOf taken (left_for me after) tape → Runs me (own tape) old new (with_memory result)
    pub joins : (tape : List ℕ) → IsTapeOf taken (left_for me after) tape → JoinsInOrder me (own tape) port old new
    pub fault : IsErrOf result TapeFault → IsTapeFault before after
    pub still : before.steady ≡ true → after.steady ≡ true

-- ---- a miner that has ended

-- the text of a miner with this story; the run has ended before it began, or as the miner's
pub record HasTold (me : Number) (undealt : Option Ending) (s : Story) (ending : Ending) (told : NodeText) : Type 0 where
  pub undealt_so : IfSome undealt (λ how. told.end ≡ record { how = how; cost = 0 })
  pub ended : IfNone undealt (told.end.how ≡ ending)
  pub cost : IfNone undealt (told.end.cost ≡ cost_in me s)
  pub text : told.text.items ≡ node_text (node me s).acts told.end
