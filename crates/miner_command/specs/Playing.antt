-- What a miner sent, and what it answered, by what it had read.
use Rattle.std.specs.Prelude.{◌≡◌, ◌⊎◌, ℕ, List, true, Result, Ok, Err, IsErrOf}
use Rattle.outside.specs.Files.{Contents, FilesState}
use Rattle.outside.specs.Links.{LinksState, SameLinks}
use Rattle.sc_text.specs.Fault.{file_line}
use Rattle.proto_core.specs.declared.party.Number.{Number}
use Rattle.command_frame.specs.declared.plan.Plan.{Plan}
use Rattle.command_frame.specs.declared.stop.Stop.{Stop}
use Rattle.command_frame.specs.declared.stop.Stop.TheVariants as stops
use Rattle.command_frame.specs.Answer.{Answer, Cause, breach_of, effect_of}
use Rattle.command_frame.specs.Objects.{OfObject}
use Rattle.command_frame.specs.Reads.{LinksFaulted}
use Rattle.command_frame.specs.Status.{of_peers}
use Rattle.command_frame.specs.Stops.{IsBreachFor, IsFileStop}
use Rattle.command_words.specs.Ask.{MinerAsk}
use Rattle.miner_node.specs.declared.node_err.NodeErr.{NodeErr}
use Rattle.miner_node.specs.declared.node_err.NodeErr.TheVariants.{LinkFault, PeerMismatch, BadFrame, BadMessage, Memory}
use Rattle.miner_node.specs.declared.node_err.ServeErr.{ServeErr}
use Rattle.miner_node.specs.declared.node_err.ServeErr.TheVariants.{Node, TapeFault}
use Rattle.miner_node.specs.Peers.{Sends, SendsFronts}
use Rattle.command_frame.specs.declared.fault.NodeFault.TheVariants as faults
use Rattle.node_run.specs.declared.running.NodeText.{NodeText}
use Rattle.node_run.specs.Nodes.{Outgoing, Own, own_bytes, own_serving, with_memory, JoinsInOrder, Runs}
use Rattle.tape_sources.specs.FileTapes.{file_in, words_in, TapeFaulted}
use Rattle.command_frame.specs.declared.object.Object.TheVariants as objects
use Rattle.miner_command.specs.declared.files.MinerFiles.{MinerFiles}
use Rattle.miner_command.specs.declared.opened_file.TapeFile.{TapeFile}
use Rattle.miner_command.specs.Files.{Given, given_at}
use Rattle.miner_command.specs.Views.{given_with}
use Rattle.miner_command.specs.Miner.{bad_peer, hello_field, message_fault, node_answer, nothing_sent, own_of}

-- ---- what was sent

module _ (me : Number) (old new : LinksState) where
  abbrev pub SentAll : Outgoing → Type 0
  SentAll out = Sends me old.sent new.sent out.to_next out.to_previous

  abbrev pub SentFronts : Outgoing → Type 0
  SentFronts out = SendsFronts me old.sent new.sent out.to_next out.to_previous

  -- a file stops it before it has joined its peers, and nothing was sent; or words of its tape can't be read any more, and a front of these bytes
  -- was sent to each peer
  abbrev pub SentBefore : (tape : List ℕ) → Outgoing → (line : List ℕ) → Type 0
  SentBefore tape out line = SentAll nothing_sent ⊎ ((line ≡ file_line tape) × SentFronts out)

  -- of a miner that has ended, and of one that stops at what a peer sent: exactly these bytes; where the links failed or memory ran out, a front
  -- of them for each peer; nothing where files are refused; and where one can't be read, nothing or, of its tape at this path, such a front
  abbrev pub SendsSo : (tape : List ℕ) → Outgoing → Result Plan Stop → Type 0
  SendsSo tape out (Ok plan) = SentAll out
  SendsSo tape out (Err stops.Memory) = SentFronts out
  SendsSo tape out (Err stops.Usage) = ⊥
  SendsSo tape out (Err (stops.Refused r)) = SentAll nothing_sent
  SendsSo tape out (Err (stops.Breached b)) = SentAll out
  SendsSo tape out (Err (stops.Failed object)) = OfObject (SentBefore tape out) ⊥ (SentFronts out) ⊥ object

-- where files are refused, the peers were not joined, and the links are as they were; so where one can't be read, but for words of the tape at this
-- path, which are drawn later, too
module _ (tape : List ℕ) (old new : LinksState) where
  abbrev pub LeavesLinks : Result Plan Stop → Type 0
  LeavesLinks (Ok plan) = Unit {0}
  LeavesLinks (Err stops.Memory) = Unit {0}
  LeavesLinks (Err stops.Usage) = ⊥
  LeavesLinks (Err (stops.Refused r)) = new ≡ old
  LeavesLinks (Err (stops.Breached b)) = Unit {0}
  LeavesLinks (Err (stops.Failed object)) = OfObject (λ line. (new ≡ old) ⊎ (line ≡ file_line tape)) ⊥ (Unit {0}) ⊥ object

-- ---- its calls of the links

-- by what is read of the files: the miner joins its peers at its port and uses the links in order, or moves nothing; where nothing is read of them it
-- moves nothing
abbrev pub MovesBy : MinerAsk → Result Given Cause → (old new : LinksState) → Type 0
MovesBy ask (Ok given) old new = JoinsInOrder ask.me (own_of ask given) ask.port old new
MovesBy ask (Err cause) old new = SameLinks old new

abbrev pub MovesSo : MinerAsk → Contents → (old new : LinksState) → Type 0
MovesSo ask files old new = MovesBy ask (given_at ask files) old new

-- ---- what was answered

-- the stop of a node that has no text
abbrev pub IsNodeStop : NodeErr → Stop → Type 0
IsNodeStop LinkFault stop = stop ≡ stops.Failed objects.Links
IsNodeStop (PeerMismatch field mine theirs) stop = IsBreachFor (bad_peer (faults.OtherHello (hello_field field))) stop
IsNodeStop (BadFrame place) stop = IsBreachFor (bad_peer (faults.BadFrame place)) stop
IsNodeStop (BadMessage link cause) stop = IsBreachFor (bad_peer (message_fault link cause)) stop
IsNodeStop Memory stop = stop ≡ stops.Memory

-- of one that draws its tape from the file at this path
abbrev pub IsServeStop : (tape : List ℕ) → ServeErr → Stop → Type 0
IsServeStop tape (Node e) stop = IsNodeStop e stop
IsServeStop tape TapeFault stop = IsFileStop tape stop

-- what is decided of the bytes that come; of files the tape alone stops it then
module _ (tape : List ℕ) (files files' : FilesState) (old new : LinksState) where
  abbrev pub AnswersSo : Result Plan Stop → Answer → Type 0
  AnswersSo (Ok plan) decided = old.told ≡ true → decided ≡ Ok (effect_of plan)
  AnswersSo (Err stops.Memory) decided = Unit {0}
  AnswersSo (Err stops.Usage) decided = ⊥
  AnswersSo (Err (stops.Refused r)) decided = ⊥
  AnswersSo (Err (stops.Breached b)) decided = (of_peers b.status ≡ true) × (old.told ≡ true → decided ≡ Err (breach_of b))
  AnswersSo (Err (stops.Failed object)) decided =
      OfObject (λ line. (line ≡ file_line tape) × TapeFaulted files files') ⊥ (LinksFaulted (old.told ≡ true) old new decided) ⊥ object

-- a miner has played its part with what it has read, and such a tape
pub record Plays (ask : MinerAsk) (given : Given) (files files' : FilesState) (old new : LinksState) (result : Result Plan Stop) : Type 0 where
  pub answers : AnswersSo ask.tape files files' old new result (node_answer ask (own_serving ask.me (own_of ask given) old.coming))
  pub sends : old.told ≡ true → SendsSo ask.me old new ask.tape (own_bytes ask.me (own_of ask given) old.coming) result
  pub joins : JoinsInOrder ask.me (own_of ask given) ask.port old new

-- the same with the tape in the file, where the store tells it, and else with one that begins with the words that were drawn
pub record PlaysOn (ask : MinerAsk) (read : MinerFiles) (files files' : FilesState) (old new : LinksState) (result : Result Plan Stop) : Type 0 where
  pub tape : List ℕ
  pub there : files.told ≡ true → tape ≡ words_in (file_in files ask.tape) 8 read.tape.words
  pub plays : Plays ask (given_with read tape) files files' old new result

-- a node ran so, with such a tape
pub record RunsOn (me : Number) (own : (tape : List ℕ) → Own) (file : TapeFile) (path : List ℕ) (files files' : FilesState) (old new : LinksState)
    (port : ℕ) (result : Result NodeText ServeErr) : Type 0 where
  pub tape : List ℕ
  pub there : files.told ≡ true → tape ≡ words_in (file_in files path) 8 file.words
  pub runs : Runs me (own tape) old new (with_memory result)
  pub joins : JoinsInOrder me (own tape) port old new
  pub fault : IsErrOf result TapeFault → TapeFaulted files files'
