-- The command `miner`: one of three miners runs code on its shares, and serves the links to the other two. Its text is written to a file, and
-- nothing is printed.
use Rattle.std.specs.Prelude.{ℕ, List, [], ◌∷◌, Option, Some, None, Result, Ok, Err}
use Rattle.outside.specs.Files.{Contents}
use Rattle.command_frame.specs.Answer.{Answer, Cause, Effect, ◌>>=◌}
use Rattle.command_frame.specs.Reads.{cut_off}
use Rattle.command_frame.specs.Stops.{memory_line}
use Rattle.command_frame.specs.declared.status.Status.TheVariants.{Memory, Peer}
use Rattle.command_words.specs.Ask.{MinerAsk}
use Rattle.sc_text.specs.declared.end.End.{End}
use Rattle.proto_core.specs.declared.link.Link.{Link}
use Rattle.proto_core.specs.declared.refused.BadMessage.{BadMessage}
use Rattle.proto_core.specs.declared.refused.BadMessage.TheVariants as refusals
use Rattle.proto_core.specs.Strand.{Act}
use Rattle.wire.specs.declared.fields.Field.{Field}
use Rattle.wire.specs.declared.fields.Field.TheVariants as fields
use Rattle.command_frame.specs.Faults.{node_fault_line}
use Rattle.command_frame.specs.declared.fault.NodeFault.{NodeFault}
use Rattle.command_frame.specs.declared.fault.NodeFault.TheVariants as faults
use Rattle.command_frame.specs.declared.kinds.HelloField.{HelloField}
use Rattle.command_frame.specs.declared.kinds.HelloField.TheVariants as hello_fields
use Rattle.miner_node.specs.Serving.{Outcome, Finished, Mismatch, NoFrame, Refused, CutOff, Serving}
use Rattle.node_run.specs.Nodes.{Outgoing, Own, end_in, node_text, own_bytes, own_serving}
use Rattle.program_commands.specs.Ends.{ending_status}
use Rattle.miner_command.specs.Files.{Given, given_at}

-- ---- what a peer sends that it must not send

abbrev pub hello_field : Field → HelloField
hello_field fields.Version = hello_fields.Version
hello_field fields.Sender = hello_fields.Sender
hello_field fields.Receiver = hello_fields.Receiver
hello_field fields.Code = hello_fields.Code
hello_field fields.Public = hello_fields.Public

abbrev pub message_fault : Link → BadMessage → NodeFault
message_fault link (refusals.BadLength want have) = faults.OtherLength link want have
message_fault link (refusals.NotABit place word) = faults.NotABit link place word

unfoldable pub bad_peer : NodeFault → Cause
bad_peer fault = record { status = Peer; line = node_fault_line fault }

-- ---- how it ends

-- the text is written, and the status is that of the end
abbrev pub text_effect : (out text : List ℕ) → End → Effect
text_effect out text end = record { writes = record { path = out; bytes = text } ∷ []; text = []; status = ending_status end.how }

-- an end that verified code doesn't have
abbrev pub no_end : Cause
no_end = record { status = Memory; line = memory_line }

abbrev pub ended_answer : (out : List ℕ) → List Act → Option End → Answer
ended_answer out acts None = Err no_end
ended_answer out acts (Some end) = Ok (text_effect out (node_text acts end) end)

-- what comes of a node that has done this and comes to this
abbrev pub answer_at : MinerAsk → List Act → Outcome → Answer
answer_at ask acts (Finished last) = ended_answer ask.out acts (end_in ask.budget last)
answer_at ask acts (Mismatch field mine theirs) = Err (bad_peer (faults.OtherHello (hello_field field)))
answer_at ask acts (NoFrame place) = Err (bad_peer (faults.BadFrame place))
answer_at ask acts (Refused link cause) = Err (bad_peer (message_fault link cause))
answer_at ask acts CutOff = Err cut_off

-- ---- the whole

abbrev pub own_of : MinerAsk → Given → Own
own_of ask given =
    record { digest = given.code.digest; code = given.code.code; share = given.share; tape = given.tape; budget = ask.budget }

-- the files are read and checked; then the node serves its links, on which these bytes come from each peer
unfoldable pub miner_of : MinerAsk → Contents → (coming : ℕ → List ℕ) → Answer
miner_of ask files coming = do
  given ← given_at ask files
  let node : Serving = own_serving ask.me (own_of ask given) coming in answer_at ask node.acts node.outcome

abbrev pub node_answer : MinerAsk → Serving → Answer
node_answer ask r = answer_at ask r.acts r.outcome

-- ---- what is sent

abbrev pub sent_with : MinerAsk → Result Given Cause → (coming : ℕ → List ℕ) → Outgoing
sent_with ask (Ok given) coming = own_bytes ask.me (own_of ask given) coming
sent_with ask (Err cause) coming = record { to_next = []; to_previous = [] }

-- to the next miner and to the previous one; nothing before the files are read and checked
unfoldable pub sent_of : MinerAsk → Contents → (coming : ℕ → List ℕ) → Outgoing
sent_of ask files coming = sent_with ask (given_at ask files) coming

abbrev pub nothing_sent : Outgoing
nothing_sent = record { to_next = []; to_previous = [] }
