-- THREE SERVED MINERS: three with the code of one program, the share files and own tapes of one dealing, and one budget, that run as programs of their
-- own. To each has come on its links a front of the bytes that its peers have sent.
use Rattle.std.specs.Prelude.{◌≡◌, ℕ, List, ◌++◌, if◌then◌else◌, length, Some, Ok}
use Rattle.sc_text.specs.declared.end.End.{End}
use Rattle.sc_text.specs.Event.{run_text}
use Rattle.proto_core.specs.declared.party.Number.{Number}
use Rattle.proto_core.specs.declared.link.Link.{Link}
use Rattle.proto_core.specs.Parties.{count_of, is_forward, receiver_of, sender_of}
use Rattle.proto_core.specs.Strand.{Begins, Notice, opened_in, told_in}
use Rattle.bytecode.specs.Raw.{RawCode}
use Rattle.program_trees.specs.TypedPrograms.{TypedProgramTree}
use Rattle.value_file.specs.declared.inputs.Entry.{Entry}
use Rattle.tape_file.specs.Tapes.{FourTapes}
use Rattle.input_share.specs.Dealing.{dealt}
use Rattle.view_model.specs.TapeMaps.{miners_of}
use Rattle.language_model.specs.Effects as effects
use Rattle.language_model.specs.Learned.{learned_of}
use Rattle.language_model.specs.Reports.{Report}
use Rattle.program_run.specs.Accepted.{IsAccepted}
use Rattle.program_run.specs.Codes.{IsCodeOf}
use Rattle.program_run.specs.Dealt.{CanBeDealt}
use Rattle.program_run.specs.Inputs.{dealt_of}
use Rattle.program_run.specs.Reports.{eval_with, lengths_of}
use Rattle.joined_nodes.specs.Runs.{messages}
use Rattle.joined_nodes.specs.Telling.{Tells}
use Rattle.joined_nodes.specs.OwnCode.{Ended}
use Rattle.miner_text.specs.Texts.{IsEnd}
use Rattle.view_laws.specs.Views.{AreCounted}
use Rattle.trio.specs.Answers.{join_of}
use Rattle.wire.specs.Hellos.{hello_bytes}
use Rattle.miner_node.specs.Serving.{CutOff, Finished, Serving, frames, hello_to}
use Rattle.node_run.specs.Nodes.{Outgoing, Own, end_in, node_text, own_bytes, own_hello, own_serving}

-- ---- where a miner stands

module _ (budget : ℕ) (end : End) (opened : List ℕ) (told : List Notice) (served : Serving) where
  -- its run has ended so, and it has opened and told all
  pub record HasEndedSo : Type 0 where
    pub last : Ended
    pub comes : served.outcome ≡ Finished last
    pub ends : end_in budget last ≡ Some end
    pub opened_all : opened_in served.acts ≡ opened
    pub told_all : told_in served.acts ≡ told

  -- it waits for more of what its peers send, or has ended so: it refuses nothing
  pub data WaitsOrHasEnded : Type 0 where
    waits : served.outcome ≡ CutOff → WaitsOrHasEnded
    has_ended : HasEndedSo → WaitsOrHasEnded

-- ---- the three

module _ (p : TypedProgramTree) (entries : List Entry) (t : FourTapes) (budget : ℕ) (digest : List ℕ) (code : RawCode) where
  -- what a miner has: the code, and the digest of the file in which it stands; its share file of the dealing, and its own tape
  abbrev pub part_of : Number → Own
  part_of i = record { digest = digest; code = code; share = dealt i entries t.dealer (lengths_of t); tape = miners_of t i; budget = budget }

  -- what the joint run sends on a link, as bytes: the hello, and then the frames of its messages
  abbrev pub run_bytes : Link → List ℕ
  run_bytes l =
      hello_bytes (hello_to (own_hello (sender_of l) (part_of (sender_of l))) (receiver_of l))
      ++ frames (messages (dealt_of entries t.dealer) (eval_with p entries t budget) (miners_of t) l)

  -- by the bytes that have come to each miner from a peer of this number
  module _ (coming : Number → ℕ → List ℕ) where
    -- what a miner comes to, and has done
    abbrev pub served : Number → Serving
    served i = own_serving i (part_of i) (coming i)

    abbrev pub bytes_of : Number → Outgoing
    bytes_of i = own_bytes i (part_of i) (coming i)

    -- the bytes that were sent on a link, and those that have come on it
    abbrev pub sent_on : Link → List ℕ
    sent_on l = if is_forward l then (bytes_of (sender_of l)).to_next else (bytes_of (sender_of l)).to_previous

    abbrev pub came_on : Link → List ℕ
    came_on l = coming (receiver_of l) (count_of (sender_of l))

    pub record AreServed : Type 0 where
      pub accepted : IsAccepted p
      pub written : IsCodeOf p code
      pub size : length digest ≡ 32
      pub can : CanBeDealt entries t
      pub came : (l : Link) → Begins (came_on l) (sent_on l)

    -- beside this report of the run in the clear
    pub record AgreeWithTheRun (r : Report) : Type 0 where
      pub sent : (l : Link) → Begins (sent_on l) (run_bytes l)
      pub opened : (i : Number) → Begins (opened_in (served i).acts) (learned_of r.events)
      -- three lists of notices tell the report's events: opened and public values all three alike, private ones as shares that add up to them;
      -- what each miner has told begins its own of the three
      pub all : Number → List Notice
      pub tells : Tells r.events all
      pub told : (i : Number) → Begins (told_in (served i).acts) (all i)
      -- each waits for more, or has ended as the report does; and where all that was sent has come, each has ended
      pub end : End
      pub how : r.stop ≡ effects.Ended end.how
      pub cost : end.cost ≡ r.cost
      pub each : (i : Number) → WaitsOrHasEnded budget end (learned_of r.events) (all i) (served i)
      pub finished : ((l : Link) → came_on l ≡ sent_on l) → (i : Number) → HasEndedSo budget end (learned_of r.events) (all i) (served i)
      -- this end can be written: its numbers have room, where 64 bits count the steps of the budget, the inputs, and the words of each tape
      pub end_fits : AreCounted entries t budget → IsEnd end
      -- and then the texts of three that have ended are put together to the text of the run
      pub texts :
          IsEnd end → ((i : Number) → HasEndedSo budget end (learned_of r.events) (all i) (served i))
          → join_of (λ i. Some (node_text (served i).acts end)) ≡ Ok (record { text = run_text r.events end; end = end })

    -- they agree with the program's evaluation
    abbrev pub ServedAgree : Type 0
    ServedAgree = AreServed → AgreeWithTheRun (eval_with p entries t budget)
